-- The keys that a register with no index holds, in the order of entry.
use Rattle.std.specs.Prelude.{List, take}
use Rattle.std.specs.declared.cmp.PartialEq as equality
use Rattle.register.specs.declared.few.Few.{Few}

abbrev pub few_of : {K : Type 0} {e : equality.Ghosts K} → Few K e → List K
few_of r = take r.len r.keys.now
