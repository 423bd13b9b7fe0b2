-- The keys that a register holds, in the order of entry.
use Rattle.std.specs.Prelude.{List, take}
use Rattle.std.specs.declared.cmp.PartialEq as equality
use Rattle.register.specs.declared.Key as key
use Rattle.register.specs.declared.Register.{Register}

abbrev pub keys_of : {K : Type 0} {k : key.Ghosts K} {e : equality.Ghosts K} → Register K k e
    → List K
keys_of r = take r.len r.keys.now
