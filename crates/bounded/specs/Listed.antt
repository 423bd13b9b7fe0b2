-- What a bounded list holds, in order: the first `len` of its places.
use Rattle.std.specs.Prelude.{ℕ, List, take}
use Rattle.bounded.specs.declared.Bounded.{Bounded}

abbrev pub listed : {T : Type 0} {most : ℕ} → Bounded T most → List T
listed b = take b.len b.places
