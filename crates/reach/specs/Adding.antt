-- What listing several codes does to a register.
use Rattle.std.specs.Prelude.{◌≡◌, ⊤, ℕ, ◌<◌, ◌≤◌, List, length, drop, Ok, Err, Result, min, nat_eq}
use Rattle.std.specs.declared.cmp.PartialEq as equality
use Rattle.refusal.specs.declared.Refusal.{Refusal}
use Rattle.refusal.specs.declared.Refusal.TheVariants.{TooManyStates}
use Rattle.register.specs.declared.Key as key
use Rattle.register.specs.declared.Register.{Register}
use Rattle.register.specs.Keys.{enter_all}
use Rattle.register.specs.Register.{keys_of}

-- how many states are listed at most over a table of n places
abbrev pub room_in : ℕ → ℕ
room_in n = min n 4096

module _ {k : key.Ghosts ℕ} {e : equality.Ghosts ℕ} where
  -- all of the codes are listed, or there are more than the room
  abbrev pub Added : List ℕ → Register ℕ k e → Register ℕ k e → Result ⊤ Refusal → Type 0
  Added codes before after (Ok _) = keys_of after ≡ enter_all nat_eq (keys_of before) codes
  Added codes before after (Err r) =
      (r ≡ TooManyStates)
      × (room_in (length before.keys.now) < length (enter_all nat_eq (keys_of before) codes))

  -- codes are listed in the same table, which is as it was after them, and no more than 4,096 where
  -- no more were
  pub record Onto (before after : Register ℕ k e) : Type 0 where
    pub more : before.len ≤ after.len
    pub few : before.len ≤ 4096 → after.len ≤ 4096
    pub rest : drop after.len after.keys.now ≡ drop after.len before.keys.now
    pub room : length after.keys.now ≡ length before.keys.now
    pub lent : after.keys.ghost_name ≡ before.keys.ghost_name

  -- codes are added to the same table
  pub record AddsCodes (codes : List ℕ) (before after : Register ℕ k e) (answer : Result ⊤ Refusal) : Type 0 where
    pub added : Added codes before after answer
    pub onto : Onto before after
