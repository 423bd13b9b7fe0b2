-- A number below 1000 in three places, with zeros before it, is its three digits: tested at each. For others: `three_wide`.
use Rattle.std.proofs.Common.{◌≡◌, ℕ, ◌<◌, Bool, true, List, refl}
use Rattle.std.proofs.lemmas.Bool.{agree_below, agree_below_at}
use Rattle.std.proofs.lemmas.Slice.Eq.{bytes_eq-Decides}
use Rattle.std.specs.Fmt.{digits, char_count, padded_integral, format_spec, styled_decimal}
use Rattle.std.specs.Str.{bytes_eq}
use Rattle.slotplan.specs.Figures.{three_digits}

-- what `{:03}` writes
abbrev pub wide : ℕ → List ℕ
wide n = styled_decimal (format_spec 32 0 4 3 18446744073709551615) n

abbrev same : ℕ → Bool
same n = bytes_eq (wide n) (three_digits n)

all_same : agree_below same (λ n. true) 1000 ≡ true
unfolding digits char_count padded_integral
all_same = refl

pub three_wide : (n : ℕ) → n < 1000 → wide n ≡ three_digits n
three_wide n small = (bytes_eq-Decides (wide n) (three_digits n)).0 (agree_below_at same (λ n. true) 1000 n all_same small)
