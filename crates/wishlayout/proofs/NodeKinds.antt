-- A node word with an unused bit set is refused for it.
use Rattle.std.proofs.Common.{◌≡◌, ℕ, Err, rules}
use Rattle.refusal.specs.declared.Refusal.{Refusal}
use Rattle.words.specs.Words.{kind}
use Rattle.words.specs.Format.{opened}
use Rattle.wishlayout.specs.declared.NodeKind.{NodeKind}
use Rattle.wishlayout.specs.declared.NodeKind.TheVariants.{Label, Not, And, Or, Previous, Since, Always, Once, True}
use Rattle.wishlayout.specs.Kinds.{number_of, width_of}
use Rattle.wishlayout.specs.OneWord.{node_of}

pub unused : (count w n b : ℕ) (k : NodeKind) (r : Refusal) → number_of k ≡ kind w → n ≡ number_of k → b ≡ width_of k → Err r ≡ opened n b w → node_of count w ≡ Err r
unused count w n b Label r is e f g = search rules
unused count w n b Not r is e f g = search rules
unused count w n b And r is e f g = search rules
unused count w n b Or r is e f g = search rules
unused count w n b Previous r is e f g = search rules
unused count w n b Since r is e f g = search rules
unused count w n b Always r is e f g = search rules
unused count w n b Once r is e f g = search rules
unused count w n b True r is e f g = search rules
