use Rattle.std.proofs.Common.{◌≡◌, vec_items, take}
use Rattle.words.specs.Words.{bytes_of as bytes_in}
use Rattle.words.proofs.bytes.bytes_of.Given as goal

abbrev pub invariant-loop-word : goal.invariant-loop-word
invariant-loop-word l = vec_items l.file ≡ bytes_in (take l.word-index l.words)
