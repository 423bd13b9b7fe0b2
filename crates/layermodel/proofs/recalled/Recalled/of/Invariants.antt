-- The tables tell what the items entered so far recall.
use Rattle.std.proofs.Common.{◌≡◌, ◌<◌, length}
use Rattle.formula.specs.declared.Item.{Item}
use Rattle.wishbook.specs.Contents.{contents}
use Rattle.layermodel.specs.Verdicts.{node_of, recalled_by}
use Rattle.layermodel.proofs.Recalling.{Left, recalled_from}
use Rattle.layermodel.proofs.recalled.Recalled.of.Given as goal

abbrev pub invariant-loop-place : goal.invariant-loop-place
invariant-loop-place l =
    let items = (contents l.book).items in
    let rest = l.place-iterator.iter.iter.rest.now in
    (l.place-iterator.iter.count ≡ 0)
    × (Left items rest × ((x : Item) → node_of x < 128 → recalled_by l.all x ≡ recalled_from items l.memory (length rest) x))
