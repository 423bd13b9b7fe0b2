-- What every wish book in memory keeps.
use Rattle.std.specs.Prelude.{◌≤◌, length}
use Rattle.bounded.proofs.Few.{few}
use Rattle.wishbook.specs.declared.book.WishBook.{WishBook}
use Rattle.wishbook.specs.Contents.{contents}
use Rattle.layermodel.specs.Records.{SoundBook}

pub few_nodes : (w : WishBook) → length (contents w).nodes ≤ 128
few_nodes w = few w.nodes

pub few_wishes : (w : WishBook) → length (contents w).wishes ≤ 16
few_wishes w = few w.wishes

pub few_items : (w : WishBook) → length (contents w).items ≤ 16
few_items w = few w.items

pub kept : (w : WishBook) → SoundBook (contents w)
kept w = record { names = w.sound; remembers = w.remembers; few = few_items w }
