-- What a wish book says: formulas as node words whose operands number earlier ones, and wishes, each the number of a node word
-- and an amount. The wishes need at most 16 memory items.
use Rattle.std.specs.Prelude.{ℕ, Bool, true, ◌&&◌, List, map, length, ℤ, pos, ◌-ℤ◌, nat_le, nat_lt}
use Rattle.formula.specs.declared.Node.{Node}
use Rattle.formula.specs.declared.Node.TheVariants.{Label}
use Rattle.formula.specs.declared.Item.{Item}
use Rattle.formula.specs.Formulas.{earlier}
use Rattle.formula.specs.Items.{items_of}
use Rattle.words.specs.Tests.{all, within}
use Rattle.wishlayout.specs.declared.Wish.{Wish}

pub record Wishes : Type 0 where
  pub nodes : List Node
  pub wishes : List Wish

-- the memory items that the wishes need
abbrev pub items_for : List Node → List Wish → List Item
items_for ns ws = items_of ns (map (λ w. w.node) ws)

abbrev pub good_label : Node → Bool
good_label (Label p) = nat_lt p 32
good_label n = true

-- the amount of a wish
abbrev pub amount : Wish → ℤ
amount w = pos w.raised -ℤ pos 255

-- a wish names a node word, and its amount plus 255 has nine bits
abbrev pub good_wish : ℕ → Wish → Bool
good_wish count w = nat_lt w.node count && nat_lt w.raised 512

-- what a wish book may say
abbrev pub valid : Wishes → Bool
valid b =
    within 1 128 (length b.nodes)
    && (earlier b.nodes
    && (all good_label b.nodes
    && (within 1 16 (length b.wishes)
    && (all (good_wish (length b.nodes)) b.wishes
    && nat_le (length (items_for b.nodes b.wishes)) 16))))
