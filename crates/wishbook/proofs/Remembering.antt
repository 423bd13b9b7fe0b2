-- A book keeps the items that its rewards need.
use Rattle.std.proofs.Common.{◌≡◌, ℕ, ◌<◌, ◌≤◌, Bool, true, false, map, length, get_or, Ok, Err, IfOk, Result, sym, refl, ap, ◌∙◌, subst, inl, inr, ⊎_elim, arith}
use Rattle.std.specs.List.{Contains}
use Rattle.std.proofs.lemmas.List.{get_or_past}
use Rattle.std.proofs.lemmas.Bool.{both_ways, and_parts, ltb-true, cases_lt}
use Rattle.bounded.specs.Listed.{listed}
use Rattle.formula.specs.declared.Node.{Node}
use Rattle.formula.specs.declared.Node.TheVariants.{Label, True, Not, And, Or, Previous, Since, Always, Once}
use Rattle.formula.specs.declared.Item.TheVariants.{Held}
use Rattle.formula.specs.Formulas.{earlier, operands_below}
use Rattle.formula.specs.Items.{lasting, is_always, kept_items, Selected}
use Rattle.formula.specs.Resting.{operands, below, resting, Exact}
use Rattle.formula.proofs.Chosen.{selected}
use Rattle.formula.proofs.Marks.{exact}
use Rattle.formula.proofs.Trees.{earlier_at}
use Rattle.refusal.specs.declared.Fault.{Fault}
use Rattle.words.specs.Tests.{all}
use Rattle.wishlayout.specs.Wishes.{good_wish}
use Rattle.wishbook.specs.declared.book.WishBook.{WishBook}
use Rattle.wishbook.specs.Book.{Book, RestsOn, NeedsHeld, KeepsItems}
use Rattle.wishbook.specs.Contents.{contents}

abbrev is_previous : Node → Bool
is_previous (Label p) = false
is_previous True = false
is_previous (Not a) = false
is_previous (And a b) = false
is_previous (Or a b) = false
is_previous (Previous a) = true
is_previous (Since a b) = false
is_previous (Always a) = false
is_previous (Once a) = false

module _ (b : Book) (early : earlier b.nodes ≡ true) (items_are : b.items ≡ kept_items b.nodes (resting b.nodes (map (λ w. w.node) b.wishes))) where
  rests : Exact b.nodes (map (λ w. w.node) b.wishes)
  rests = exact b.nodes (map (λ w. w.node) b.wishes) early

  kept : Selected b.nodes (resting b.nodes (map (λ w. w.node) b.wishes)) b.items
  kept = subst (Selected b.nodes (resting b.nodes (map (λ w. w.node) b.wishes))) (sym items_are) (selected b.nodes (resting b.nodes (map (λ w. w.node) b.wishes)))

  -- a node of which a test holds that does not hold of True is a node of the book
  numbered : (P : Node → Bool) → P True ≡ false → (i : ℕ) → P (get_or b.nodes i True) ≡ true → i < length b.nodes
  numbered P not i h =
      ⊎_elim
      (λ (l : i < length b.nodes). l)
      (λ (past : length b.nodes ≤ i). absurd (both_ways (P True) not (sym (ap P (get_or_past b.nodes i True past)) ∙ h)))
      (cases_lt i (length b.nodes))

  held_needed : (i : ℕ) → Contains b.items (Held i) → NeedsHeld b i
  held_needed i h =
      let only = kept.held_only i h in
      ⊎_elim
      (λ lasts. inl (rests.only i only.0 only.1, lasts))
      (λ back. inr (back.0, rests.only back.0 back.1 back.2, back.3))
      only.2

  lasting_held : (i : ℕ) → RestsOn b i → lasting (get_or b.nodes i True) ≡ true → Contains b.items (Held i)
  lasting_held i on lasts =
      let l = numbered lasting refl i lasts in
      kept.held_kept i l (rests.every i l on) (inl lasts)

  previous_held : (i k : ℕ) → RestsOn b k → get_or b.nodes k True ≡ Previous i → Contains b.items (Held i)
  previous_held i k on is =
      let in' : k < length b.nodes = numbered is_previous refl k (ap is_previous is) in
      let low : i < k = ltb-true i k (subst (λ n. operands_below k n ≡ true) is (earlier_at b.nodes k early in')) in
      let l : i < length b.nodes = omega arith in
      let rests_i : RestsOn b i = below on (subst (λ n. Contains (operands n) i) (sym is) (0, omega arith, refl)) in
      kept.held_kept i l (rests.every i l rests_i) (inr (k, in', rests.every k in' on, is))

  pub keeps_items : KeepsItems b
  keeps_items = record {
    held = λ i. (held_needed i, λ needs. ⊎_elim (λ here. lasting_held i here.0 here.1) (λ back. previous_held i back.0 back.1 back.2) needs);
    failed =
        λ i. (
          λ h. let only = kept.failed_only i h in (rests.only i only.0 only.1, only.2),
          λ needs.
              let l = numbered is_always refl i needs.1 in
              kept.failed_kept i l (rests.every i l needs.0) needs.1,
        );
    rising = kept.rising;
  }

book_keeps : (b : WishBook) → KeepsItems (contents b)
book_keeps b =
    let parts = and_parts (earlier (listed b.nodes)) (all (good_wish (length (listed b.nodes))) (listed b.wishes)) b.sound in
    keeps_items (contents b) parts.0 b.remembers

pub answer_keeps : (r : Result WishBook Fault) → IfOk r (λ b. KeepsItems (contents b))
answer_keeps (Ok b) = book_keeps b
answer_keeps (Err f) = tt
