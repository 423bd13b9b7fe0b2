-- What a layer means along a history, by the truth lines alone: where it stands, what it shows and what it
-- earns. The trace of a history has at each position what the model below shows there.
use Rattle.std.specs.Prelude.{◌≡◌, ℕ, zero, suc, ◌+◌, ◌-◌, ◌*◌, ◌^◌, ◌<◌, ◌≤◌, Bool, IsTrue, not, List, map, length, take, ℤ, slice_index_or}
use Rattle.formula.specs.declared.Item.{Item}
use Rattle.formula.specs.declared.Item.TheVariants.{Held, Failed}
use Rattle.formula.specs.declared.Node.{Node}
use Rattle.formula.specs.Formulas.{truth, formulas}
use Rattle.model.specs.Histories.{Shown}
use Rattle.truth.specs.Truth.{Trace, labelled, before, holds}
use Rattle.wishlayout.specs.declared.Wish.{Wish}
use Rattle.wishbook.specs.Book.{Book, sound, items_over}
use Rattle.layermodel.specs.Verdicts.{memory_of, bits_of_wishes, earned}

-- the mask at each position of a history, where mask is what a history shows at its end
abbrev pub trace_of : (List ℕ → ℕ) → List ℕ → Trace
trace_of mask h i = mask (take (i + 1) h)

-- the last position of a history
abbrev pub end_of : List ℕ → ℕ
end_of h = length h - 1

-- what the truth lines say of each node at a position
abbrev pub truths : List Node → Trace → ℕ → List Bool
truths ns τ n = map (λ f. holds f τ n) (formulas ns)

-- the memory at a position: each bit tells the truth of its node one position earlier, or its falsity for a
-- failed item; 0 at the start
abbrev pub memory_at : Book → Trace → ℕ → ℕ
memory_at b τ zero = 0
memory_at b τ (suc n) = memory_of b.items (truths b.nodes τ n)

abbrev pub code_over : (List ℕ → ℕ) → (List ℕ → ℕ) → Book → List ℕ → ℕ
code_over code mask b h = code h * 65536 + memory_at b (trace_of mask h) (end_of h)

abbrev pub mask_over : ℕ → (List ℕ → ℕ) → Book → List ℕ → ℕ
mask_over labels mask b h =
    mask h + 2 ^ labels * bits_of_wishes b.wishes (truths b.nodes (trace_of mask h) (end_of h))

abbrev pub reward_over : (List ℕ → ℕ) → (List ℕ → ℤ) → Book → List ℕ → ℤ
reward_over mask reward b h =
    earned (reward h) b.wishes (truths b.nodes (trace_of mask h) (end_of h))

-- what a history shows on a layer of the book, by what it shows on the model below and how many labels that has
abbrev pub shown_over : ℕ → Book → Shown → Shown
shown_over labels b sh = record {
  mask = mask_over labels sh.mask b;
  reward = reward_over sh.mask sh.reward b;
  offered = sh.offered;
}

-- what every wish book in memory keeps
pub record SoundBook (b : Book) : Type 0 where
  pub names : IsTrue (sound b.nodes b.wishes)
  pub remembers : b.items ≡ items_over b.nodes b.wishes
  pub few : length b.items ≤ 16

-- what an item tells of a position: that its node held there, or that it failed
abbrev pub tells : List Node → Trace → Item → ℕ → Bool
tells ns τ (Held i) j = holds (slice_index_or (formulas ns) i truth) τ j
tells ns τ (Failed i) j = not (holds (slice_index_or (formulas ns) i truth) τ j)

-- each memory bit tells the truth of one position earlier, and is 0 at the start
abbrev pub MemoryTells : Type 0
MemoryTells =
    (b : Book) → SoundBook b → (τ : Trace) (n k : ℕ) → k < length b.items
    → labelled (memory_at b τ n) k ≡ before n (tells b.nodes τ (slice_index_or b.items k (Held 0)))

-- each wish has a bit above the labels below, set just where it holds at the end of the history
abbrev pub WishesShow : Type 0
WishesShow =
    (b : Book) → SoundBook b → (labels : ℕ) (mask : List ℕ → ℕ) (h : List ℕ) (k : ℕ) (d : Wish)
    → mask h < 2 ^ labels → k < length b.wishes
    → labelled (mask_over labels mask b h) (labels + k)
    ≡ holds (slice_index_or (formulas b.nodes) (slice_index_or b.wishes k d).node truth)
    (trace_of mask h) (end_of h)

-- the labels below keep their bits
abbrev pub LabelsStay : Type 0
LabelsStay =
    (b : Book) (labels : ℕ) (mask : List ℕ → ℕ) (h : List ℕ) (q : ℕ) → q < labels
    → labelled (mask_over labels mask b h) q ≡ labelled (mask h) q
