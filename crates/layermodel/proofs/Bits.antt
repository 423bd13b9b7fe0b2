-- The bits of a memory and of a mask, one by one.
use Rattle.std.proofs.Common.{◌≡◌, ◌<◌, false, List, length, get_or, sym, ◌∙◌, subst, arith}
use Rattle.std.proofs.lemmas.List.{get_or-map}
use Rattle.std.proofs.lemmas.Bool.{and_parts, ltb-true}
use Rattle.formula.specs.declared.Item.{Item}
use Rattle.formula.specs.declared.Item.TheVariants.{Held}
use Rattle.formula.specs.Formulas.{truth, formulas, earlier}
use Rattle.formula.proofs.Trees.{length-formulas}
use Rattle.truth.specs.Truth.{labelled, before, holds}
use Rattle.words.specs.Tests.{all}
use Rattle.words.proofs.Tests.{all_at}
use Rattle.wishlayout.specs.Wishes.{good_wish}
use Rattle.layermodel.specs.Verdicts.{wish_held, bits_of_wishes}
use Rattle.layermodel.specs.Records.{trace_of, end_of, truths, memory_at, tells, MemoryTells, WishesShow, LabelsStay}
use Rattle.layermodel.proofs.Places.{bit_above, bit_below_offset, bits_of-bit}
use Rattle.layermodel.proofs.VerdictsRight.{memory_bit}

pub memory_tells : MemoryTells
memory_tells b ok τ n k =
    let parts = and_parts (earlier b.nodes) (all (good_wish (length b.nodes)) b.wishes) ok.names in
    subst (λ (is : List Item). k < length is → labelled (memory_at (record { nodes = b.nodes; wishes = b.wishes; items = is }) τ n) k ≡ before n (tells b.nodes τ (get_or is k (Held 0))))
    (sym ok.remembers) (memory_bit b.nodes b.wishes parts.0 τ n k)

pub wishes_show : WishesShow
wishes_show b ok labels mask h k d small l =
    let parts = and_parts (earlier b.nodes) (all (good_wish (length b.nodes)) b.wishes) ok.names in
    let good = all_at (good_wish (length b.nodes)) b.wishes k d parts.1 l in
    let inside = ltb-true (get_or b.wishes k d).node (length b.nodes) (and_parts _ _ good).0 in
    bit_above labels (mask h) (bits_of_wishes b.wishes (truths b.nodes (trace_of mask h) (end_of h))) k small
    ∙ bits_of-bit (wish_held (truths b.nodes (trace_of mask h) (end_of h))) b.wishes k d l
    ∙ get_or-map (λ f. holds f (trace_of mask h) (end_of h)) (formulas b.nodes) (get_or b.wishes k d).node truth false (omega (arith, length-formulas b.nodes))

pub labels_stay : LabelsStay
labels_stay b labels mask h q l = bit_below_offset q labels (mask h) (bits_of_wishes b.wishes (truths b.nodes (trace_of mask h) (end_of h))) l
