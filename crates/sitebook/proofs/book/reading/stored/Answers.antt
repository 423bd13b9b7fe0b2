use Rattle.std.proofs.Common.{◌≡◌, Ok, sym, ap, ◌∙◌, length, rules, arith}
use Rattle.std.proofs.lemmas.List.{length-drop}
use Rattle.sitelayout.specs.declared.kind.Kind.TheVariants.{End}
use Rattle.sitelayout.specs.Kinds.{kind_of}
use Rattle.sitebook.specs.Storing.{held_by}
use Rattle.sitebook.proofs.Storing.{storing_long, storing_more, storing_end}
use Rattle.sitebook.proofs.book.reading.stored.Goals as goal

-- no word is missing
pub returns-in_default : goal.returns-in_default
returns-in_default c = storing_long c.args.bytes.now c.loop-word.rest.now c.loop-word.place c.args.counts (held_by c.loop-word.store) c.loop-word.invariant.1 c.in_default.ensures

pub invariant_of-result : goal.invariant_of-result
invariant_of-result c =
    let read = c.in-Some.ensures in
    let end : kind_of c.in-Some.word ≡ Ok End = sym c.try_from.ensures ∙ c.in-Ok-End.is ∙ ap Ok c.in-Ok-End.field-0-is in
    let whole = storing_end c.args.bytes.now c.loop-word.rest.now c.loop-word.place c.args.counts (held_by c.loop-word.store) c.loop-word.invariant.1 c.in-Some.next.now c.in-Some.word read.0 read.1 read.2 end in
    record { sound = whole.1; most = whole.2 }

pub returns-in-Ok-End : goal.returns-in-Ok-End
returns-in-Ok-End c =
    let read = c.in-Some.ensures in
    let end : kind_of c.in-Some.word ≡ Ok End = sym c.try_from.ensures ∙ c.in-Ok-End.is ∙ ap Ok c.in-Ok-End.field-0-is in
    (storing_end c.args.bytes.now c.loop-word.rest.now c.loop-word.place c.args.counts (held_by c.loop-word.store) c.loop-word.invariant.1 c.in-Some.next.now c.in-Some.word read.0 read.1 read.2 end).0

pub loop-word-preserved : goal.loop-word-preserved
loop-word-preserved c =
    let read = c.in-Some.ensures in
    let inside : kind_of c.in-Some.word ≡ Ok End → ⊥ = search rules in (
      omega (arith, c.loop-word.invariant.0, read.0, ap length read.2, length-drop 4 c.loop-word.rest.now),
      rw c.put.ensures
          (storing_more c.args.bytes.now c.loop-word.rest.now c.loop-word.place c.args.counts (held_by c.loop-word.store) c.loop-word.invariant.1 c.in-Some.next.now c.in-Some.word read.0 read.1 read.2 inside),
    )
