use Rattle.std.proofs.Common.{◌≡◌, Ok, [], sym, refl, rules, arith}
use Rattle.std.proofs.lemmas.Nat.{mul-add-lt}
use Rattle.sitelayout.specs.Layout.{padded, place_of}
use Rattle.sitelayout.specs.OneWord.{entry_of}
use Rattle.sitelayout.proofs.OneWords.{entry_reads}
use Rattle.siteverdict.specs.Tracking.{AtMove}
use Rattle.siteverdict.proofs.Tracking.{entry_leads, entry_on, tabled_padded}
use Rattle.siteverdict.proofs.state.Table.entry.Goals as goal

pub returns : goal.returns
returns c = λ d at inside.
    let t = c.args.self in
    let h = t.counts.head in
    let e = c.in_ok-entry.entry in
    let said : entry_of h.states h.actions c.args.word ≡ Ok e = search rules in
    let of = at.1.1.1 in
    let good = (entry_reads h.states h.actions c.args.word e said).1 in
    entry_leads AtMove h at.0 c.args.word _ at.1.0 e d at.1.1.0 inside said
    (entry_on AtMove h at.0 c.args.word _ at.1.0 e (omega (arith, of.cells, c.if-place-self.false)) (
      at.0,
      (
        padded (place_of h e) at.1.0,
        (
          [],
          (
            refl,
            record {
              table = tabled_padded t.counts t.cells t.waits (place_of h e) at.0 at.1.0 of c.if-place-self.false;
              room = omega (arith, mul-add-lt e.state h.actions e.action h.states good.0 good.1);
              weighed = refl;
              targets = sym c.new.ensures;
            },
          ),
        ),
      ),
    ))
