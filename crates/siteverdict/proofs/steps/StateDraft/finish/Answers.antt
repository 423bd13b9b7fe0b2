use Rattle.std.proofs.Common.{subst}
use Rattle.siteverdict.specs.Tracking.{Tracks}
use Rattle.siteverdict.proofs.Tracking.{end_waits, end_no_wait}
use Rattle.siteverdict.proofs.steps.StateDraft.finish.Goals as goal

pub returns-then-table : goal.returns-then-table
returns-then-table c = λ d follows.
    let t = c.in-Entry.table in
    let at = subst (λ s. Tracks s d) c.in-Entry.is follows in
    end_no_wait t.counts t.cells t.waits at.0 at.1.0 at.1.1.1 d at.1.1.0 c.if-table.true

pub returns : goal.returns
returns c = λ d follows.
    let t = c.in-Entry.table in
    let at = subst (λ s. Tracks s d) c.in-Entry.is follows in
    end_waits t.counts t.cells t.waits at.0 at.1.0 at.1.1.1 d at.1.1.0 c.if-table.false
