use Rattle.std.specs.Prelude.{min}
use Rattle.std.proofs.Common.{◌≡◌, ◌-◌, ◌≤◌, ◌++◌, max, replicate}
use Rattle.sitebook.proofs.store.fill.Given as goal

-- what was there and then so many at the end, in the same room, and no more than were missing
abbrev pub invariant-loop-starts : goal.invariant-loop-starts
invariant-loop-starts l = record {
  begun : l.starts.items ≡ l.initial.starts.items ++ replicate (l.starts.len - l.initial.starts.len) l.end;
  room : l.starts.cap ≡ l.initial.starts.cap;
  more : l.initial.starts.len ≤ l.starts.len;
  few : l.starts.len ≤ max l.initial.starts.len (min l.cells l.initial.starts.cap);
}

abbrev pub decreases-loop-starts : goal.decreases-loop-starts
decreases-loop-starts l = l.initial.starts.cap - l.starts.len
