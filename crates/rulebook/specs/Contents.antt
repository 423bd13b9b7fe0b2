-- What a rule book in memory says, and what the reader's answer means.
use Rattle.std.specs.Prelude.{Ok, Err, Result}
use Rattle.bounded.specs.Listed.{listed}
use Rattle.refusal.specs.declared.Fault.{Fault}
use Rattle.words.specs.Format.{Verdict, got, stop}
use Rattle.rulelayout.specs.Rule.{Rule}
use Rattle.rulebook.specs.declared.book.RuleBook.{RuleBook}
use Rattle.rulebook.specs.Acts.{rule_from}

abbrev pub contents : RuleBook → Rule
contents b = rule_from b.switches b.start (listed b.acts)

abbrev pub verdict_from : Result RuleBook Fault → Verdict Rule
verdict_from (Ok b) = got (contents b)
verdict_from (Err f) = stop f.refusal f.place
