-- What a table of actions says: its actions in order, each with its outcomes.
use Rattle.std.specs.Prelude.{ℕ, List, map}
use Rattle.bounded.specs.Listed.{listed}
use Rattle.rulelayout.specs.Rule.{Act, Rule}
use Rattle.rulebook.specs.declared.action.Action.{Action}

abbrev pub act_from : Action → Act
act_from a = record { on = a.on; off = a.off; effects = listed a.effects }

abbrev pub acts_from : List Action → List Act
acts_from acts = map act_from acts

abbrev pub rule_from : ℕ → ℕ → List Action → Rule
rule_from switches start acts = record { switches = switches; start = start; acts = acts_from acts }
