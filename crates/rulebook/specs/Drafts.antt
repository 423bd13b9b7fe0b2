-- What the reader's stages stand for while a file is read.
use Rattle.std.specs.Prelude.{List, Ok, Err, Result, Some, None, Option}
use Rattle.bounded.specs.Listed.{listed}
use Rattle.refusal.specs.declared.Refusal.{Refusal}
use Rattle.words.specs.Format.{Step, wrong, more, ends}
use Rattle.rulelayout.specs.Rule.{Act}
use Rattle.rulelayout.specs.Layout.{Draft, blank, listing, inside, whole}
use Rattle.rulebook.specs.declared.stage.Table.{Table}
use Rattle.rulebook.specs.declared.stage.Stage.{Stage}
use Rattle.rulebook.specs.declared.stage.Stage.TheVariants.{Blank, Listing, Inside, Whole}
use Rattle.rulebook.specs.Acts.{acts_from}

abbrev pub list_from : Table → List Act
list_from t = acts_from (listed t.acts)

abbrev pub draft_from : Stage → Draft
draft_from Blank = blank
draft_from (Listing t) = listing t.head (list_from t)
draft_from (Inside o) = inside o.table.head (list_from o.table) o.action (listed o.effects)
draft_from (Whole t) = whole t.head (list_from t)

-- what comes of a word that is not the end word
abbrev pub step_from : Result Stage Refusal → Step Draft
step_from (Ok s) = more (draft_from s)
step_from (Err r) = wrong r

-- what comes of a word: nothing more after the end word
abbrev pub turn_from : Result (Option Stage) Refusal → Step Draft
turn_from (Ok (Some s)) = more (draft_from s)
turn_from (Ok None) = ends
turn_from (Err r) = wrong r
