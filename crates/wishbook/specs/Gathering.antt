-- What has been gathered from a wish book, as the draft that it stands for.
use Rattle.bounded.specs.Listed.{listed}
use Rattle.wishlayout.specs.Layout.{Draft}
use Rattle.wishbook.specs.Drafts.{draft_with}
use Rattle.wishbook.specs.declared.gathered.Gathered.{Gathered}

abbrev pub draft_of : Gathered → Draft
draft_of g = draft_with (listed g.nodes) (listed g.wishes)
