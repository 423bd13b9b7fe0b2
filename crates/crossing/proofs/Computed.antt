-- The built-in crossing, computed by the definitions. For the contracts: `marked`.
use Rattle.std.proofs.Common.{◌≡◌, length, refl, ◌∙◌, ap, arith}
use Rattle.reach.specs.Search.{listed_after, codes_of}
use Rattle.reach.proofs.Turns.{listed_complete}
use Rattle.sitelayout.specs.Layout as site
use Rattle.walk.specs.Walker as walker
use Rattle.wishlayout.specs.Layout as wish
use Rattle.words.specs.Format as format
use Rattle.worth.specs.Worths.{worth_by}
use Rattle.crossing.specs.Marked.{crossing, crossing_codes, Marked}

-- five turns list five codes, so that no later turn adds any
turned : listed_after crossing 5 ≡ crossing_codes
unfolding listed_after
turned = refl

codes : codes_of crossing ≡ crossing_codes
codes = listed_complete crossing 5 (omega arith) (omega (arith, ap length turned)) ∙ turned

pub marked : Marked
unfolding format.run site.read_word site.whole_book wish.read_word wish.whole_book worth_by walker.run
marked = record {
  site_reads = refl;
  wish_reads = refl;
  wish_means = refl;
  codes = codes;
  rewards = refl;
  worths = rw codes;
  choices = rw codes;
  start_at_worst = rw codes;
  walk = refl;
  not_offered = refl;
  no_such_outcome = refl;
}
