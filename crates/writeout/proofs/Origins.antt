-- A valid book by its origins is a lawful, numbered model: only the ground differs, and origins lie
-- below 4,096.
use Rattle.std.specs.Prelude.{◌≡◌, ℕ, ◌<◌, ◌≤◌, IsTrue, IsFalse, length, nat_lt}
use Rattle.std.proofs.Common.{⊎_elim, ap, arith}
use Rattle.std.proofs.lemmas.List.{get_or_past}
use Rattle.std.proofs.lemmas.Bool.{cases_lt, ltb-false}
use Rattle.model.specs.Models.{Lawful, NumberedBy}
use Rattle.words.proofs.Tests.{all_at}
use Rattle.sitelayout.specs.declared.Mark.{Mark}
use Rattle.sitelayout.specs.Site.{Site, valid, good_mark}
use Rattle.sitelayout.proofs.Valid.{mark_parts, validly}
use Rattle.sitemodel.specs.Meaning.{mark_at, origin_of, blank}
use Rattle.sitemodel.proofs.SiteLaws.{site_lawful, site_numbered}
use Rattle.writeout.specs.Copies.{by_origin}

past_blank : (b : Site) (s : ℕ) → length b.marks ≤ s → mark_at b s ≡ blank
past_blank b s l = get_or_past b.marks s blank l

origin_below : (b : Site) → IsTrue (valid b) → (s : ℕ) → origin_of b s < 4096
origin_below b v s =
    ⊎_elim
    (λ (l : s < length b.marks). (mark_parts b.labels (mark_at b s) (all_at (good_mark b.labels) b.marks s blank (validly b v).marks l)).2)
    (λ (l : length b.marks ≤ s). omega (arith, ap (λ (m : Mark). m.worth.origin) (past_blank b s l)))
    (cases_lt s (length b.marks))

origin_none : (b : Site) (s : ℕ) → IsFalse (nat_lt s (length b.marks)) → origin_of b s ≡ 0
origin_none b s e = ap (λ (m : Mark). m.worth.origin) (past_blank b s (ltb-false s (length b.marks) e))

pub origin_lawful : (b : Site) → IsTrue (valid b) → Lawful (by_origin b)
origin_lawful b v =
    let law = site_lawful b v in
    record {
      states = law.states;
      moves = law.moves;
      shows = law.shows;
      grounds = record { grounded = origin_below b v; no_ground = origin_none b };
    }

pub origin_numbered : (b : Site) → IsTrue (valid b) → NumberedBy (by_origin b)
origin_numbered b v = let n = site_numbered b v in record { below = n.below; small = n.small }
