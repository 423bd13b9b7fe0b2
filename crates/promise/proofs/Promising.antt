-- What holds of every pile, from its laws and from what writing out promises. For others: `promises`; and `with_meaning`, a pile by what
-- its type means, which is the same.
use mathlib.Core.Path.{◌≡◌, subst, sym}
use Rattle.model.specs.Models.{Model}
use Rattle.pilemodel.specs.Piles.{Piling, Laid}
use Rattle.pilemodel.proofs.Keeping.{laid_keeps}
use Rattle.writeout.specs.Tables.{Represents}
use Rattle.promise.specs.Promises.{Promises}
use Rattle.promise.proofs.Agreeing.{agree_on_pile, agree_in_book, stands_on_pile, stands_in_book}
use Rattle.promise.proofs.Corresponding.{corresponds}
use Rattle.promise.proofs.Earning.{best_in_book}

pub promises : (m : Model) (pile : Piling) → Laid m pile → Represents m → Promises m pile
promises m pile laid book =
    let own : Represents pile.model = subst Represents laid.means book in
    let c = corresponds pile laid.stands (laid_keeps m pile laid) own in
    record {
      means = laid.means;
      represents = own;
      corresponds = c;
      agrees_on_pile = agree_on_pile pile c;
      agrees_in_book = agree_in_book pile c;
      stands_on_pile = stands_on_pile pile c;
      stands_in_book = stands_in_book pile c;
      best = best_in_book pile own c;
    }

abbrev pub with_meaning : Model → Piling → Piling
with_meaning m pile = record { base = pile.base; floors = pile.floors; model = m }

pub meaning_is : (m : Model) (pile : Piling) → Laid m pile → with_meaning m pile ≡ pile
meaning_is m pile laid = λ i. record { base = pile.base; floors = pile.floors; model = laid.means i }

-- what is promised of the pile, of what its type means
pub on_meaning : (m : Model) (pile : Piling) → Laid m pile → Promises m pile → Promises m (with_meaning m pile)
on_meaning m pile laid p = subst (Promises m) (sym (meaning_is m pile laid)) p
