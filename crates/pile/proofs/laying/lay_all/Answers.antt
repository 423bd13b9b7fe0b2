use Rattle.std.proofs.Common.{◌≤◌, [], ◌∷◌, length, sym, ap, ◌∙◌, rules}
use Rattle.std.specs.Option.{option_copied}
use Rattle.layer.specs.InMemory.{meaning_of}
use Rattle.pile.proofs.Stacking.{item_copied, Stands, none_yet, one_more, refused_at, refused_first, few_books, all_laid, whole}
use Rattle.pile.proofs.laying.lay_all.Given.{Over}
use Rattle.pile.proofs.laying.lay_all.Goals as goal
use Rattle.pile.proofs.laying.lay_all.Goals.{in_default-via-in-None-1, in_default-via-in-Some+in-None-1}

pub returns-in_err-two-clause-refused : goal.returns-in_err-two-clause-refused
returns-in_err-two-clause-refused g c =
    let base = g.G.SiteModel.meaning c.args.bottom in
    let ws = c.args.books.now in
    let none = none_yet base ws _ (ap g.G.SiteModel.meaning c.new.ensures) in
    let one = one_more base ws 0 _ _ c.in_ok-one.one.book none (ap (λ f. g.G.SiteModel.meaning f.bottom) c.in_ok-one.ensures.below) c.in_ok-one.ensures.book c.in_ok-one.ensures.laid in
    refused_first base ws 1 _ c.in_err-two.field-0.0 c.from_residual-in_err-two.result one c.in_err-two.ensures.number c.in_err-two.ensures.refused (search rules)

pub returns-in_err-pile-clause-refused : goal.returns-in_err-pile-clause-refused
returns-in_err-pile-clause-refused g c =
    let base = g.G.SiteModel.meaning c.args.bottom in
    let ws = c.args.books.now in
    let none = none_yet base ws _ (ap g.G.SiteModel.meaning c.new.ensures) in
    let one = one_more base ws 0 _ _ c.in_ok-one.one.book none (ap (λ f. g.G.SiteModel.meaning f.bottom) c.in_ok-one.ensures.below) c.in_ok-one.ensures.book c.in_ok-one.ensures.laid in
    let two = one_more base ws 1 _ _ c.in_ok-two.two.book one (ap (meaning_of (λ f. g.G.SiteModel.meaning f.bottom)) c.in_ok-two.ensures.below) c.in_ok-two.ensures.book c.in_ok-two.ensures.laid in
    refused_first base ws 2 _ c.in_err-pile.field-0.0 c.from_residual-in_err-pile.result two c.in_err-pile.ensures.number c.in_err-pile.ensures.refused (search rules)

pub returns-clause-refused : goal.returns-clause-refused
returns-clause-refused g c =
    let base = g.G.SiteModel.meaning c.args.bottom in
    let ws = c.args.books.now in
    let none = none_yet base ws _ (ap g.G.SiteModel.meaning c.new.ensures) in
    let one = one_more base ws 0 _ _ c.in_ok-one.one.book none (ap (λ f. g.G.SiteModel.meaning f.bottom) c.in_ok-one.ensures.below) c.in_ok-one.ensures.book c.in_ok-one.ensures.laid in
    let two = one_more base ws 1 _ _ c.in_ok-two.two.book one (ap (meaning_of (λ f. g.G.SiteModel.meaning f.bottom)) c.in_ok-two.ensures.below) c.in_ok-two.ensures.book c.in_ok-two.ensures.laid in
    let three = one_more base ws 2 _ _ c.in_ok-pile.pile.book two (ap (meaning_of (meaning_of (λ f. g.G.SiteModel.meaning f.bottom))) c.in_ok-pile.ensures.below) c.in_ok-pile.ensures.book c.in_ok-pile.ensures.laid in
    let fourth = sym (item_copied ws 3 c.get.result c.get.ensures.lookup) ∙ ap option_copied c.in-Some.is in
    refused_at base ws 3 _ c.in-Some.fourth.now c.in-Some-refusal_on.refusal three fourth (sym c.refusal_on.ensures ∙ c.in-Some-refusal_on.is)

stands : (g : Over) (c : goal.In_default g) → Stands (g.G.SiteModel.meaning c.args.bottom) c.args.books.now 3 (meaning_of (meaning_of (meaning_of (λ f. g.G.SiteModel.meaning f.bottom))) c.in_ok-pile.pile)
stands g c =
    let base = g.G.SiteModel.meaning c.args.bottom in
    let ws = c.args.books.now in
    let none = none_yet base ws _ (ap g.G.SiteModel.meaning c.new.ensures) in
    let one = one_more base ws 0 _ _ c.in_ok-one.one.book none (ap (λ f. g.G.SiteModel.meaning f.bottom) c.in_ok-one.ensures.below) c.in_ok-one.ensures.book c.in_ok-one.ensures.laid in
    let two = one_more base ws 1 _ _ c.in_ok-two.two.book one (ap (meaning_of (λ f. g.G.SiteModel.meaning f.bottom)) c.in_ok-two.ensures.below) c.in_ok-two.ensures.book c.in_ok-two.ensures.laid in
    one_more base ws 2 _ _ c.in_ok-pile.pile.book two (ap (meaning_of (meaning_of (λ f. g.G.SiteModel.meaning f.bottom))) c.in_ok-pile.ensures.below) c.in_ok-pile.ensures.book c.in_ok-pile.ensures.laid

few : (g : Over) (c : goal.In_default g) → length c.args.books.now ≤ 3
few g c = elim c.in_default.branch [
  | in_default-via-in-None-1 w ↦ search rules
  | in_default-via-in-Some+in-None-1 w ↦ absurd (few_books _ _ (g.met.G.SiteModel.lawful c.args.bottom) _ w.in-Some.fourth.now (stands g c) (sym (item_copied c.args.books.now 3 c.get.result c.get.ensures.lookup) ∙ ap option_copied w.in-Some.is) (search rules))
]

pub returns-2-clause-floors : goal.returns-2-clause-floors
returns-2-clause-floors g c =
    let first = ap (λ l. l.below.book) c.in_ok-pile.ensures.below ∙ ap (λ l. l.book) c.in_ok-two.ensures.below ∙ c.in_ok-one.ensures.book in
    let second = ap (λ l. l.book) c.in_ok-pile.ensures.below ∙ c.in_ok-two.ensures.book in
    record { few = few g c; floors = λ i. first i ∷ (second i ∷ (c.in_ok-pile.ensures.book i ∷ [])) }

pub returns-2-clause-laid : goal.returns-2-clause-laid
returns-2-clause-laid g c = all_laid _ _ _ (stands g c) (few g c)

pub returns-2-clause-meaning : goal.returns-2-clause-meaning
returns-2-clause-meaning g c = whole _ _ _ (stands g c) (few g c)
