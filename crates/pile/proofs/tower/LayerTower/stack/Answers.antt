use Rattle.std.proofs.Common.{[], ◌∷◌, ◌++◌, length, sym, ap, ◌∙◌}
use Rattle.pile.specs.Floors.{slab_in}
use Rattle.pile.proofs.Towers.{next_slab, no_slab, none_left, tower_next, tower_means}
use Rattle.pile.proofs.tower.LayerTower.stack.Goals as goal

pub returns-in-Some-clause-piling : goal.returns-in-Some-clause-piling
returns-in-Some-clause-piling g c =
    let fs = c.args.floors.now in
    let next = next_slab fs _ c.in-Some.floor.now c.in-Some.upper.now (sym c.stack-below.ensures.rest ∙ c.in-Some.ensures.cases.0) in
    let here = ap slab_in c.new.ensures.book ∙ c.book.ensures ∙ sym next.0 in
    tower_next _ _ _ fs _ c.new.result.book (ap g.P.Pile.piling c.new.ensures.below ∙ c.stack-below.ensures.piling) (g.met.P.Pile.laid c.new.result.below).means here

pub returns-in-Some-clause-meaning : goal.returns-in-Some-clause-meaning
returns-in-Some-clause-meaning g c =
    let fs = c.args.floors.now in
    let next = next_slab fs _ c.in-Some.floor.now c.in-Some.upper.now (sym c.stack-below.ensures.rest ∙ c.in-Some.ensures.cases.0) in
    let here = ap slab_in c.new.ensures.book ∙ c.book.ensures ∙ sym next.0 in
    tower_means _ _ _ fs _ c.new.result.book (ap g.P.Pile.piling c.new.ensures.below ∙ c.stack-below.ensures.piling) (g.met.P.Pile.laid c.new.result.below).means here

pub returns-in-Some-clause-rest : goal.returns-in-Some-clause-rest
returns-in-Some-clause-rest g c =
    sym (next_slab c.args.floors.now _ c.in-Some.floor.now c.in-Some.upper.now (sym c.stack-below.ensures.rest ∙ c.in-Some.ensures.cases.0)).1

pub returns-in-None-clause-piling : goal.returns-in-None-clause-piling
returns-in-None-clause-piling g c =
    let fs = c.args.floors.now in
    let none = no_slab fs _ (ap length (sym c.stack-below.ensures.rest) ∙ c.in-None.ensures.cases) in
    let here = ap slab_in c.new-in-None.ensures.book ∙ sym none.0 in
    tower_next _ _ _ fs _ c.new-in-None.result.book (ap g.P.Pile.piling c.new-in-None.ensures.below ∙ c.stack-below.ensures.piling) (g.met.P.Pile.laid c.new-in-None.result.below).means here

pub returns-in-None-clause-meaning : goal.returns-in-None-clause-meaning
returns-in-None-clause-meaning g c =
    let fs = c.args.floors.now in
    let none = no_slab fs _ (ap length (sym c.stack-below.ensures.rest) ∙ c.in-None.ensures.cases) in
    let here = ap slab_in c.new-in-None.ensures.book ∙ sym none.0 in
    tower_means _ _ _ fs _ c.new-in-None.result.book (ap g.P.Pile.piling c.new-in-None.ensures.below ∙ c.stack-below.ensures.piling) (g.met.P.Pile.laid c.new-in-None.result.below).means here

pub returns-in-None-clause-rest : goal.returns-in-None-clause-rest
returns-in-None-clause-rest g c =
    let none = no_slab c.args.floors.now _ (ap length (sym c.stack-below.ensures.rest) ∙ c.in-None.ensures.cases) in
    none_left _ _ c.in-None.ensures.cases none.1

pub returns-in-None-clause-slabs : goal.returns-in-None-clause-slabs
returns-in-None-clause-slabs g c =
    let none = no_slab c.args.floors.now _ (ap length (sym c.stack-below.ensures.rest) ∙ c.in-None.ensures.cases) in
    let here = ap slab_in c.new-in-None.ensures.book ∙ sym none.0 in
    λ i. (ap g.P.Tower.slabs c.new-in-None.ensures.below ∙ c.stack-below.ensures.slabs) i ++ (here i ∷ [])

pub returns-in-Some-clause-slabs : goal.returns-in-Some-clause-slabs
returns-in-Some-clause-slabs g c =
    let next = next_slab c.args.floors.now _ c.in-Some.floor.now c.in-Some.upper.now (sym c.stack-below.ensures.rest ∙ c.in-Some.ensures.cases.0) in
    let here = ap slab_in c.new.ensures.book ∙ c.book.ensures ∙ sym next.0 in
    λ i. (ap g.P.Tower.slabs c.new.ensures.below ∙ c.stack-below.ensures.slabs) i ++ (here i ∷ [])
