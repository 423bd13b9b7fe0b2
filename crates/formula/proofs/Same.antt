-- The derived test of two nodes is the comparison of kind and fields.
use Rattle.std.proofs.Common.{◌≡◌, ℕ, Bool, List, Option, sym, ap, ◌∙◌, subst, rules}
use Rattle.std.specs.Cmp.{both_ways}
use Rattle.register.specs.Keys.{Entered}
use Rattle.register.proofs.Identity.{IsIdentity}
use Rattle.formula.specs.declared.Node.{Node}
use Rattle.formula.specs.contracts.NodePartialEq.TheImpl.{ghosts}
use Rattle.formula.specs.Merging.{same_node}
use Rattle.formula.proofs.Faithful.{same_node_identity}

derived_identity : IsIdentity ghosts.eq
derived_identity = search rules

same_at : (n m : Node) → ghosts.eq n m ≡ same_node n m
same_at n m =
    both_ways (ghosts.eq n m) (same_node n m)
    (λ e. ap (same_node n) (sym (derived_identity.only n m e)) ∙ same_node_identity.self n)
    (λ e. ap (ghosts.eq n) (sym (same_node_identity.only n m e)) ∙ derived_identity.self n)

pub entered : (k : Node) (room : ℕ) (before after : List Node) (answer : Option ℕ) → Entered ghosts.eq k room before after answer → Entered same_node k room before after answer
entered k room before after answer told = subst (λ (e : Node → Node → Bool). Entered e k room before after answer) (λ i n m. same_at n m i) told
