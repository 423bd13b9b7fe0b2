-- Merging, one word more and all words.
use Rattle.std.proofs.Common.{◌≡◌, ℕ, ◌+◌, ◌<◌, ◌≤◌, List, [], ◌∷◌, ◌++◌, length, get_or, take, drop, sym, refl, ap, ◌∙◌, arith}
use Rattle.std.proofs.lemmas.List.{take-append-drop, take_more, take_all, take-take, length-take, length_push}
use Rattle.register.specs.Keys.{place_of, enter}
use Rattle.register.proofs.Keys.{place_of_le, enter-length, enter-take}
use Rattle.formula.specs.declared.Node.{Node}
use Rattle.formula.specs.Merging.{same_node, renumbered, SoFar, merge_one, merge_from, merge_all, nodes_of, numbers_of}

pub merge_from-append : (m : SoFar) (ws vs : List Node) → merge_from m (ws ++ vs) ≡ merge_from (merge_from m ws) vs
merge_from-append m [] vs = refl
merge_from-append m (w ∷ ws) vs = merge_from-append (merge_one m w) ws vs

-- one word more
pub merge_all_more : (ws : List Node) (i : ℕ) (d : Node) → i < length ws → merge_all (take (i + 1) ws) ≡ merge_one (merge_all (take i ws)) (get_or ws i d)
merge_all_more ws i d l =
    ap merge_all (take_more ws i d l) ∙ merge_from-append (record { nodes = []; numbers = [] }) (take i ws) (get_or ws i d ∷ [])

-- there are at most as many nodes more as words
held-length : (m : SoFar) (ws : List Node) → (length m.nodes ≤ length (merge_from m ws).nodes) × (length (merge_from m ws).nodes ≤ length m.nodes + length ws)
held-length m [] = (omega arith, omega arith)
held-length m (w ∷ ws) = (
  omega (arith, enter-length same_node (renumbered m.numbers w) m.nodes, held-length (merge_one m w) ws),
  omega (arith, enter-length same_node (renumbered m.numbers w) m.nodes, held-length (merge_one m w) ws),
)

pub nodes_of-length : (ws : List Node) → length (nodes_of ws) ≤ length ws
nodes_of-length ws = omega (arith, (held-length (record { nodes = []; numbers = [] }) ws).1)

-- the nodes that were there keep their places
nodes-take : (m : SoFar) (ws : List Node) → take (length m.nodes) (merge_from m ws).nodes ≡ m.nodes
nodes-take m [] = take_all (length m.nodes) m.nodes (omega arith)
nodes-take m (w ∷ ws) =
    let n = renumbered m.numbers w in
    let more = enter-length same_node n m.nodes in
    sym (take-take (length m.nodes) (length (enter same_node n m.nodes)) (merge_from (merge_one m w) ws).nodes more.0)
    ∙ ap (take (length m.nodes)) (nodes-take (merge_one m w) ws)
    ∙ enter-take same_node n m.nodes

split : (ws : List Node) (i : ℕ) → merge_from (merge_all (take i ws)) (drop i ws) ≡ merge_all ws
split ws i =
    sym (merge_from-append (record { nodes = []; numbers = [] }) (take i ws) (drop i ws)) ∙ ap merge_all (take-append-drop i ws)

-- the nodes of the first words are the first nodes of all
pub nodes_of_front : (ws : List Node) (i : ℕ) → take (length (nodes_of (take i ws))) (nodes_of ws) ≡ nodes_of (take i ws)
nodes_of_front ws i =
    ap (λ (m : SoFar). take (length (nodes_of (take i ws))) m.nodes) (sym (split ws i)) ∙ nodes-take (merge_all (take i ws)) (drop i ws)

pub nodes_of_fewer : (ws : List Node) (i : ℕ) → length (nodes_of (take i ws)) ≤ length (nodes_of ws)
nodes_of_fewer ws i =
    omega (arith, (held-length (merge_all (take i ws)) (drop i ws)).0, ap (λ (m : SoFar). length m.nodes) (split ws i))

-- each word has its number
numbers-length : (m : SoFar) (ws : List Node) → length (merge_from m ws).numbers ≡ length m.numbers + length ws
numbers-length m [] = omega arith
numbers-length m (w ∷ ws) = omega (arith, numbers-length (merge_one m w) ws, length_push m.numbers (place_of same_node (renumbered m.numbers w) m.nodes))

-- the nodes and numbers of the first i words
pub record Reached (ws held : List Node) (numbers : List ℕ) (i : ℕ) : Type 0 where
  pub nodes_are : held ≡ nodes_of (take i ws)
  pub numbers_are : numbers ≡ numbers_of (take i ws)

module _ {ws held : List Node} {numbers : List ℕ} {i : ℕ} (reached : Reached ws held numbers i) where
  -- there are at most as many nodes as words
  pub few_nodes : length held ≤ i
  few_nodes = omega (arith, ap length reached.nodes_are, nodes_of-length (take i ws), length-take i ws)

  pub place_small : (node : Node) (p : ℕ) → p ≡ place_of same_node node held → p ≤ i
  place_small node p e = omega (arith, place_of_le same_node node held, few_nodes)

  pub long : i ≤ length ws → length numbers ≡ i
  long l = omega (arith, ap length reached.numbers_are, numbers-length (record { nodes = []; numbers = [] }) (take i ws), length-take i ws)

  pub reached_all : i ≡ length ws → (held ≡ nodes_of ws) × (numbers ≡ numbers_of ws)
  reached_all end =
      let all : take i ws ≡ ws = take_all i ws (omega arith) in
      (reached.nodes_are ∙ ap nodes_of all, reached.numbers_are ∙ ap numbers_of all)

  -- one word more
  pub reached_more : (d : Node) {node : Node} {ks : List ℕ} → i < length ws → ks ≡ numbers → node ≡ renumbered ks (get_or ws i d) → (held' : List Node) (numbers' : List ℕ) (p : ℕ) → p ≡ place_of same_node node held → held' ≡ enter same_node node held → numbers' ≡ numbers ++ (p ∷ []) → Reached ws held' numbers' (i + 1)
  reached_more d {node} in' numbers_read node_is held' numbers' p p_is held_is numbers_is =
      let its : node ≡ renumbered (numbers_of (take i ws)) (get_or ws i d) =
      node_is ∙ ap (λ ks. renumbered ks (get_or ws i d)) (numbers_read ∙ reached.numbers_are) in
      let place : p ≡ place_of same_node (renumbered (numbers_of (take i ws)) (get_or ws i d)) (nodes_of (take i ws)) =
      p_is ∙ (λ k. place_of same_node (its k) (reached.nodes_are k)) in
      record {
        nodes_are = held_is ∙ (λ k. enter same_node (its k) (reached.nodes_are k)) ∙ sym (ap (λ (m : SoFar). m.nodes) (merge_all_more ws i d in'));
        numbers_are = numbers_is ∙ (λ k. reached.numbers_are k ++ (place k ∷ [])) ∙ sym (ap (λ (m : SoFar). m.numbers) (merge_all_more ws i d in'));
      }
