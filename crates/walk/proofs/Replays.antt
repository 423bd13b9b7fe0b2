-- A run of numbers grows by one step with each number, so a table that is filled step by step holds the run.
use Rattle.std.proofs.Common.{◌≡◌, ℕ, suc, ◌+◌, ◌<◌, ◌≤◌, min, List, [], ◌∷◌, ◌++◌, length, take, drop, get_or, set, sym, refl, ap, ◌∙◌, append_assoc, add-one, drop-cons, arith}
use Rattle.std.proofs.Math.Seq.{set-append_seam}
use Rattle.std.proofs.lemmas.List.{take_all, take_more, take-append-drop, length-take, take_min, drop_min}
use Rattle.model.specs.Models.{Model}
use Rattle.walk.specs.declared.Step.{Step}
use Rattle.walk.specs.Turns.{Turn}
use Rattle.walk.specs.Walker.{Walk, begun, turn, step, run, reached}

module _ (d : ℕ → ℕ) (m : Model) where
  run-push : (w : Walk) (ns : List ℕ) (n : ℕ) → run d m w (ns ++ (n ∷ [])) ≡ run d m w ns ++ (step m (turn d m (reached d m w ns) n) ∷ [])
  unfolding run reached
  run-push w [] n = refl
  run-push w (x ∷ ns) n = ap (λ l. step m (turn d m w x) ∷ l) (run-push (turn d m w x).next ns n)

  reached-push : (w : Walk) (ns : List ℕ) (n : ℕ) → reached d m w (ns ++ (n ∷ [])) ≡ (turn d m (reached d m w ns) n).next
  unfolding reached
  reached-push w [] n = refl
  reached-push w (x ∷ ns) n = reached-push (turn d m w x).next ns n

  pub reached-none : (w : Walk) → reached d m w [] ≡ w
  unfolding reached
  reached-none w = refl

  pub reached-append : (w : Walk) (ns more : List ℕ) → reached d m (reached d m w ns) more ≡ reached d m w (ns ++ more)
  unfolding reached
  reached-append w [] more = refl
  reached-append w (n ∷ ns) more = reached-append (turn d m w n).next ns more

  -- one number more of a list that is gone through
  pub reached_more : (w v : Walk) (given : List ℕ) (i : ℕ) → v ≡ reached d m w (take i given) → i < length given → (t : Turn Walk) → t ≡ turn d m v (get_or given i 0) → t.next ≡ reached d m w (take (i + 1) given)
  reached_more w v given i so_far inside t turned =
      ap (λ x. x.next) (turned ∙ ap (λ x. turn d m x (get_or given i 0)) so_far) ∙ sym (reached-push w (take i given) (get_or given i 0)) ∙ ap (reached d m w) (sym (take_more given i 0 inside))

  -- the numbers that a table has room for, and then the others
  pub reached_in_parts : (w : Walk) (numbers : List ℕ) (room n : ℕ) → n ≡ min (length numbers) room → reached d m (reached d m w (take room numbers)) (drop n numbers) ≡ reached d m w numbers
  reached_in_parts w numbers room n size =
      let same : take room numbers ≡ take n numbers = sym (take_min room numbers) ∙ ap (λ k. take k numbers) (omega arith) in
      ap (λ l. reached d m (reached d m w l) (drop n numbers)) same ∙ reached-append w (take n numbers) (drop n numbers) ∙ ap (reached d m w) (take-append-drop n numbers)

  length-run : (w : Walk) (ns : List ℕ) → length (run d m w ns) ≡ length ns
  unfolding run
  length-run w [] = refl
  length-run w (x ∷ ns) = ap suc (length-run (turn d m w x).next ns)

  -- the first i numbers are walked through, and their steps are in the table
  pub record Walked (given : List ℕ) (before : List Step) (i : ℕ) (now : List Step) (w : Walk) : Type 0 where
    pub steps : now ≡ run d m (begun d m) (take i given) ++ drop i before
    pub there : w ≡ reached d m (begun d m) (take i given)

  pub walked-none : (given : List ℕ) (before : List Step) (w : Walk) → w ≡ begun d m → Walked given before 0 before w
  unfolding run reached
  walked-none given before w e = record { steps = refl; there = e }

  pub walked_more : (given : List ℕ) (before : List Step) (i : ℕ) (now : List Step) (w : Walk) → Walked given before i now w → i < length given → length given ≤ length before → (t : Turn Walk) → t ≡ turn d m w (get_or given i 0) → (x : Step) → x ≡ step m t → Walked given before (i + 1) (set now i x) t.next
  walked_more given before i now w so_far inside room t turned x told =
      let done : List Step = run d m (begun d m) (take i given) in
      let end : length (run d m (begun d m) (take i given)) ≡ i = omega (arith, length-run (begun d m) (take i given), length-take i given) in
      let low : i < length before = omega arith in
      let now_is : now ≡ run d m (begun d m) (take i given) ++ (get_or before i x ∷ drop (suc i) before) = so_far.steps ∙ ap (λ l. run d m (begun d m) (take i given) ++ l) (drop-cons before i x low) in
      let turned_is : t ≡ turn d m (reached d m (begun d m) (take i given)) (get_or given i 0) = turned ∙ ap (λ v. turn d m v (get_or given i 0)) so_far.there in
      let ran : run d m (begun d m) (take (i + 1) given) ≡ run d m (begun d m) (take i given) ++ (x ∷ []) =
      ap (run d m (begun d m)) (take_more given i 0 inside) ∙ run-push (begun d m) (take i given) (get_or given i 0) ∙ ap (λ y. run d m (begun d m) (take i given) ++ (y ∷ [])) (ap (step m) (sym turned_is) ∙ sym told) in
      record {
        steps =
            (λ j. set (now_is j) (sym end j) x)
            ∙ set-append_seam (run d m (begun d m) (take i given)) (get_or before i x) (drop (suc i) before) x
            ∙ sym (append_assoc (run d m (begun d m) (take i given)) (x ∷ []) (drop (suc i) before))
            ∙ (λ j. sym ran j ++ drop (sym (add-one i) j) before);
        there = ap (λ v. v.next) turned_is ∙ sym (reached-push (begun d m) (take i given) (get_or given i 0)) ∙ ap (reached d m (begun d m)) (sym (take_more given i 0 inside));
      }

  module _ (numbers : List ℕ) (before : List Step) (i : ℕ) (now : List Step) (w : Walk) (n : ℕ) (size : n ≡ min (length numbers) (length before)) (whole : Walked (take n numbers) before i now w) (end : i ≡ length (take n numbers)) where
    walked_numbers : take i (take n numbers) ≡ take (length before) numbers
    walked_numbers =
        let same : n ≡ min (length before) (length numbers) = omega arith in
        take_all i (take n numbers) (omega arith) ∙ ap (λ k. take k numbers) same ∙ take_min (length before) numbers

    pub all_steps : now ≡ run d m (begun d m) (take (length before) numbers) ++ drop (length numbers) before
    all_steps =
        let last : i ≡ min (length numbers) (length before) = omega (arith, length-take n numbers) in
        whole.steps ∙ (λ j. run d m (begun d m) (walked_numbers j) ++ (ap (λ k. drop k before) last ∙ drop_min (length numbers) before) j)

    pub all_there : w ≡ reached d m (begun d m) (take (length before) numbers)
    all_there = whole.there ∙ ap (reached d m (begun d m)) walked_numbers
