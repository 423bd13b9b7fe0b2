-- The row of a book that is being read and where its cells begin, as the tables hold them, and the cells that they hold at the end.
use Rattle.std.specs.Prelude.{flat_map, min, IsTrue}
use Rattle.std.proofs.Common.{◌≡◌, ℕ, zero, suc, ◌+◌, ◌-◌, ◌<◌, ◌≤◌, List, [], ◌∷◌, ◌++◌, length, get_or, map, take, drop, replicate, sym, refl, ap, ◌∙◌, append_assoc, append-nil, length-append, arith}
use Rattle.std.proofs.lemmas.Grind.{flat_map-append}
use Rattle.std.proofs.lemmas.List.{take_all, take_at, drop_at, length-take}
use Rattle.std.proofs.lemmas.List.Concat.{length-flat_map}
use Rattle.sitelayout.specs.declared.Move.{Move}
use Rattle.sitelayout.specs.Layout.{padded}
use Rattle.sitelayout.specs.Site.{Site, valid}
use Rattle.siteverdict.specs.Counting.{moves_in}
use Rattle.sitemodel.specs.Meaning.{cell_at, outcome_of}
use Rattle.sitemodel.proofs.SiteLaws.{site_lawful}
use Rattle.sitebook.specs.Tables.{between, cut}

-- what there is room for

-- one more, of which no more than those are kept
pub take_push : {X : Type 0} (r : ℕ) (xs : List X) (x : X) → take r (take r xs ++ (x ∷ [])) ≡ take r (xs ++ (x ∷ []))
take_push zero xs x = refl
take_push (suc r) [] x = refl
take_push (suc r) (y ∷ xs) x = ap (λ l. y ∷ l) (take_push r xs x)

copies : (n k e : ℕ) → replicate (min k n) e ≡ take n (replicate k e)
copies zero k e =
    let none : min k zero ≡ zero = omega arith in
    ap (λ j. replicate j e) none
copies (suc n) zero e =
    let none : min zero (suc n) ≡ zero = omega arith in
    ap (λ j. replicate j e) none
copies (suc n) (suc k) e =
    let more : min (suc k) (suc n) ≡ suc (min k n) = omega arith in
    ap (λ j. replicate j e) more ∙ ap (λ l. e ∷ l) (copies n k e)

-- filled up to k places, of which there are no more than n
pub take_filled : (n k : ℕ) (xs : List ℕ) (e : ℕ) → take n xs ++ replicate (min k n - length (take n xs)) e ≡ take n (xs ++ replicate (k - length xs) e)
take_filled zero k xs e =
    let none : min k zero - zero ≡ zero = omega arith in
    ap (λ j. replicate j e) none
take_filled (suc n) k [] e =
    let all : min k (suc n) - zero ≡ min k (suc n) = omega arith in
    let those : k ≡ k - zero = omega arith in
    ap (λ j. replicate j e) all ∙ copies (suc n) k e ∙ ap (λ j. take (suc n) (replicate j e)) those
take_filled (suc n) k (x ∷ xs) e =
    let left : min k (suc n) - suc (length (take n xs)) ≡ min (k - 1) n - length (take n xs) = omega arith in
    let right : k - 1 - length xs ≡ k - suc (length xs) = omega arith in
    ap (λ l. x ∷ l) (ap (λ j. take n xs ++ replicate j e) left ∙ take_filled n (k - 1) xs e ∙ ap (λ j. take n (xs ++ replicate j e)) right)

-- the row

abbrev pub flat : List (List Move) → List Move
flat cs = flat_map (λ c. c) cs

pub flat-length : (cs : List (List Move)) → length (flat cs) ≡ moves_in cs
flat-length cs = length-flat_map (λ c. c) cs

flat_none : (n : ℕ) → flat (replicate n []) ≡ []
flat_none zero = refl
flat_none (suc n) = flat_none n

-- cells that offer nothing add nothing to it
pub flat_filled : (cs : List (List Move)) (n : ℕ) → flat (cs ++ replicate n []) ≡ flat cs
flat_filled cs n = flat_map-append (λ c. c) cs (replicate n []) ∙ ap (λ l. flat cs ++ l) (flat_none n) ∙ append-nil (flat cs)

-- an outcome more of the last cell is one more at its end
pub flat-push : (cs : List (List Move)) (c : List Move) (m : Move) → flat (cs ++ ((c ++ (m ∷ [])) ∷ [])) ≡ flat (cs ++ (c ∷ [])) ++ (m ∷ [])
flat-push cs c m =
    flat_map-append (λ c. c) cs ((c ++ (m ∷ [])) ∷ [])
    ∙ ap (λ l. flat cs ++ l) (append_assoc c (m ∷ []) [] ∙ sym (ap (λ l. l ++ (m ∷ [])) (append-nil c)))
    ∙ sym (append_assoc (flat cs) (c ++ []) (m ∷ []))
    ∙ ap (λ l. l ++ (m ∷ [])) (sym (flat_map-append (λ c. c) cs (c ∷ [])))

-- where the cells begin

-- in a row that holds r outcomes at most, the first at n
abbrev pub starts_of : ℕ → ℕ → List (List Move) → List ℕ
starts_of r n [] = []
starts_of r n (c ∷ cs) = min r n ∷ starts_of r (n + length c) cs

pub starts-length : (r n : ℕ) (cs : List (List Move)) → length (starts_of r n cs) ≡ length cs
starts-length r n [] = refl
starts-length r n (c ∷ cs) = ap suc (starts-length r (n + length c) cs)

starts-append : (r n : ℕ) (cs ds : List (List Move)) → starts_of r n (cs ++ ds) ≡ starts_of r n cs ++ starts_of r (n + length (flat cs)) ds
starts-append r n [] ds =
    let same : n ≡ n + 0 = omega arith in
    ap (λ k. starts_of r k ds) same
starts-append r n (c ∷ cs) ds =
    let same : n + length c + length (flat cs) ≡ n + length (c ++ flat cs) = omega (arith, length-append c (flat cs)) in
    ap (λ l. min r n ∷ l) (starts-append r (n + length c) cs ds ∙ ap (λ k. starts_of r (n + length c) cs ++ starts_of r k ds) same)

starts_none : (r n k : ℕ) → starts_of r n (replicate k []) ≡ replicate k (min r n)
starts_none r n zero = refl
starts_none r n (suc k) =
    let same : n + 0 ≡ n = omega arith in
    ap (λ l. min r n ∷ l) (ap (λ x. starts_of r x (replicate k [])) same ∙ starts_none r n k)

-- cells that offer nothing begin at the end of the row
pub starts_filled : (r : ℕ) (cs : List (List Move)) (k : ℕ) → starts_of r 0 (cs ++ replicate k []) ≡ starts_of r 0 cs ++ replicate k (length (take r (flat cs)))
starts_filled r cs k =
    let at : min r (0 + length (flat cs)) ≡ length (take r (flat cs)) = omega (arith, length-take r (flat cs)) in
    starts-append r 0 cs (replicate k [])
    ∙ ap (λ l. starts_of r 0 cs ++ l) (starts_none r (0 + length (flat cs)) k ∙ ap (replicate k) at)

-- a cell's outcomes do not move where it begins
pub starts-push : (r : ℕ) (cs : List (List Move)) (c d : List Move) → starts_of r 0 (cs ++ (c ∷ [])) ≡ starts_of r 0 (cs ++ (d ∷ []))
starts-push r cs c d = starts-append r 0 cs (c ∷ []) ∙ sym (starts-append r 0 cs (d ∷ []))

-- the cells of a whole book

cut_none : (n : ℕ) (row : List Move) → cut n [] row ≡ replicate n []
unfolding cut
cut_none zero row = refl
cut_none (suc n) row = ap (λ l. [] ∷ l) (cut_none n row)

-- the part of a row between two others
part : (before c after : List Move) (from to : ℕ) → from ≡ length before → to ≡ from + length c → take (to - from) (drop from (before ++ (c ++ after))) ≡ c
part before c after from to first last =
    ap (take (to - from)) (drop_at before (c ++ after) from (sym first)) ∙ take_at c after (to - from) (omega arith)

-- they are those that were read
pub cut_whole : (r n k : ℕ) (cs : List (List Move)) (before : List Move) → length before ≡ k → k + length (flat cs) ≤ r → length cs ≤ n → cut n (starts_of r k cs) (before ++ flat cs) ≡ padded n cs
unfolding cut
cut_whole r n k [] before at fits few =
    let same : n ≡ n - 0 = omega arith in
    cut_none n (before ++ []) ∙ ap (λ j. replicate j []) same
cut_whole r zero k (c ∷ cs) before at fits few = absurd (omega arith)
cut_whole r (suc n) k (c ∷ []) before at fits few =
    let long = length-append before (c ++ []) in
    let one = part before c [] (min r k) (length (before ++ (c ++ []))) (omega (arith, at, fits)) (omega (arith, at, fits, long, length-append c [])) in
    let same : n ≡ suc n - suc zero = omega arith in
    ap (λ x. x ∷ cut n [] (before ++ (c ++ []))) one ∙ ap (λ l. c ∷ l) (cut_none n (before ++ (c ++ [])) ∙ ap (λ j. replicate j []) same)
cut_whole r (suc n) k (c ∷ d ∷ cs) before at fits few =
    let long = length-append c (flat (d ∷ cs)) in
    let one = part before c (flat (d ∷ cs)) (min r k) (min r (k + length c)) (omega (arith, at, fits)) (omega (arith, at, fits, long)) in
    let rest : cut n (starts_of r (k + length c) (d ∷ cs)) (before ++ (c ++ flat (d ∷ cs))) ≡ padded n (d ∷ cs) =
    ap (cut n (starts_of r (k + length c) (d ∷ cs))) (sym (append_assoc before c (flat (d ∷ cs))))
    ∙ cut_whole r n (k + length c) (d ∷ cs) (before ++ c) (omega (arith, at, length-append before c)) (omega (arith, fits, long)) (omega arith) in
    let same : n - suc (length cs) ≡ suc n - suc (suc (length cs)) = omega arith in
    ap (λ x. x ∷ cut n (starts_of r (k + length c) (d ∷ cs)) (before ++ (c ++ flat (d ∷ cs)))) one
    ∙ ap (λ l. c ∷ l) (rest ∙ ap (λ j. (d ∷ cs) ++ replicate j []) same)

-- a cell of the book is what stands between its beginning and the next
pub cut_at : (n : ℕ) (starts : List ℕ) (row : List Move) (k : ℕ) → k < n → get_or (cut n starts row) k [] ≡ between starts row k
unfolding cut
cut_at zero starts row k few = absurd (omega arith)
cut_at (suc n) [] row zero few =
    let none : length row - length row ≡ 0 = omega arith in
    sym (ap (λ j. take j (drop (length row) row)) none)
cut_at (suc n) [] row (suc k) few = cut_at n [] row k (omega arith)
cut_at (suc n) (from ∷ starts) row zero few = refl
cut_at (suc n) (from ∷ starts) row (suc k) few =
    let same : suc (k + 1) ≡ suc k + 1 = omega arith in
    cut_at n starts row k (omega arith) ∙ ap (λ j. take (get_or (from ∷ starts) j (length row) - get_or starts k (length row)) (drop (get_or starts k (length row)) row)) same

-- the outcomes of a valid book are eight at most
pub few_at : (b : Site) (s a : ℕ) → IsTrue (valid b) → take 8 (map outcome_of (cell_at b s a)) ≡ map outcome_of (cell_at b s a)
few_at b s a sound =
    take_all 8 (map outcome_of (cell_at b s a)) ((site_lawful b sound).moves.few s a)
