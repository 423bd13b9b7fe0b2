-- What the turns of a search do to the listed codes: what is listed keeps its place, and once each listed state has had its turn
-- nothing more comes.
use Rattle.std.proofs.Common.{◌≡◌, ℕ, zero, suc, ◌+◌, ◌<◌, ◌≤◌, eqb, ltb, List, [], ◌∷◌, ◌++◌, length, get_or, take, sym, refl, ap, ◌∙◌, subst, ⊎_elim, arith}
use Rattle.std.proofs.lemmas.List.{append_assoc, append-nil, get_or-take, take_all, take_more, take-take}
use Rattle.std.proofs.lemmas.Bool.{cases_lt, cond-true, cond-false, le-ltb, lt-ltb}
use Rattle.model.specs.Models.{Model}
use Rattle.register.specs.Keys.{Kept, enter_all}
use Rattle.register.proofs.Keys.{enter_all-append, enter_all-length, enter_all-take}
use Rattle.register.proofs.Identity.{eqb_identity, enter_all_identical}
use Rattle.reach.specs.Reached.{coming_up}
use Rattle.reach.specs.Search.{leads_to, after_turn, listed_after, codes_of}

-- one turn

pub listed_start : (m : Model) → listed_after m 0 ≡ m.start ∷ []
unfolding listed_after
listed_start m = refl

listed_turn : (m : Model) (n : ℕ) → listed_after m (suc n) ≡ after_turn m (listed_after m n) n
unfolding listed_after
listed_turn m n = refl

pub codes_are : (m : Model) → codes_of m ≡ listed_after m 4096
unfolding codes_of
codes_are m = refl

-- the state listed at place n adds its targets,
pub listed_next : (m : Model) (n : ℕ) → n < length (listed_after m n) → listed_after m (suc n) ≡ enter_all eqb (listed_after m n) (leads_to m (get_or (listed_after m n) n 0))
listed_next m n l =
    listed_turn m n
    ∙ cond-true (ltb n (length (listed_after m n))) (enter_all eqb (listed_after m n) (leads_to m (get_or (listed_after m n) n 0))) (listed_after m n) (lt-ltb n (length (listed_after m n)) l)

-- and a turn past the list changes nothing
pub listed_same : (m : Model) (n : ℕ) → length (listed_after m n) ≤ n → listed_after m (suc n) ≡ listed_after m n
listed_same m n l =
    listed_turn m n
    ∙ cond-false (ltb n (length (listed_after m n))) (enter_all eqb (listed_after m n) (leads_to m (get_or (listed_after m n) n 0))) (listed_after m n) (le-ltb n (length (listed_after m n)) l)

-- what is listed stays at the front
turn_front : (m : Model) (n : ℕ) → take (length (listed_after m n)) (listed_after m (suc n)) ≡ listed_after m n
turn_front m n =
    ⊎_elim
    (λ l. ap (take (length (listed_after m n))) (listed_next m n l) ∙ enter_all-take eqb (listed_after m n) (leads_to m (get_or (listed_after m n) n 0)))
    (λ l. ap (take (length (listed_after m n))) (listed_same m n l) ∙ take_all (length (listed_after m n)) (listed_after m n) (omega arith))
    (cases_lt n (length (listed_after m n)))

turn_grows : (m : Model) (n : ℕ) → length (listed_after m n) ≤ length (listed_after m (suc n))
turn_grows m n =
    ⊎_elim
    (λ l. omega (arith, ap length (listed_next m n l), enter_all-length eqb (listed_after m n) (leads_to m (get_or (listed_after m n) n 0))))
    (λ l. omega (arith, ap length (listed_same m n l)))
    (cases_lt n (length (listed_after m n)))

-- many turns

pub listed_grows : (m : Model) (n k : ℕ) → n ≤ k → length (listed_after m n) ≤ length (listed_after m k)
listed_grows m n zero l =
    let e : n ≡ 0 = omega arith in
    omega (arith, ap (λ i. length (listed_after m i)) e)
listed_grows m n (suc k) l =
    ⊎_elim
    (λ (less : n < suc k). omega (arith, listed_grows m n k (omega arith), turn_grows m k))
    (λ (more : suc k ≤ n).
    let e : n ≡ suc k = omega arith in
    omega (arith, ap (λ i. length (listed_after m i)) e))
    (cases_lt n (suc k))

pub listed_within : (m : Model) (n : ℕ) → n ≤ 4096 → length (listed_after m n) ≤ length (codes_of m)
listed_within m n l = omega (arith, listed_grows m n 4096 l, ap length (codes_are m))

-- what is listed is the front of what is listed later
pub listed_front : (m : Model) (n k : ℕ) → n ≤ k → take (length (listed_after m n)) (listed_after m k) ≡ listed_after m n
listed_front m n zero l =
    let e : n ≡ 0 = omega arith in
    ap (λ i. take (length (listed_after m n)) (listed_after m i)) (sym e) ∙ take_all (length (listed_after m n)) (listed_after m n) (omega arith)
listed_front m n (suc k) l =
    ⊎_elim
    (λ (less : n < suc k).
    let grown : length (listed_after m n) ≤ length (listed_after m k) = listed_grows m n k (omega arith) in
    sym (take-take (length (listed_after m n)) (length (listed_after m k)) (listed_after m (suc k)) grown)
    ∙ ap (take (length (listed_after m n))) (turn_front m k)
    ∙ listed_front m n k (omega arith))
    (λ (more : suc k ≤ n).
    let e : n ≡ suc k = omega arith in
    ap (λ i. take (length (listed_after m n)) (listed_after m i)) (sym e) ∙ take_all (length (listed_after m n)) (listed_after m n) (omega arith))
    (cases_lt n (suc k))

-- each code keeps its place
pub listed_stays : (m : Model) (n k i : ℕ) → n ≤ k → i < length (listed_after m n) → get_or (listed_after m k) i 0 ≡ get_or (listed_after m n) i 0
listed_stays m n k i l h =
    sym (get_or-take (length (listed_after m n)) (listed_after m k) i 0 h)
    ∙ ap (λ cs. get_or cs i 0) (listed_front m n k l)

pub listed_some : (m : Model) (n : ℕ) → 0 < length (listed_after m n)
listed_some m n = omega (arith, listed_grows m 0 n (omega arith), ap length (listed_start m))

pub codes_some : (m : Model) → 0 < length (codes_of m)
codes_some m = omega (arith, listed_some m 4096, ap length (codes_are m))

pub listed_first : (m : Model) (n : ℕ) → get_or (listed_after m n) 0 0 ≡ m.start
listed_first m n = listed_stays m 0 n 0 (omega arith) (listed_some m 0) ∙ ap (λ cs. get_or cs 0 0) (listed_start m)

pub codes_first : (m : Model) → get_or (codes_of m) 0 0 ≡ m.start
codes_first m = ap (λ cs. get_or cs 0 0) (codes_are m) ∙ listed_first m 4096

-- once every listed state has had its turn, further turns change nothing
pub listed_still : (m : Model) (n k : ℕ) → n ≤ k → length (listed_after m n) ≤ n → listed_after m k ≡ listed_after m n
listed_still m n zero l h =
    let e : n ≡ 0 = omega arith in
    ap (listed_after m) (sym e)
listed_still m n (suc k) l h =
    ⊎_elim
    (λ (less : n < suc k).
    let same : listed_after m k ≡ listed_after m n = listed_still m n k (omega arith) h in
    listed_same m k (omega (arith, ap length same)) ∙ same)
    (λ (more : suc k ≤ n).
    let e : n ≡ suc k = omega arith in
    ap (listed_after m) (sym e))
    (cases_lt n (suc k))

pub listed_complete : (m : Model) (n : ℕ) → n ≤ 4096 → length (listed_after m n) ≤ n → codes_of m ≡ listed_after m n
listed_complete m n l h = codes_are m ∙ listed_still m n 4096 l h

-- what is listed is what the start and the turns of the first n listed states entered

coming_push : (m : Model) (cs : List ℕ) (c : ℕ) → coming_up m (cs ++ (c ∷ [])) ≡ coming_up m cs ++ leads_to m c
coming_push m [] c = append-nil (leads_to m c)
coming_push m (x ∷ cs) c =
    ap (λ ts. leads_to m x ++ ts) (coming_push m cs c) ∙ sym (append_assoc (leads_to m x) (coming_up m cs) (leads_to m c))

entered_start : (s : ℕ) → enter_all eqb [] (s ∷ []) ≡ s ∷ []
entered_start s = refl

entered_next : (m : Model) (n : ℕ) → n < length (listed_after m n) → listed_after m n ≡ enter_all eqb [] (m.start ∷ coming_up m (take n (listed_after m n))) → listed_after m (suc n) ≡ enter_all eqb [] (m.start ∷ coming_up m (take (suc n) (listed_after m (suc n))))
entered_next m n l held =
    let front : take (n + 1) (listed_after m (suc n)) ≡ take n (listed_after m n) ++ (get_or (listed_after m n) n 0 ∷ []) =
    sym (take-take (n + 1) (length (listed_after m n)) (listed_after m (suc n)) (omega arith))
    ∙ ap (take (n + 1)) (turn_front m n)
    ∙ take_more (listed_after m n) n 0 l in
    let came : coming_up m (take (n + 1) (listed_after m (suc n))) ≡ coming_up m (take n (listed_after m n)) ++ leads_to m (get_or (listed_after m n) n 0) =
    ap (coming_up m) front ∙ coming_push m (take n (listed_after m n)) (get_or (listed_after m n) n 0) in
    let one : n + 1 ≡ suc n = omega arith in
    listed_next m n l
    ∙ ap (λ cs. enter_all eqb cs (leads_to m (get_or (listed_after m n) n 0))) held
    ∙ sym (enter_all-append eqb [] (m.start ∷ coming_up m (take n (listed_after m n))) (leads_to m (get_or (listed_after m n) n 0)))
    ∙ ap (λ ts. enter_all eqb [] (m.start ∷ ts)) (sym came)
    ∙ ap (λ i. enter_all eqb [] (m.start ∷ coming_up m (take i (listed_after m (suc n))))) one

entered_same : (m : Model) (n : ℕ) → length (listed_after m n) ≤ n → listed_after m n ≡ enter_all eqb [] (m.start ∷ coming_up m (take n (listed_after m n))) → listed_after m (suc n) ≡ enter_all eqb [] (m.start ∷ coming_up m (take (suc n) (listed_after m (suc n))))
entered_same m n l held =
    let same = listed_same m n l in
    let front : take n (listed_after m n) ≡ take (suc n) (listed_after m (suc n)) =
    take_all n (listed_after m n) l
    ∙ sym same
    ∙ sym (take_all (suc n) (listed_after m (suc n)) (omega (arith, ap length same))) in
    same ∙ held ∙ ap (λ cs. enter_all eqb [] (m.start ∷ coming_up m cs)) front

pub listed_entered : (m : Model) (n : ℕ) → listed_after m n ≡ enter_all eqb [] (m.start ∷ coming_up m (take n (listed_after m n)))
listed_entered m zero = listed_start m ∙ sym (entered_start m.start)
listed_entered m (suc n) =
    ⊎_elim
    (λ l. entered_next m n l (listed_entered m n))
    (λ l. entered_same m n l (listed_entered m n))
    (cases_lt n (length (listed_after m n)))

-- each code once, where it first came
pub listed_kept : (m : Model) (n : ℕ) → Kept (m.start ∷ coming_up m (take n (listed_after m n))) (listed_after m n)
listed_kept m n =
    subst (Kept (m.start ∷ coming_up m (take n (listed_after m n)))) (sym (listed_entered m n))
    (enter_all_identical eqb eqb_identity (m.start ∷ coming_up m (take n (listed_after m n))))

-- a list whose states have all had their turn
pub listed_closed : (m : Model) (n : ℕ) → length (listed_after m n) ≤ n → Kept (m.start ∷ coming_up m (listed_after m n)) (listed_after m n)
listed_closed m n l =
    subst (λ cs. Kept (m.start ∷ coming_up m cs) (listed_after m n)) (take_all n (listed_after m n) l) (listed_kept m n)
