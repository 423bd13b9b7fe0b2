-- What one word adds to what was gathered, and that this is a step of the wish book's format.
use Rattle.std.proofs.Common.{◌≡◌, ℕ, ◌≤◌, Bool, true, false, eqb, ltb, List, [], ◌∷◌, ◌++◌, length, Ok, Err, Result, sym, refl, ap, ◌∙◌, subst, arith, rules}
use Rattle.std.proofs.lemmas.List.{take_all}
use Rattle.bounded.specs.Listed.{listed}
use Rattle.formula.specs.declared.Node.{Node}
use Rattle.refusal.specs.declared.Refusal.{Refusal}
use Rattle.refusal.specs.declared.Refusal.TheVariants.{WrongKind}
use Rattle.words.specs.Words.{kind}
use Rattle.words.specs.Format.{Step, wrong, more, check, require, onto}
use Rattle.words.specs.Drafts.{Stepped}
use Rattle.words.specs.declared.reader.Turn.{Turn}
use Rattle.words.specs.declared.reader.Turn.TheVariants.{End}
use Rattle.wishlayout.specs.declared.Wish.{Wish}
use Rattle.wishlayout.specs.Layout.{Draft, noding, wishing, read_wish, read_word, Good}
use Rattle.wishlayout.specs.OneWord.{node_of, wish_of}
use Rattle.wishlayout.proofs.Way.{word_kept}
use Rattle.wishbook.specs.declared.gathered.Gathered.{Gathered}
use Rattle.wishbook.specs.Drafts.{draft_with, GoodSoFar}
use Rattle.wishbook.specs.Gathering.{draft_of}
use Rattle.wishbook.specs.Steps.{Pushed, NodeAdded, WishAdded}

-- an item more is a step, where the draft after it is followed
pushed_steps : {X G S : Type 0} (Follows : G → S → Type 0) (s : S) (g' : G) (xs ys : List X) (b : Bool) (r : Refusal) (said : Result X Refusal) (next : List X → S) (answer : Result Turn Refusal)
    → ((x : X) → ys ≡ xs ++ (x ∷ []) → Follows g' (next (xs ++ (x ∷ []))))
    → Pushed xs (require b r said) ys answer → Stepped Follows s (check b r (onto said (λ y. more (next (xs ++ (y ∷ [])))))) g' answer
pushed_steps Follows s g' xs ys true r (Ok x) next answer goes h = (h.0, goes x h.1)
pushed_steps Follows s g' xs ys true r (Err q) next answer goes h = h.0
pushed_steps Follows s g' xs ys false r said next answer goes h = h.0

-- what holds of the list and of each draft that is read holds after it
pushed_keeps : {X S : Type 0} (P : List X → Type 0) (xs ys : List X) (b : Bool) (r : Refusal) (said : Result X Refusal) (next : List X → S) (answer : Result Turn Refusal)
    → P xs → ((x : X) → check b r (onto said (λ y. more (next (xs ++ (y ∷ []))))) ≡ more (next (xs ++ (x ∷ []))) → P (xs ++ (x ∷ [])))
    → Pushed xs (require b r said) ys answer → P ys
pushed_keeps P xs ys true r (Ok x) next answer p goes h = subst P (sym h.1) (goes x refl)
pushed_keeps P xs ys true r (Err q) next answer p goes h = subst P (sym h.1) p
pushed_keeps P xs ys false r said next answer p goes h = subst P (sym h.1) p

abbrev Followed : Gathered → Draft → Type 0
Followed g d = draft_of g ≡ d

-- the step of a draft that was reached
stepped : (g g' : Gathered) (w : ℕ) (d s : Draft) (st : Step Draft) (answer : Result Turn Refusal) → draft_of g ≡ d → Followed g s → read_word d w ≡ st → Stepped Followed d st g' answer → Stepped Followed s (read_word s w) g' answer
stepped g g' w d s st answer at f is steps = search rules

-- a list with an item more is not empty
pushed_wishing : (ns : List Node) (ws : List Wish) (x : Wish) → draft_with ns (ws ++ (x ∷ [])) ≡ wishing ns (ws ++ (x ∷ []))
pushed_wishing ns [] x = refl
pushed_wishing ns (w ∷ ws) x = refl

some_wishing : (ns : List Node) (ws : List Wish) → (length ws ≡ 0 → ⊥) → draft_with ns ws ≡ wishing ns ws
some_wishing ns [] some = absurd (some refl)
some_wishing ns (w ∷ ws) some = refl

none_noding : (ns : List Node) (ws : List Wish) → length ws ≡ 0 → draft_with ns ws ≡ noding ns
none_noding ns [] e = refl
none_noding ns (w ∷ ws) e = absurd (omega arith)

-- the steps of what was gathered: from g to g'

node_word_is : (ns : List Node) (w : ℕ) → eqb (kind w) 10 ≡ false → read_word (noding ns) w ≡ check (ltb (length ns) 128) WrongKind (onto (node_of (length ns) w) (λ n. more (noding (ns ++ (n ∷ [])))))
unfolding read_word
node_word_is ns w isnt = search rules

pub by_node : (g g' : Gathered) (w : ℕ) (s : Draft) (answer : Result Turn Refusal) → length (listed g.wishes) ≡ 0 → eqb (kind w) 10 ≡ false → g'.wishes ≡ g.wishes → NodeAdded (listed g.nodes) w (listed g'.nodes) answer → Followed g s → Stepped Followed s (read_word s w) g' answer
by_node g g' w s answer z isnt same told f =
    stepped g g' w (noding (listed g.nodes)) s (check (ltb (length (listed g.nodes)) 128) WrongKind (onto (node_of (length (listed g.nodes)) w) (λ n. more (noding (listed g.nodes ++ (n ∷ [])))))) answer
    (none_noding (listed g.nodes) (listed g.wishes) z) f (node_word_is (listed g.nodes) w isnt)
    (pushed_steps Followed (noding (listed g.nodes)) g' (listed g.nodes) (listed g'.nodes) (ltb (length (listed g.nodes)) 128) WrongKind (node_of (length (listed g.nodes)) w) noding answer
    (λ n more_is. none_noding (listed g'.nodes) (listed g'.wishes) (ap (λ v. length (listed v)) same ∙ z) ∙ ap noding more_is) told)

-- the same of the draft

good_draft : (ns : List Node) (ws : List Wish) → length ws ≤ 16 → GoodSoFar ns ws → Good (draft_with ns ws)
good_draft ns [] few good = good.0
good_draft ns (w ∷ ws) few good = search rules

draft_good : (ns : List Node) (ws : List Wish) → Good (draft_with ns ws) → GoodSoFar ns ws
draft_good ns [] good = (good, (refl, λ l. absurd (omega arith)))
draft_good ns (w ∷ ws) good = (good.0, (good.1.1.1.1, λ l. good.1.0))

pub node_good : (ns ms : List Node) (ws : List Wish) (w : ℕ) (answer : Result Turn Refusal) → length ws ≡ 0 → eqb (kind w) 10 ≡ false → GoodSoFar ns ws → NodeAdded ns w ms answer → GoodSoFar ms ws
node_good ns ms ws w answer z isnt good told =
    let before = subst Good (none_noding ns ws z) (good_draft ns ws (omega arith) good) in
    draft_good ms ws
    (subst Good (sym (none_noding ms ws z))
    (pushed_keeps (λ l. Good (noding l)) ns ms (ltb (length ns) 128) WrongKind (node_of (length ns) w) noding answer before
    (λ n e. (word_kept (noding ns) (noding (ns ++ (n ∷ []))) w before (node_word_is ns w isnt ∙ e)).0) told))

first_none : (ns : List Node) (w : ℕ) → length ns ≡ 0 → eqb (kind w) 10 ≡ true → read_word (noding ns) w ≡ wrong WrongKind
unfolding read_word
first_none [] w e is = search rules
first_none (n ∷ ns) w e is = absurd (omega arith)

pub by_none : (g g' : Gathered) (w : ℕ) (s : Draft) → length (listed g.wishes) ≡ 0 → eqb (kind w) 10 ≡ true → length (listed g.nodes) ≡ 0 → Followed g s → Stepped Followed s (read_word s w) g' (Err WrongKind)
by_none g g' w s z is none_yet f =
    stepped g g' w (noding (listed g.nodes)) s (wrong WrongKind) (Err WrongKind) (none_noding (listed g.nodes) (listed g.wishes) z) f (first_none (listed g.nodes) w none_yet is) refl

pub by_end : (g g' : Gathered) (w : ℕ) (s : Draft) → (length (listed g.wishes) ≡ 0 → ⊥) → eqb (kind w) 15 ≡ true → draft_of g' ≡ draft_of g → Followed g s → Stepped Followed s (read_word s w) g' (Ok End)
unfolding read_word
by_end g g' w s some is same f = search rules

-- where a wish may come
first_word_is : (ns : List Node) (w : ℕ) → (length ns ≡ 0 → ⊥) → eqb (kind w) 10 ≡ true → read_word (noding ns) w ≡ read_wish ns [] w
unfolding read_word
first_word_is [] w some is = absurd (some refl)
first_word_is (n ∷ ns) w some is = search rules

next_word_is : (ns : List Node) (ws : List Wish) (w : ℕ) → eqb (kind w) 15 ≡ false → read_word (wishing ns ws) w ≡ check (ltb (length ws) 16) WrongKind (read_wish ns ws w)
unfolding read_word
next_word_is ns ws w isnt = search rules

-- a wish may come next
abbrev Wishing : List Node → List Wish → ℕ → Type 0
Wishing ns ws w = read_word (draft_with ns ws) w ≡ check (ltb (length ws) 16) WrongKind (read_wish ns ws w)

pub first_wish : (ns : List Node) (ws : List Wish) (w : ℕ) → length ws ≡ 0 → eqb (kind w) 10 ≡ true → (length ns ≡ 0 → ⊥) → Wishing ns ws w
first_wish ns ws w z is some = subst (λ ws. Wishing ns ws w) (take_all 0 ws (omega arith)) (first_word_is ns w some is)

pub next_wish : (ns : List Node) (ws : List Wish) (w : ℕ) → (length ws ≡ 0 → ⊥) → eqb (kind w) 15 ≡ false → Wishing ns ws w
next_wish ns ws w some isnt = ap (λ d. read_word d w) (some_wishing ns ws some) ∙ next_word_is ns ws w isnt

pub by_wish : (g g' : Gathered) (w : ℕ) (s : Draft) (answer : Result Turn Refusal) → Wishing (listed g.nodes) (listed g.wishes) w
    → g'.nodes ≡ g.nodes → WishAdded (length (listed g.nodes)) (listed g.wishes) w (listed g'.wishes) answer → Followed g s → Stepped Followed s (read_word s w) g' answer
by_wish g g' w s answer is same told f =
    stepped g g' w (draft_of g) s (check (ltb (length (listed g.wishes)) 16) WrongKind (read_wish (listed g.nodes) (listed g.wishes) w)) answer refl f is
    (pushed_steps Followed (draft_of g) g' (listed g.wishes) (listed g'.wishes) (ltb (length (listed g.wishes)) 16) WrongKind (wish_of (length (listed g.nodes)) w) (wishing (listed g.nodes)) answer
    (λ x more_is. (λ i. draft_with (listed (same i)) (more_is i)) ∙ pushed_wishing (listed g.nodes) (listed g.wishes) x) told)

pub wish_good : (ns : List Node) (ws vs : List Wish) (w : ℕ) (answer : Result Turn Refusal) → length ws ≤ 16 → Wishing ns ws w → GoodSoFar ns ws → WishAdded (length ns) ws w vs answer → GoodSoFar ns vs
wish_good ns ws vs w answer few is good told =
    let before = good_draft ns ws few good in
    draft_good ns vs
    (pushed_keeps (λ l. Good (draft_with ns l)) ws vs (ltb (length ws) 16) WrongKind (wish_of (length ns) w) (wishing ns) answer before
    (λ x e. subst Good (sym (pushed_wishing ns ws x)) (word_kept (draft_with ns ws) (wishing ns (ws ++ (x ∷ []))) w before (is ∙ e)).0) told)
