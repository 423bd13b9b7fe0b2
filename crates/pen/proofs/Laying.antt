-- Words are laid one after another: one word more, and several.
use Rattle.std.proofs.Common.{◌≡◌, ℕ, ◌+◌, ◌-◌, ◌*◌, ◌<◌, ◌≤◌, List, [], ◌∷◌, ◌++◌, length, take, drop, Some, None, replicate, sym, refl, ap, ◌∙◌, subst, append_assoc, append-nil, arith}
use Rattle.std.proofs.lemmas.List.{length_push, length-append, length-replicate, drop-replicate, take_at, drop_at}
use borrow.Rule.Slice.PartMut.{put_mid}
use Rattle.words.specs.Words.{bytes_of}
use Rattle.words.proofs.Encoding.{bytes_append}
use Rattle.pen.specs.Bytes.{LaidIn}
use Rattle.pen.specs.Pens.{HasWritten, Adds}
use Rattle.pen.specs.declared.Pen.{Pen}

pub bytes_length : (ws : List ℕ) → length (bytes_of ws) ≡ 4 * length ws
bytes_length [] = refl
bytes_length (w ∷ ws) = omega (arith, bytes_length ws)

-- the table with one word more after n, where the word's bytes are written over what is there
pub laid_more : (vs : List ℕ) (w n : ℕ) (bs ys : List ℕ) (k : ℕ) → 4 ≤ length bs - 4 * n → k ≡ 4 → ys ≡ bytes_of (w ∷ []) → LaidIn vs (Some n) bs → LaidIn (vs ++ (w ∷ [])) (Some (n + 1)) (put_mid (4 * n) k bs ys)
laid_more vs w n bs ys k room four same (count, (fit, is)) =
    let begun = bytes_of vs in
    let free = length bs - length begun in
    let size : length begun ≡ 4 * n = omega (arith, bytes_length vs) in
    let front : take (4 * n) bs ≡ begun = ap (take (4 * n)) is ∙ take_at begun (replicate free 0) (4 * n) size in
    let rest : drop k (drop (4 * n) bs) ≡ replicate (free - 4) 0 =
    ap (λ j. drop j (drop (4 * n) bs)) four
    ∙ ap (λ l. drop 4 (drop (4 * n) l)) is
    ∙ ap (drop 4) (drop_at begun (replicate free 0) (4 * n) size)
    ∙ drop-replicate 4 free 0 in
    let after : put_mid (4 * n) k bs ys ≡ bytes_of (vs ++ (w ∷ [])) ++ replicate (free - 4) 0 =
    (λ i. front i ++ (same i ++ rest i))
    ∙ sym (append_assoc begun (bytes_of (w ∷ [])) (replicate (free - 4) 0))
    ∙ ap (λ l. l ++ replicate (free - 4) 0) (sym (bytes_append vs (w ∷ []))) in
    let longer : length (bytes_of (vs ++ (w ∷ []))) ≡ 4 * n + 4 = omega (arith, bytes_length (vs ++ (w ∷ [])), length_push vs w) in
    let long : length (put_mid (4 * n) k bs ys) ≡ length bs =
    ap length after ∙ length-append (bytes_of (vs ++ (w ∷ []))) (replicate (free - 4) 0) ∙ omega (arith, longer, length-replicate {A = ℕ} (free - 4) 0) in
    let left : free - 4 ≡ length (put_mid (4 * n) k bs ys) - length (bytes_of (vs ++ (w ∷ []))) = omega arith in (
      omega (arith, length_push vs w),
      (omega (arith, length_push vs w), after ∙ ap (λ j. bytes_of (vs ++ (w ∷ [])) ++ replicate j 0) left),
    )

-- one word more where there is no room
pub laid_short : (vs : List ℕ) (w n : ℕ) (bs : List ℕ) → length bs - 4 * n < 4 → LaidIn vs (Some n) bs → LaidIn (vs ++ (w ∷ [])) None bs
laid_short vs w n bs short (count, (fit, is)) = omega (arith, length_push vs w)

-- and after that
pub laid_full : (vs : List ℕ) (w : ℕ) (bs : List ℕ) → LaidIn vs None bs → LaidIn (vs ++ (w ∷ [])) None bs
laid_full vs w bs over = omega (arith, length_push vs w)

-- a wiped table has no word
pub laid_none : (bs : List ℕ) (n : ℕ) → bs ≡ replicate n 0 → LaidIn [] (Some 0) bs
laid_none bs n e =
    let same : n ≡ length bs - 0 = omega (arith, ap length e, length-replicate {A = ℕ} n 0) in
    (refl, (omega arith, e ∙ ap (λ j. replicate j 0) same))

-- nothing is added
pub adds_none : (p : Pen) → Adds [] p p
adds_none p = record { laid = λ vs h. subst (λ l. HasWritten l p) (sym (append-nil vs)) h; room = refl; lent = refl }

-- one thing after another
pub adds_both : (xs ys : List ℕ) (p q r : Pen) → Adds xs p q → Adds ys q r → Adds (xs ++ ys) p r
adds_both xs ys p q r a b = record {
  laid = λ vs h. subst (λ l. HasWritten l r) (append_assoc vs xs ys) (b.laid (vs ++ xs) (a.laid vs h));
  room = b.room ∙ a.room;
  lent = b.lent ∙ a.lent;
}
