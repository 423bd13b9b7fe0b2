-- Where writing out is not refused, the answer tells how much of each table is the pile's: `held`. Over tables that hold the largest
-- book it is refused only where too many states are reachable: `passed`.
use Rattle.std.proofs.Common.{◌≡◌, ℕ, ◌*◌, ◌<◌, ◌≤◌, List, [], ◌∷◌, ◌++◌, length, take, Ok, Err, Result, sym, ap, ◌∙◌, ⊎_elim, arith}
use Rattle.std.proofs.lemmas.List.{length_push, take_at}
use Rattle.model.specs.Models.{Model, Lawful}
use Rattle.pen.proofs.Laying.{bytes_length}
use Rattle.reach.specs.Adding.{room_in}
use Rattle.reach.specs.Search.{codes_of}
use Rattle.refusal.specs.declared.Refusal.{Refusal}
use Rattle.refusal.specs.declared.Refusal.TheVariants.{TooManyStates, BookTableShort}
use Rattle.sitelayout.specs.Layout.{site_words}
use Rattle.words.specs.Format.{file}
use Rattle.words.specs.Words.{end_word}
use Rattle.writeout.specs.declared.Written.{Written}
use Rattle.writeout.proofs.Outcomes.{wrote, not_written}
use Rattle.writeout.proofs.Wording.{book_most}
use Rattle.writeout.specs.Tables.{Writable, table_after, out_book, outcome, word_count}

pub held : (m : Model) (w : Written) (r : Result Written Refusal) (codes bytes : List ℕ) (places space : ℕ) → r ≡ Ok w → r ≡ outcome m places space → codes ≡ table_after r places (codes_of m) → bytes ≡ table_after r space (file (site_words (out_book m)))
    → Writable m × ((take w.states codes ≡ codes_of m) × (take (4 * w.words) bytes ≡ file (site_words (out_book m))))
held m w r codes bytes places space is answer codes-are bytes-are =
    let ws = site_words (out_book m) in
    let out = wrote m places space w (sym answer ∙ is) in
    let long : length (file ws) ≡ 4 * w.words = omega (arith, bytes_length (ws ++ (end_word (length ws) ∷ [])), length_push ws (end_word (length ws)), out.words) in (
      out.few,
      (
        ap (take w.states) (codes-are ∙ ap (λ x. table_after x places (codes_of m)) is) ∙ take_at (codes_of m) _ w.states (sym out.states),
        ap (take (4 * w.words)) (bytes-are ∙ ap (λ x. table_after x space (file ws)) is) ∙ take_at (file ws) _ (4 * w.words) long,
      ),
    )

pub passed : (m : Model) → Lawful m → (why : Refusal) (r : Result Written Refusal) (places space : ℕ) → places ≡ 4096 → space ≡ 1212424 → r ≡ Err why → r ≡ outcome m places space → (why ≡ TooManyStates) × (4096 < length (codes_of m))
passed m law why r places space many large is answer =
    ⊎_elim
    (λ (over : (why ≡ TooManyStates) × (room_in places < length (codes_of m))). (over.0, omega (arith, over.1, many)))
    (λ (short : (why ≡ BookTableShort) × Writable m × (space < 4 * word_count m)).
    absurd (omega (arith, short.2, book_most m law (codes_of m) short.1, large)))
    (not_written m places space why (sym answer ∙ is))
