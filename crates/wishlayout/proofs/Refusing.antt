-- The refusals of the wish book's layout are right.
use Rattle.std.proofs.Common.{◌≡◌, ℕ, zero, suc, true, List, [], ◌∷◌, length, refl, arith, rules}
use Rattle.std.proofs.lemmas.Bool.{and_parts}
use Rattle.formula.specs.declared.Node.{Node}
use Rattle.words.specs.Words.{kind}
use Rattle.words.specs.Format.{ends}
use Rattle.words.specs.Refusing.{word_tests, book_tests, first_not_passed, RefusesRightly}
use Rattle.words.specs.Tests.{all}
use Rattle.words.proofs.Encoding.{Passes, passes_append}
use Rattle.words.proofs.Refusing.{refused, why_not, refuses_rightly}
use Rattle.wishlayout.specs.Wishes.{good_wish}
use Rattle.wishlayout.specs.Layout.{node_words, amount_words, Draft, noding, wishing, read_word, whole_book, wish_format, written, Good}
use Rattle.wishlayout.specs.WordTests.{may_end, passes, closes}
use Rattle.wishlayout.proofs.OneWords.{wish_written}
use Rattle.wishlayout.proofs.Way.{word_kept, way_nodes, first_wish, way_wishes}

-- a word after nodes, by its kind
by_kind : (ns : List Node) (w k : ℕ) → kind w ≡ k → refused (read_word (noding ns) w) ≡ first_not_passed word_tests (passes (noding ns) w)
unfolding read_word
by_kind ns w zero e = rw e (search rules)
by_kind ns w (suc zero) e = rw e (search rules)
by_kind ns w (suc (suc zero)) e = rw e (search rules)
by_kind ns w (suc (suc (suc zero))) e = rw e (search rules)
by_kind ns w (suc (suc (suc (suc zero)))) e = rw e (search rules)
by_kind ns w (suc (suc (suc (suc (suc zero))))) e = rw e (search rules)
by_kind ns w (suc (suc (suc (suc (suc (suc zero)))))) e = rw e (search rules)
by_kind ns w (suc (suc (suc (suc (suc (suc (suc zero))))))) e = rw e (search rules)
by_kind ns w (suc (suc (suc (suc (suc (suc (suc (suc zero)))))))) e = rw e (search rules)
by_kind ns w (suc (suc (suc (suc (suc (suc (suc (suc (suc zero))))))))) e = rw e (search rules)
by_kind ns w (suc (suc (suc (suc (suc (suc (suc (suc (suc (suc zero)))))))))) e = rw e (search rules)
by_kind ns w (suc (suc (suc (suc (suc (suc (suc (suc (suc (suc (suc k))))))))))) e = rw e (search rules)

tested : (d : Draft) (w : ℕ) → Good d → refused (read_word d w) ≡ first_not_passed word_tests (passes d w)
unfolding read_word
tested (noding ns) w g = by_kind ns w (kind w) refl
tested (wishing ns ws) w g = search rules

ends_where : (d : Draft) (w : ℕ) → Good d → read_word d w ≡ ends → (may_end d ≡ true) × (kind w ≡ 15)
unfolding read_word
ends_where (noding ns) w g e = search rules
ends_where (wishing ns ws) w g e = search rules

end_reads : (d : Draft) (w : ℕ) → Good d → may_end d ≡ true → kind w ≡ 15 → read_word d w ≡ ends
unfolding read_word
end_reads (noding ns) w g m e = search rules
end_reads (wishing ns ws) w g m e = search rules

judged : (d : Draft) → Good d → may_end d ≡ true → why_not (whole_book d) ≡ first_not_passed book_tests (closes d)
unfolding whole_book
judged (noding ns) g e = search rules
judged (wishing ns ws) g e = search rules

-- the words of a draft lead to it
leads : (d : Draft) → Good d → Passes wish_format (noding []) (written d) d
leads (noding ns) g = way_nodes [] ns g.0 g.1.0 (omega (arith, g.1.1))
leads (wishing [] ws) g = absurd (omega (arith, g.1.0))
leads (wishing (n ∷ ns) []) g = absurd (omega (arith, g.1.1.0))
leads (wishing (n ∷ ns) (w ∷ ws)) g =
    let few = g.0.1.1 in
    let each = and_parts (good_wish (length (n ∷ ns)) w) (all (good_wish (length (n ∷ ns))) ws) g.1.1.1.1 in
    passes_append wish_format (node_words (n ∷ ns)) (amount_words (w ∷ ws)) (noding []) (noding (n ∷ ns)) (wishing (n ∷ ns) (w ∷ ws))
    (way_nodes [] (n ∷ ns) g.0.0 g.0.1.0 (omega (arith, few)))
    (wishing (n ∷ ns) (w ∷ []), (first_wish n ns w few each.0, ((wish_written (length (n ∷ ns)) w few each.0).1.1, way_wishes (n ∷ ns) (w ∷ []) ws few each.1 (omega (arith, g.1.1.1.0)))))

-- the refusals of the wish book's layout are right
pub wish_refuses : RefusesRightly wish_format Good written may_end passes closes
wish_refuses = refuses_rightly wish_format Good written (λ s t w. word_kept s t w) (refl, (refl, omega arith)) refl leads may_end passes closes tested ends_where end_reads judged
