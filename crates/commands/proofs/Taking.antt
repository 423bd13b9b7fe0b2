-- Options hold what stands before the rest of the words; with each pair of a name and a value they hold one value more.
use Rattle.std.proofs.Common.{length, arith, ◌≡◌, ℕ, Bool, true, false, List, [], ◌∷◌, ◌++◌, map, sym, refl, ap, ◌∙◌, append_assoc, append-nil, if◌then◌else◌}
use Rattle.std.specs.Prelude.{bytes_eq}
use Rattle.commands.specs.Options.{Holds, Takes, number_of, one_more, option_word, values_of}
use Rattle.commands.specs.declared.options.Name.{Name}
use Rattle.commands.specs.declared.options.Name.TheVariants.{Site, Rule, Wish, To, Horizon, Weighing}
use Rattle.commands.specs.declared.options.Options.{Options}

pub record Before (words rest : List (List ℕ)) (o : Options) : Type 0 where
  pub given : Name → List (List ℕ)
  pub parts : (name : Name) → values_of name words ≡ given name ++ values_of name rest
  pub holds : Holds given o

-- one value more before is one less in the rest
seam : (b : Bool) (xs : List (List ℕ)) (x : List ℕ) (rest : List (List ℕ)) → xs ++ (if b then x ∷ rest else rest) ≡ (if b then xs ++ (x ∷ []) else xs) ++ rest
seam true xs x rest = sym (append_assoc xs (x ∷ []) rest)
seam false xs x rest = refl

pub before_more : (words from rest : List (List ℕ)) (word value : List ℕ) (name : Name) (o p : Options) → Before words from o → from ≡ word ∷ (value ∷ rest) → word ≡ option_word name → Takes name value o p → Before words rest p
before_more words from rest word value name o p before cut is takes = record {
  given = one_more name value before.given;
  parts = λ other. before.parts other
      ∙ ap (λ r. before.given other ++ values_of other r) cut
      ∙ ap (λ w. before.given other ++ (if bytes_eq w (option_word other) then value ∷ values_of other rest else values_of other rest)) is
      ∙ seam (bytes_eq (option_word name) (option_word other)) (before.given other) value (values_of other rest);
  holds = takes before.given before.holds;
}

-- nothing stands before the first word
pub before_first : (words : List (List ℕ)) (o : Options) → Holds (λ name. []) o → Before words words o
before_first words o holds = record { given = λ name. []; parts = λ name. refl; holds = holds }

Holds-same : (xs ys : Name → List (List ℕ)) (o : Options) → ((name : Name) → ys name ≡ xs name) → Holds xs o → Holds ys o
Holds-same xs ys o same holds = record {
  site = same Site ∙ holds.site;
  rule = same Rule ∙ holds.rule;
  wishes = same Wish ∙ holds.wishes;
  to = same To ∙ holds.to;
  horizon = ap (map number_of) (same Horizon) ∙ holds.horizon;
  weighing = same Weighing ∙ holds.weighing;
}

texts-none : {A : Type 0} (text : A → List ℕ) (xs : List A) → length xs ≡ 0 → map text xs ≡ []
texts-none text [] none = refl
texts-none text (x ∷ xs) none = absurd (omega arith)

-- and all of it before the end
pub before_end : {A : Type 0} (text : A → List ℕ) (words : List (List ℕ)) (rest : List A) (o : Options) → length rest ≡ 0 → Before words (map text rest) o → Holds (λ name. values_of name words) o
before_end text words rest o none before =
    Holds-same before.given (λ name. values_of name words) o
    (λ name. before.parts name
    ∙ ap (λ r. before.given name ++ values_of name r) (texts-none text rest none)
    ∙ append-nil (before.given name))
    before.holds
