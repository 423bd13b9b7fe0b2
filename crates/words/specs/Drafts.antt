-- A draft in code follows the draft of a book's format: what each word does to the one it does to the other, and the book that comes of
-- the one means the book that comes of the other. Then whatever reads by the draft reads by the format.
use Rattle.std.specs.Prelude.{◌≡◌, Ok, Err, Result}
use Rattle.refusal.specs.declared.Fault.{Fault}
use Rattle.refusal.specs.declared.Refusal.{Refusal}
use Rattle.words.specs.Format.{Step, wrong, more, ends, Verdict, got, stop}
use Rattle.words.specs.declared.reader.Turn.{Turn}
use Rattle.words.specs.declared.reader.Turn.TheVariants.{More, End}

-- the answer of a draft that followed s, to a word that does st to s; x is the draft after it
abbrev pub Stepped : {X S : Type 0} → (X → S → Type 0) → S → Step S → X → Result Turn Refusal
    → Type 0
Stepped Follows s (wrong r) x answer = answer ≡ Err r
Stepped Follows s (more t) x answer = (answer ≡ Ok More) × Follows x t
Stepped Follows s ends x answer = (answer ≡ Ok End) × Follows x s

-- the answer where the whole comes to b, or is refused
abbrev pub Finished : {K B : Type 0} → (K → B → Type 0) → Result B Refusal → Result K Refusal
    → Type 0
Finished Means (Ok b) (Ok k) = Means k b
Finished Means (Ok b) (Err r) = ⊥
Finished Means (Err r) answer = answer ≡ Err r

-- the answer to a file that reads as v
abbrev pub Answers : {K B : Type 0} → (K → B → Type 0) → Verdict B → Result K Fault → Type 0
Answers Means (got b) (Ok k) = Means k b
Answers Means (got b) (Err f) = ⊥
Answers Means (stop r p) answer = answer ≡ Err (record { refusal = r; place = p })
