-- A word is four bytes, lowest first. Its fields are runs of bits, and its kind is the highest four.
use Rattle.std.specs.Prelude.{⊤, ℕ, ◌+◌, ◌*◌, ◌/◌, ◌%◌, ◌^◌, ◌<◌, List, [], ◌∷◌, slice_index}

-- a word of four bytes, lowest first
abbrev pub word_of : ℕ → ℕ → ℕ → ℕ → ℕ
word_of a b c d = a + 256 * b + 65536 * c + 16777216 * d

-- the word that a list of bytes begins with
abbrev pub first_word : List ℕ → ℕ
first_word bytes =
    word_of (slice_index bytes 0) (slice_index bytes 1) (slice_index bytes 2) (slice_index bytes 3)

-- the bits of a word from the bit low on, width of them
abbrev pub field : ℕ → ℕ → ℕ → ℕ
field word low width = word / 2 ^ low % 2 ^ width

-- the highest four bits
abbrev pub kind : ℕ → ℕ
kind word = word / 2 ^ 28

-- the end word of a book: the number of words before it
abbrev pub end_word : ℕ → ℕ
end_word count = 15 * 2 ^ 28 + count

-- the bytes of words, one after another
abbrev pub bytes_of : List ℕ → List ℕ
bytes_of [] = []
bytes_of (w ∷ ws) =
    w % 256 ∷ (w / 256 % 256 ∷ (w / 65536 % 256 ∷ (w / 16777216 % 256 ∷ bytes_of ws)))

-- the words that are there whole in a file
abbrev pub words_of : List ℕ → List ℕ
words_of [] = []
words_of (a ∷ []) = []
words_of (a ∷ b ∷ []) = []
words_of (a ∷ b ∷ c ∷ []) = []
words_of (a ∷ b ∷ c ∷ d ∷ rest) = word_of a b c d ∷ words_of rest

-- the word at place p of a file, counted from 0
abbrev pub word_at : List ℕ → ℕ → ℕ
word_at bytes p = slice_index (words_of bytes) p

-- every number of the list is a byte
abbrev pub Bytes : List ℕ → Type 0
Bytes [] = ⊤
Bytes (b ∷ bs) = (b < 256) × Bytes bs
