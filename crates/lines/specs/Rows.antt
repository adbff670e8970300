-- The rows of the output. Assumes nothing.
use Rattle.std.specs.Prelude.{ℕ, ℤ, List, [], ◌∷◌, ◌++◌, flat_map}
use Rattle.std.specs.Fmt.{signed_decimal}

-- a word with a space before it
abbrev pub cell : ℤ → List ℕ
cell word = 32 ∷ signed_decimal word

-- words, a space before each
abbrev pub words_row : List ℤ → List ℕ
words_row words = flat_map cell words

-- a record behind its name
abbrev pub record_row : List ℕ → List ℤ → List ℕ
record_row name words = name ++ (words_row words ++ 10 ∷ [])
