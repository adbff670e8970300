-- The words for what a token says. Assumes nothing.
use Rattle.std.specs.Prelude.{◌≡◌, ◌≢◌, ℕ, ℤ, pos, Result, MatchResult}
use Rattle.tokens.specs.declared.numbers.UnknownWord.{UnknownWord}

-- the word is the number of this value
abbrev pub WritesBy : {A : Type 0} → (A → ℕ) → A → ℤ → Type 0
WritesBy number a word = word ≡ pos (number a)

-- the result is the value with this number, or an error where none has it
abbrev pub ReadsBy : {A : Type 0} → (A → ℕ) → ℤ → Result A UnknownWord → Type 0
ReadsBy {A} number word r =
    MatchResult r
    (λ a. pos (number a) ≡ word)
    (λ e. (e.0 ≡ word) × ((a : A) → pos (number a) ≢ word))
