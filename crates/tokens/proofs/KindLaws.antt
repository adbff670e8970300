-- A space, a tab and a line's end are blank; and which tokens are whole.
use Rattle.std.specs.Prelude.{if◌then◌else◌, ◌&&◌}
use Rattle.std.proofs.Common.{◌≡◌, ℕ, ◌+◌, ◌<◌, ◌≤◌, Bool, true, false, List, [], ◌∷◌, length, refl, arith}
use Rattle.std.proofs.lemmas.Bool.Decides.{nat_tests}
use Rattle.rules.specs.Text.{is_digit, run_length, every}
use Rattle.rules.specs.Characters.{character_size, code_point, is_blank}
use Rattle.rules.specs.Cut.{is_duration}
use Rattle.rules.specs.Values.{pattern_of}
use Rattle.rules.specs.Tokens.{token_of, duration}
use Rattle.tokens.specs.Whole.{is_whole}

pub space : (bs : List ℕ) → is_blank (32 ∷ bs) ≡ true
unfolding is_blank code_point character_size
space bs = refl

pub line_end : (bs : List ℕ) → is_blank (10 ∷ bs) ≡ true
unfolding is_blank code_point character_size
line_end bs = refl

pub tab : (bs : List ℕ) → is_blank (9 ∷ bs) ≡ true
unfolding is_blank code_point character_size
tab bs = refl

pub ruleset blanks = (space, line_end, tab)

-- ---- whole tokens

every_in : (p : ℕ → Bool) (xs : List ℕ) → length xs ≤ run_length p xs → every p xs ≡ true
every_in p [] h = refl
every_in p (x ∷ xs) h = by (p x) h (every_in p xs)
  where
    by : (t : Bool) → length (x ∷ xs) ≤ (if t then 1 + run_length p xs else 0) → (length xs ≤ run_length p xs → every p xs ≡ true) → (t && every p xs) ≡ true
    by true k r = r (omega (arith, k))
    by false k r = absurd (omega (arith, k))

not_every : (p : ℕ → Bool) (xs : List ℕ) → run_length p xs < length xs → every p xs ≡ false
not_every p [] h = absurd (omega (arith, h))
not_every p (x ∷ xs) h = by (p x) h (not_every p xs)
  where
    by : (t : Bool) → (if t then 1 + run_length p xs else 0) < length (x ∷ xs) → (run_length p xs < length xs → every p xs ≡ false) → (t && every p xs) ≡ false
    by true k r = r (omega (arith, k))
    by false k r = refl

pub whole_other : (b : ℕ) (bs : List ℕ) → is_digit b ≡ false → is_whole b bs ≡ true
whole_other b bs d = rw d refl

pub whole_digit : (b : ℕ) (bs : List ℕ) → is_digit b ≡ true → length bs ≤ run_length is_duration bs → is_whole b bs ≡ true
whole_digit b bs d h = rw d (every_in is_duration bs h)

pub not_whole : (b : ℕ) (bs : List ℕ) → is_digit b ≡ true → run_length is_duration bs < length bs → is_whole b bs ≡ false
not_whole b bs d h = rw d (not_every is_duration bs h)

pub digit_token : (b : ℕ) (bs : List ℕ) → is_digit b ≡ true → token_of b bs ≡ duration (pattern_of (b ∷ bs))
unfolding token_of
digit_token b bs d = grind (arith, nat_tests, d)

pub ruleset wholes = (whole_other, whole_digit, not_whole, digit_token)
