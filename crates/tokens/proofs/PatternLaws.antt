-- The lengths of digit tokens.
use Rattle.std.specs.Prelude.{if◌then◌else◌, eqb, ◌||◌, Option, Some, None, MatchOption}
use Rattle.std.proofs.Common.{◌≡◌, ℕ, ◌+◌, Bool, true, false, List, [], ◌∷◌, length, get_or, drop, refl, sym, ap, ◌∙◌, arith}
use native.Mathlib.Numerals.{one-add}
use mathlib.Core.Bool.{or-false}
use Rattle.std.proofs.lemmas.Bool.{and_parts}
use Rattle.std.proofs.lemmas.Bool.Decides.{nat_tests}
use Rattle.rules.specs.Text.{is_digit, every}
use Rattle.rules.specs.Cut.{is_duration}
use Rattle.tokens.specs.Whole.{is_rest}
use Rattle.tokens.specs.Steps.{duration_number, number_in}
use Rattle.tokens.specs.declared.rhythm.Duration.{Duration}
use Rattle.rules.specs.Values.{Length, duration_of, capped, dots_at, pattern_of}

-- a digit is no dot
pub digit_no_dot : (b : ℕ) → is_digit b ≡ true → eqb b 46 ≡ false
digit_no_dot b d = grind (arith, nat_tests, d)

pub pattern_digit : (b : ℕ) (bs : List ℕ) → is_digit b ≡ true → pattern_of (b ∷ bs) ≡ record { duration = duration_of b; dots = capped (dots_at bs) } ∷ pattern_of bs
unfolding pattern_of
pattern_digit b bs d = rw (digit_no_dot b d)

-- dots at the start are of the length before
pub pattern_dots : (xs : List ℕ) → pattern_of xs ≡ pattern_of (drop (dots_at xs) xs)
unfolding pattern_of
pattern_dots [] = refl
pattern_dots (b ∷ bs) = by (eqb b 46) refl (pattern_dots bs)
  where
    by : (t : Bool) → eqb b 46 ≡ t → pattern_of bs ≡ pattern_of (drop (dots_at bs) bs) → (if t then pattern_of bs else record { duration = duration_of b; dots = capped (dots_at bs) } ∷ pattern_of bs) ≡ pattern_of (drop (if t then 1 + dots_at bs else 0) (b ∷ bs))
    by true e h = rw one-add h
    by false e h = rw e refl

pub pattern_nil : (xs : List ℕ) → length xs ≡ 0 → pattern_of xs ≡ []
unfolding pattern_of
pattern_nil [] h = refl
pattern_nil (x ∷ xs) h = absurd (omega (arith, h))

-- what follows the dots is a digit
pub digit_next : (xs : List ℕ) (b : ℕ) (bs : List ℕ) → every is_duration xs ≡ true → drop (dots_at xs) xs ≡ b ∷ bs → (is_digit b ≡ true) × (every is_duration bs ≡ true)
digit_next [] b bs h e = absurd (omega (arith, ap length e))
digit_next (x ∷ xs) b bs h e = by (eqb x 46) refl e (digit_next xs b bs (and_parts (is_duration x) (every is_duration xs) h).1)
  where
    by : (t : Bool) → eqb x 46 ≡ t → drop (if t then 1 + dots_at xs else 0) (x ∷ xs) ≡ b ∷ bs → (drop (dots_at xs) xs ≡ b ∷ bs → (is_digit b ≡ true) × (every is_duration bs ≡ true)) → (is_digit b ≡ true) × (every is_duration bs ≡ true)
    by true q e r = let f : drop (dots_at xs) xs ≡ b ∷ bs = ap (λ (k : ℕ). drop k (x ∷ xs)) (sym (one-add (dots_at xs))) ∙ e in r f
    by false q e r =
        let p = and_parts (is_duration x) (every is_duration xs) h in
        let digit : is_digit x ≡ true = sym (ap (λ (u : Bool). is_digit x || u) q ∙ or-false (is_digit x)) ∙ p.0 in
        (ap is_digit (sym (ap (λ (l : List ℕ). get_or l 0 0) e)) ∙ digit, ap (λ (l : List ℕ). every is_duration (drop 1 l)) (sym e) ∙ p.1)

pub rest_after_dots : (xs : List ℕ) → every is_duration xs ≡ true → is_rest (drop (dots_at xs) xs) ≡ true
rest_after_dots xs h = by (drop (dots_at xs) xs) refl
  where
    by : (l : List ℕ) → drop (dots_at xs) xs ≡ l → is_rest l ≡ true
    by [] e = refl
    by (b ∷ bs) e = let p = digit_next xs b bs h e in rw (p.0, p.1) refl

-- what follows the dots is no dot
no_dot_next : (xs : List ℕ) (b : ℕ) (bs : List ℕ) → drop (dots_at xs) xs ≡ b ∷ bs → eqb b 46 ≡ false
no_dot_next [] b bs e = absurd (omega (arith, ap length e))
no_dot_next (x ∷ xs) b bs e = by (eqb x 46) refl e (no_dot_next xs b bs)
  where
    by : (t : Bool) → eqb x 46 ≡ t → drop (if t then 1 + dots_at xs else 0) (x ∷ xs) ≡ b ∷ bs → (drop (dots_at xs) xs ≡ b ∷ bs → eqb b 46 ≡ false) → eqb b 46 ≡ false
    by true q e r = r (ap (λ (k : ℕ). drop k (x ∷ xs)) (sym (one-add (dots_at xs))) ∙ e)
    by false q e r = ap (λ (l : List ℕ). eqb (get_or l 0 0) 46) (sym e) ∙ q

-- a length of any bytes, and what stands behind it
pub length_next : (xs : List ℕ) (b : ℕ) (bs : List ℕ) → drop (dots_at xs) xs ≡ b ∷ bs → pattern_of xs ≡ record { duration = duration_of b; dots = capped (dots_at bs) } ∷ pattern_of (drop (dots_at bs) bs)
unfolding pattern_of
length_next xs b bs e = pattern_dots xs ∙ ap pattern_of e ∙ rw (no_dot_next xs b bs e) (ap (λ (l : List Length). record { duration = duration_of b; dots = capped (dots_at bs) } ∷ l) (pattern_dots bs))

pub no_length : (xs : List ℕ) → length (drop (dots_at xs) xs) ≡ 0 → pattern_of xs ≡ []
no_length xs h = pattern_dots xs ∙ pattern_nil (drop (dots_at xs) xs) h

-- another byte than a digit has no duration
pub no_duration : (b : ℕ) → is_digit b ≡ false → duration_of b ≡ 10
no_duration b d = grind (arith, nat_tests, d)

pub numbered : (o : Option Duration) (n : ℕ) → MatchOption o (n ≡ 10) (λ d. duration_number d ≡ n) → number_in o ≡ n
numbered (Some d) n h = h
numbered None n h = sym h
