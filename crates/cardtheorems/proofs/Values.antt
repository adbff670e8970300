-- What the values of tokens and fields say is in range. Assumes nothing.
use Prim.Native.Nat.{ℕ, zero, suc, ◌+◌, ◌-◌, ◌≤◌, ◌<◌}
use Prim.Native.Char.{code}
use mathlib.Core.Path.{◌≡◌, refl}
use mathlib.Core.Bool.{Bool, true, false, not, cond, ◌&&◌, ◌||◌}
use mathlib.Core.Option.{Option, none, some}
use mathlib.Core.List.{List, [], ◌∷◌}
use native.Mathlib.Omega.{arith}
use borrow.Author.Tests.{leb-true, ltb-true, le-leb, lt-ltb}
use lib.IntN.{ℤ, pos, neg_ℤ}
use lib.ListN.{length, take, drop, set}
use lib.Dec.{eqb, leb, ltb}
use Rattle.rules.specs.Limits.{octave_limit, dot_limit, count_limit}
use Rattle.rules.specs.Text.{bytes, is_digit, is_note_letter, every, is_text}
use Rattle.rules.specs.Characters.{character_size}
use Rattle.rules.specs.Cut.{is_duration}
use Rattle.rules.specs.Values.{is_mensural, clef_named, clef_of, step_of, sign_after, named, alters_from, no_alters, letters_from, are_sharps, are_flats, all_expected, key_with, key_of, decimal_from, count_of, after_plus, is_power_of_two, plain_meter, slash_at, meter_of, raised_octave, lowered_octave, duration_of, capped, dots_at, pattern_of, sharpened, flattened, Clef}
use Rattle.rules.specs.Agreement.{All}
use Rattle.std.proofs.lemmas.Bool.{and_parts}
use Rattle.tokens.proofs.Below.{below}
use Rattle.tokens.proofs.KeyLaws.{sharps_few, flats_few}
use Rattle.theorems.proofs.Lists.{cond_ind, cond-case}
use Rattle.cardtheorems.proofs.Ranges.{IfSome, AlterIn, FifthsIn, ClefIn, MeterIn, KeyIn, LengthIn, CountIn}

-- ---- clef

named_in : (xs : List ℕ) → IfSome ClefIn (clef_named xs)
named_in xs =
    cond_ind (IfSome ClefIn) (is_text (bytes "G-2") xs) (omega arith)
    (cond_ind (IfSome ClefIn) (is_text (bytes "g-2") xs) (omega arith)
    (cond_ind (IfSome ClefIn) (is_text (bytes "F-4") xs) (omega arith)
    (cond_ind (IfSome ClefIn) (is_text (bytes "C-1") xs) (omega arith)
    (cond_ind (IfSome ClefIn) (is_text (bytes "C-2") xs) (omega arith)
    (cond_ind (IfSome ClefIn) (is_text (bytes "C-3") xs) (omega arith)
    (cond_ind (IfSome ClefIn) (is_text (bytes "C-4") xs) (omega arith)
    (cond_ind (IfSome ClefIn) (is_text (bytes "C-5") xs) (omega arith) tt)))))))

pub clef-in : (xs : List ℕ) → IfSome ClefIn (clef_of xs).clef
unfolding clef_of
clef-in xs = cond_ind (λ (c : Clef). IfSome ClefIn c.clef) (is_mensural xs) (named_in (set xs (character_size xs) (code "-"))) (named_in xs)

-- ---- key

set-in : (a : List ℤ) (i : ℕ) (z : ℤ) → All AlterIn a → AlterIn z → All AlterIn (set a i z)
set-in [] i z h g = tt
set-in (y ∷ a) zero z h g = (g, h.1)
set-in (y ∷ a) (suc i) z h g = (h.0, set-in a i z h.1 g)

sign-in : (s : Option ℤ) (b : ℕ) → IfSome AlterIn s → IfSome AlterIn (sign_after s b)
sign-in s b h = cond_ind (IfSome AlterIn) (eqb b (code "x")) refl (cond_ind (IfSome AlterIn) (eqb b (code "b")) refl h)

step_in : (a : List ℤ) (s : Option ℤ) (b : ℕ) → All AlterIn a → IfSome AlterIn s → All AlterIn (named a s b)
step_in a none b h g = h
step_in a (some sign) b h g = cond_ind (All AlterIn) (is_note_letter b) (set-in a (step_of b) sign h g) h

pub alters-in : (a : List ℤ) (s : Option ℤ) (bs : List ℕ) → All AlterIn a → IfSome AlterIn s → All AlterIn (alters_from a s bs)
alters-in a s [] h g = h
alters-in a s (b ∷ bs) h g = alters-in (named a s b) (sign_after s b) bs (step_in a s b h g) (sign-in s b g)

pub no-alters-in : All AlterIn no_alters
no-alters-in = (refl, (refl, (refl, (refl, (refl, (refl, (refl, tt)))))))

sharps-in : (n : ℕ) → n ≤ 7 → FifthsIn (pos n)
sharps-in n h = le-leb (n + 7) 14 (omega arith)

flats-in : (n : ℕ) → n ≤ 7 → FifthsIn (neg_ℤ (pos n))
flats-in zero h = refl
flats-in (suc n) h = rw (lt-ltb n 7 (omega arith)) (le-leb (7 - suc n) 14 (omega arith))

pub key_in : (xs : List ℕ) → KeyIn (key_of xs)
unfolding key_of
key_in xs =
    cond_ind KeyIn (eqb n 0) (with (pos 0) (all_expected none xs) refl)
    (cond-case KeyIn (are_sharps xs) (λ e. with (pos n) (all_expected none xs) (sharps-in n (sharps_few xs e)))
    (cond-case KeyIn (are_flats xs) (λ e. with (neg_ℤ (pos n)) (all_expected none xs) (flats-in n (flats_few xs e)))
    (with (pos 0) false refl)))
  where
    n : ℕ
    n = length (letters_from none xs)

    with : (f : ℤ) (s : Bool) → FifthsIn f → KeyIn (key_with xs f s)
    with f s h = record { alters = alters-in no_alters none xs no-alters-in tt; fifths = h }

-- ---- numbers and meter

pub count-in : (ds : List ℕ) → IfSome CountIn (count_of ds)
unfolding count_of
count-in ds = cond-case (IfSome CountIn) (ltb 0 (length ds) && every is_digit ds && leb (decimal_from 0 ds) count_limit)
    (λ e. leb-true (decimal_from 0 ds) count_limit (and_parts (ltb 0 (length ds) && every is_digit ds) (leb (decimal_from 0 ds) count_limit) e).1) tt

plain_in : (n d : Option ℕ) → IfSome CountIn n → IfSome MeterIn (plain_meter n d)
plain_in none d h = tt
plain_in (some n) none h = tt
plain_in (some n) (some d) h = cond-case (IfSome MeterIn) (ltb 0 n && is_power_of_two d) (λ e. let t = and_parts (ltb 0 n) (is_power_of_two d) e in record { least = ltb-true 0 n t.0; most = h; power = t.1; symbol = omega arith }) tt

pub meter-in : (xs : List ℕ) → IfSome MeterIn (meter_of xs)
unfolding meter_of
meter-in xs =
    cond_ind (IfSome MeterIn) (is_text (bytes "c") xs) (record { least = omega arith; most = omega arith; power = refl; symbol = omega arith })
    (cond_ind (IfSome MeterIn) (is_text (bytes "c/") xs) (record { least = omega arith; most = omega arith; power = refl; symbol = omega arith })
    (cond_ind (IfSome MeterIn) (ltb (slash_at xs) (length xs)) (plain_in (count_of (after_plus (take (slash_at xs) xs))) (count_of (after_plus (drop (slash_at xs + 1) xs))) (count-in (after_plus (take (slash_at xs) xs)))) tt))

-- ---- octave, rhythm, accidental, letter

pub raised-in : (k : ℕ) → IfSome (λ (o : ℕ). o ≤ octave_limit) (raised_octave k)
raised-in k = cond-case (IfSome (λ (o : ℕ). o ≤ octave_limit)) (leb (3 + k) octave_limit) (λ e. leb-true (3 + k) octave_limit e) tt

pub lowered-in : (k : ℕ) → IfSome (λ (o : ℕ). o ≤ octave_limit) (lowered_octave k)
lowered-in k = cond_ind (IfSome (λ (o : ℕ). o ≤ octave_limit)) (leb k 4) (omega arith) tt

digit_duration : ℕ → Bool
digit_duration b = not (is_digit b) || leb (duration_of b) 9

duration-in : (b : ℕ) → is_digit b ≡ true → duration_of b ≤ 9
unfolding digit_duration
duration-in b e = let l : b ≤ 57 = leb-true b 57 (and_parts (leb 48 b) (leb b 57) e).1 in leb-true _ _ (rw e at (below digit_duration 58 refl b (omega arith)))

capped-in : (n : ℕ) → capped n ≤ dot_limit
capped-in n = cond-case (λ (k : ℕ). k ≤ dot_limit) (ltb n dot_limit) (λ e. let l = ltb-true n dot_limit e in omega arith) (omega arith)

pub pattern-in : (bs : List ℕ) → every is_duration bs ≡ true → All LengthIn (pattern_of bs)
unfolding pattern_of
pattern-in [] e = tt
pattern-in (b ∷ bs) e = let t = and_parts (is_duration b) (every is_duration bs) e in at (eqb b (code ".")) t.0 (pattern-in bs t.1)
  where
    digit : (d : Bool) → d || false ≡ true → d ≡ true
    digit true e = refl
    digit false e = e

    at : (p : Bool) → is_digit b || p ≡ true → All LengthIn (pattern_of bs) → All LengthIn (cond p (pattern_of bs) (record { duration = duration_of b; dots = capped (dots_at bs) } ∷ pattern_of bs))
    at true e h = h
    at false e h = (record { duration = duration-in b (digit (is_digit b) e); dots = capped-in (dots_at bs) }, h)

pub sharpened-in : (k : ℕ) → AlterIn (sharpened k)
sharpened-in k = cond_ind AlterIn (eqb k 1) refl refl

pub flattened-in : (k : ℕ) → AlterIn (flattened k)
flattened-in k = cond_ind AlterIn (eqb k 1) refl refl

-- a letter is one of seven bytes, and has one of the seven steps
letter-bounds : (b : ℕ) → is_note_letter b ≡ true → (65 ≤ b) × (b ≤ 71)
letter-bounds b h = let e : (leb 65 b ≡ true) × (leb b 71 ≡ true) = and_parts (leb 65 b) (leb b 71) h in (leb-true 65 b e.0, leb-true b 71 e.1)

letter_step : ℕ → Bool
letter_step b = not (is_note_letter b) || ltb (step_of b) 7

letter-step : (b : ℕ) → b < 256 → is_note_letter b ≡ true → step_of b < 7
unfolding letter_step
letter-step b h e = ltb-true _ _ (rw e at (below letter_step 256 refl b h))

pub letter-in : (b : ℕ) → is_note_letter b ≡ true → step_of b ≤ 6
letter-in b e = let l = (letter-bounds b e).1 in let s = letter-step b (omega arith) e in omega arith
