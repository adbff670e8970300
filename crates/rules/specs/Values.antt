-- What the values of tokens and fields say (specification, 4, 6 to 8 and 10). Assumes nothing.
use Rattle.std.specs.Prelude.{ℕ, ◌+◌, ◌-◌, ◌*◌, ◌%◌, Bool, true, false, not, ◌&&◌, ◌||◌, List, [], ◌∷◌, length, take, drop, get_or, set, replicate, ℤ, pos, negsuc, neg_ℤ, eqb, leb, ltb, if◌then◌else◌}
use Prim.Native.Char.{code}
use Rattle.std.proofs.Math.Option.{Option, none, some}
use Rattle.rules.specs.Limits.{dot_limit, octave_limit, count_limit, whole_bar_limit}
use Rattle.rules.specs.Text.{bytes, among, is_digit, is_note_letter, run_length, every, has, begins, is_text, index_in}
use Rattle.rules.specs.Characters.{character_size, characters_in}

-- ---- clef

-- clefs: 0 none, 1 treble, 2 treble8vb, 3 bass, 4 soprano, 5 mezzo, 6 alto, 7 tenor, 8 baritone
abbrev pub treble : ℕ
treble = 1

-- what a clef's value says: its clef, if it has one, and whether it is mensural, with a `+`
pub record Clef : Type 0 where
  pub clef : Option ℕ
  pub mensural : Bool

-- G-2, g-2, F-4, C-1 to C-5 give treble, treble8vb, bass, soprano, mezzo, alto, tenor, baritone
abbrev pub clef_named : List ℕ → Option ℕ
clef_named xs =
    if is_text (bytes "G-2") xs then some treble
    else if is_text (bytes "g-2") xs then some 2
    else if is_text (bytes "F-4") xs then some 3
    else if is_text (bytes "C-1") xs then some 4
    else if is_text (bytes "C-2") xs then some 5
    else if is_text (bytes "C-3") xs then some 6
    else if is_text (bytes "C-4") xs then some 7
    else if is_text (bytes "C-5") xs then some 8
    else none

-- any three characters with `+` in the middle
abbrev pub is_mensural : List ℕ → Bool
is_mensural xs = eqb (characters_in xs) 3 && eqb (get_or xs (character_size xs) 0) (code "+")

-- they read as if it were `-`
unfoldable pub clef_of : List ℕ → Clef
clef_of xs = if is_mensural xs then record { clef = clef_named (set xs (character_size xs) (code "-")); mensural = true } else record { clef = clef_named xs; mensural = false }

-- ---- key

-- steps count 0 to 6 from C
abbrev pub step_of : ℕ → ℕ
step_of b = index_in (bytes "CDEFGAB") b

-- what a key's value says: an alteration for each of the seven steps, the fifths, and whether it is standard (gives no d6)
pub record Key : Type 0 where
  pub alters : List ℤ
  pub fifths : ℤ
  pub standard : Bool

-- the nearest sign before the next byte: 1 (`x`) or -1 (`b`), none before any sign
abbrev pub sign_after : Option ℤ → ℕ → Option ℤ
sign_after s b = if eqb b (code "x") then some (pos 1) else if eqb b (code "b") then some (negsuc 0) else s

-- a letter A to G after a sign
abbrev pub is_named : Option ℤ → ℕ → Bool
is_named none b = false
is_named (some sign) b = is_note_letter b

-- it gets 1 or -1 by that sign
abbrev pub named : List ℤ → Option ℤ → ℕ → List ℤ
named a none b = a
named a (some sign) b = if is_note_letter b then set a (step_of b) sign else a

-- the steps' alterations: the last naming counts
abbrev pub alters_from : List ℤ → Option ℤ → List ℕ → List ℤ
alters_from a s [] = a
alters_from a s (b ∷ bs) = alters_from (named a s b) (sign_after s b) bs

-- unnamed steps get 0
abbrev pub no_alters : List ℤ
no_alters = replicate 7 (pos 0)

-- those letters in order
abbrev pub letters_from : Option ℤ → List ℕ → List ℕ
letters_from s [] = []
letters_from s (b ∷ bs) = if is_named s b then b ∷ letters_from (sign_after s b) bs else letters_from (sign_after s b) bs

-- a sign, a space or a letter after a sign
abbrev pub is_expected : Option ℤ → ℕ → Bool
is_expected s b = (eqb b (code "x") || eqb b (code "b")) || eqb b 32 || is_named s b

-- any other character, a letter before any sign too, gives d6: none of its bytes is expected
abbrev pub all_expected : Option ℤ → List ℕ → Bool
all_expected s [] = true
all_expected s (b ∷ bs) = is_expected s b && all_expected (sign_after s b) bs

-- a beginning of FCGDAEB, no `b` in the value
abbrev pub are_sharps : List ℕ → Bool
are_sharps xs = begins (letters_from none xs) (bytes "FCGDAEB") && not (has (λ b. eqb b (code "b")) xs)

-- a beginning of BEADGCF, no `x`
abbrev pub are_flats : List ℕ → Bool
are_flats xs = begins (letters_from none xs) (bytes "BEADGCF") && not (has (λ b. eqb b (code "x")) xs)

abbrev pub key_with : List ℕ → ℤ → Bool → Key
key_with xs f s = record { alters = alters_from no_alters none xs; fifths = f; standard = s }

-- fifths, by those letters in order: none, 0; sharps, their count; flats, minus it; else 0 and d6. The alterations always hold
unfoldable pub key_of : List ℕ → Key
key_of xs = let n = length (letters_from none xs) in
    if eqb n 0 then key_with xs (pos 0) (all_expected none xs)
    else if are_sharps xs then key_with xs (pos n) (all_expected none xs)
    else if are_flats xs then key_with xs (neg_ℤ (pos n)) (all_expected none xs)
    else key_with xs (pos 0) false

-- ---- numbers

-- the number that these digits make behind n
abbrev pub decimal_from : ℕ → List ℕ → ℕ
decimal_from n [] = n
decimal_from n (d ∷ ds) = decimal_from (n * 10 + (d - code "0")) ds

-- one or more digits, 0 to the limit
abbrev pub number_to : ℕ → List ℕ → Option ℕ
number_to limit ds = if ltb 0 (length ds) && every is_digit ds && leb (decimal_from 0 ds) limit then some (decimal_from 0 ds) else none

-- 0 to 255
unfoldable pub count_of : List ℕ → Option ℕ
count_of ds = number_to count_limit ds

-- the count of an `=`: 1 to 1,000, none meaning 1; none where it is bad
unfoldable pub whole_bars_of : List ℕ → Option ℕ
whole_bars_of [] = some 1
whole_bars_of (d ∷ ds) = if eqb (decimal_from 0 (d ∷ ds)) 0 then none else number_to whole_bar_limit (d ∷ ds)

-- ---- meter

-- numerator, denominator, symbol (0 none, 1 common, 2 cut)
pub record Meter : Type 0 where
  pub numerator : ℕ
  pub denominator : ℕ
  pub symbol : ℕ

-- what stands behind an optional `+`
abbrev pub after_plus : List ℕ → List ℕ
after_plus [] = []
after_plus (b ∷ bs) = if eqb b (code "+") then bs else b ∷ bs

-- the powers of two up to 255, the largest first
abbrev pub powers_of_two : List ℕ
powers_of_two = 128 ∷ 64 ∷ 32 ∷ 16 ∷ 8 ∷ 4 ∷ 2 ∷ 1 ∷ []

abbrev pub is_power_of_two : ℕ → Bool
is_power_of_two n = among powers_of_two n

-- two numbers, 1 to 255, the second a power of two, no symbol
abbrev pub plain_meter : Option ℕ → Option ℕ → Option Meter
plain_meter none d = none
plain_meter (some n) none = none
plain_meter (some n) (some d) = if ltb 0 n && is_power_of_two d then some (record { numerator = n; denominator = d; symbol = 0 }) else none

-- where the first `/` stands; the length, where there is none
abbrev pub slash_at : List ℕ → ℕ
slash_at xs = run_length (λ b. not (eqb b (code "/"))) xs

-- `c` 4/4 common, `c/` 2/2 cut, else two numbers about the first `/`; else none (d7)
unfoldable pub meter_of : List ℕ → Option Meter
meter_of xs =
    if is_text (bytes "c") xs then some (record { numerator = 4; denominator = 4; symbol = 1 })
    else if is_text (bytes "c/") xs then some (record { numerator = 2; denominator = 2; symbol = 2 })
    else if ltb (slash_at xs) (length xs) then plain_meter (count_of (after_plus (take (slash_at xs) xs))) (count_of (after_plus (drop (slash_at xs + 1) xs)))
    else none

-- ---- octave, rhythm, accidental

-- a run of k `'` sets octave 3+k; none outside 0 to 9 (d8)
abbrev pub raised_octave : ℕ → Option ℕ
raised_octave k = if leb (3 + k) octave_limit then some (3 + k) else none

-- of k `,` 4-k; none outside 0 to 9 (d8)
abbrev pub lowered_octave : ℕ → Option ℕ
lowered_octave k = if leb k 4 then some (4 - k) else none

-- a length: duration 0 to 9, longa to 128th, and dots
pub record Length : Type 0 where
  pub duration : ℕ
  pub dots : ℕ

-- digits 0 9 1 2 4 8 6 3 5 7 are longa to 128th
abbrev pub duration_of : ℕ → ℕ
duration_of b = index_in (bytes "0912486357") b

-- dots cap at 3
abbrev pub capped : ℕ → ℕ
capped n = if ltb n dot_limit then n else dot_limit

-- the dots at the start of a text
abbrev pub dots_at : List ℕ → ℕ
dots_at xs = run_length (λ b. eqb b (code ".")) xs

-- the lengths of a digit token: each digit with the dots after it
unfoldable pub pattern_of : List ℕ → List Length
pattern_of [] = []
pattern_of (b ∷ bs) = if eqb b (code ".") then pattern_of bs else record { duration = duration_of b; dots = capped (dots_at bs) } ∷ pattern_of bs

-- a quarter, no dots
abbrev pub quarter : Length
quarter = record { duration = 4; dots = 0 }

-- an eighth, no dots
abbrev pub eighth : Length
eighth = record { duration = 5; dots = 0 }

-- element k modulo the pattern's size
abbrev pub element : List Length → ℕ → Length
element p k = get_or p (k % length p) quarter

-- `x`, longer `x` runs: 1, 2
abbrev pub sharpened : ℕ → ℤ
sharpened k = if eqb k 1 then pos 1 else pos 2

-- `b`, longer `b` runs: -1, -2
abbrev pub flattened : ℕ → ℤ
flattened k = if eqb k 1 then negsuc 0 else negsuc 1

-- ---- tuplets

-- the first of these that is not above n
abbrev pub first_within : ℕ → List ℕ → ℕ
first_within n [] = 0
first_within n (p ∷ ps) = if leb p n then p else first_within n ps

-- normal is the largest power of two not above actual less one
abbrev pub normal_of : ℕ → ℕ
normal_of actual = first_within (actual - 1) powers_of_two
