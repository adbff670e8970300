-- What a token says is in range, and its place is one of a text's. Assumes nothing.
use Prim.Native.Nat.{ℕ, zero, suc, ◌+◌, ◌-◌, ◌≤◌}
use Prim.Native.Char.{code}
use mathlib.Core.Path.{◌≡◌, refl}
use mathlib.Core.Bool.{Bool, true, false, cond}
use mathlib.Core.Option.{Option}
use mathlib.Core.List.{List, [], ◌∷◌}
use native.Mathlib.Omega.{arith}
use native.Mathlib.Numerals.{one-add}
use borrow.Author.Tests.{leb-true, ne_eqb}
use lib.IntN.{ℤ, pos}
use lib.ListN.{length, take}
use lib.Dec.{eqb, leb}
use Rattle.rules.specs.Limits.{octave_limit, text_limit}
use Rattle.rules.specs.Text.{is_digit, is_note_letter, run_length, every, Part}
use Rattle.rules.specs.Characters.{begun, continues, is_blank}
use Rattle.rules.specs.Cut.{is_duration, token_size}
use Rattle.rules.specs.Values.{step_of, clef_of, key_of, meter_of, count_of, whole_bars_of, raised_octave, lowered_octave, pattern_of, sharpened, flattened, Clef, Key, Meter, Length}
use Rattle.rules.specs.Tokens.{Figure, figure_mark, figure_repeat, bar_repeat, Marking, beam_open, beam_close, group_open, group_close, tie, trill, group_count, Other, blank, colon, unknown, whole_bars, clef, key, meter, octave, duration, accidental, letter, chord, rest, barline, grace, grace_group, figure, marking, other, slashes, colons, token_of, Item, item_at, items_after, items_of}
use Rattle.rules.specs.Agreement.{All}
use Rattle.std.proofs.lemmas.Bool.{and_parts}
use Rattle.theorems.proofs.Lists.{cond_ind, cond-case}
use Rattle.cardtheorems.proofs.Ranges.{IfSome, AlterIn, ClefIn, MeterIn, KeyIn, LengthIn, MarkingIn, TokenIn, ItemIn}
use Rattle.cardtheorems.proofs.Values.{clef-in, key_in, meter-in, count-in, raised-in, lowered-in, pattern-in, sharpened-in, flattened-in, letter-in}

-- ---- each kind of token

clef-said : (c : Clef) → IfSome ClefIn c.clef → TokenIn (clef c)
clef-said c h = record { clef = h; key = tt; meter = tt; octave = tt; duration = tt; accidental = tt; letter = tt; right = omega arith; left = omega arith; marking = tt }

key-said : (k : Key) → KeyIn k → TokenIn (key k)
key-said k h = record { clef = tt; key = h; meter = tt; octave = tt; duration = tt; accidental = tt; letter = tt; right = omega arith; left = omega arith; marking = tt }

meter-said : (m : Option Meter) → IfSome MeterIn m → TokenIn (meter m)
meter-said m h = record { clef = tt; key = tt; meter = h; octave = tt; duration = tt; accidental = tt; letter = tt; right = omega arith; left = omega arith; marking = tt }

octave-said : (o : Option ℕ) → IfSome (λ (n : ℕ). n ≤ octave_limit) o → TokenIn (octave o)
octave-said o h = record { clef = tt; key = tt; meter = tt; octave = h; duration = tt; accidental = tt; letter = tt; right = omega arith; left = omega arith; marking = tt }

duration-said : (p : List Length) → All LengthIn p → TokenIn (duration p)
duration-said p h = record { clef = tt; key = tt; meter = tt; octave = tt; duration = h; accidental = tt; letter = tt; right = omega arith; left = omega arith; marking = tt }

accidental-said : (a : ℤ) → AlterIn a → TokenIn (accidental a)
accidental-said a h = record { clef = tt; key = tt; meter = tt; octave = tt; duration = tt; accidental = h; letter = tt; right = omega arith; left = omega arith; marking = tt }

letter-said : (n : ℕ) → n ≤ 6 → TokenIn (letter n)
letter-said n h = record { clef = tt; key = tt; meter = tt; octave = tt; duration = tt; accidental = tt; letter = h; right = omega arith; left = omega arith; marking = tt }

chord-said : TokenIn chord
chord-said = record { clef = tt; key = tt; meter = tt; octave = tt; duration = tt; accidental = tt; letter = tt; right = omega arith; left = omega arith; marking = tt }

rest-said : TokenIn rest
rest-said = record { clef = tt; key = tt; meter = tt; octave = tt; duration = tt; accidental = tt; letter = tt; right = omega arith; left = omega arith; marking = tt }

barline-said : (r l : ℕ) → r ≤ 3 → l ≤ 3 → TokenIn (barline r l)
barline-said r l h g = record { clef = tt; key = tt; meter = tt; octave = tt; duration = tt; accidental = tt; letter = tt; right = h; left = g; marking = tt }

grace-said : (g : Bool) → TokenIn (grace g)
grace-said g = record { clef = tt; key = tt; meter = tt; octave = tt; duration = tt; accidental = tt; letter = tt; right = omega arith; left = omega arith; marking = tt }

group-said : (g : Bool) → TokenIn (grace_group g)
group-said g = record { clef = tt; key = tt; meter = tt; octave = tt; duration = tt; accidental = tt; letter = tt; right = omega arith; left = omega arith; marking = tt }

figure-said : (f : Figure) → TokenIn (figure f)
figure-said f = record { clef = tt; key = tt; meter = tt; octave = tt; duration = tt; accidental = tt; letter = tt; right = omega arith; left = omega arith; marking = tt }

marking-said : (m : Marking) → MarkingIn m → TokenIn (marking m)
marking-said m h = record { clef = tt; key = tt; meter = tt; octave = tt; duration = tt; accidental = tt; letter = tt; right = omega arith; left = omega arith; marking = h }

other-said : (o : Other) → TokenIn (other o)
other-said o = record { clef = tt; key = tt; meter = tt; octave = tt; duration = tt; accidental = tt; letter = tt; right = omega arith; left = omega arith; marking = tt }

slashes-said : (size : ℕ) → TokenIn (slashes size)
slashes-said size = cond_ind TokenIn (eqb size 1) (barline-said 0 0 (omega arith) (omega arith)) (cond_ind TokenIn (eqb size 2) (barline-said 1 0 (omega arith) (omega arith)) (barline-said 0 2 (omega arith) (omega arith)))

colons-said : (size : ℕ) → TokenIn (colons size)
colons-said size = cond_ind TokenIn (eqb size 1) (other-said colon) (cond_ind TokenIn (eqb size 3) (barline-said 3 0 (omega arith) (omega arith)) (barline-said 3 2 (omega arith) (omega arith)))

-- ---- a token from its bytes

token-in : (b : ℕ) (bs : List ℕ) → (is_digit b ≡ true → every is_duration (b ∷ bs) ≡ true) → TokenIn (token_of b bs)
unfolding token_of
token-in b bs h =
    cond_ind TokenIn (eqb b (code "%")) (clef-said (clef_of bs) (clef-in bs))
    (cond_ind TokenIn (eqb b (code "$")) (key-said (key_of bs) (key_in bs))
    (cond_ind TokenIn (eqb b (code "@")) (meter-said (meter_of bs) (meter-in bs))
    (cond_ind TokenIn (eqb b (code "'")) (octave-said (raised_octave size) (raised-in size))
    (cond_ind TokenIn (eqb b (code ",")) (octave-said (lowered_octave size) (lowered-in size))
    (cond-case TokenIn (is_digit b) (λ e. duration-said (pattern_of (b ∷ bs)) (pattern-in (b ∷ bs) (h e)))
    (cond_ind TokenIn (eqb b (code "x")) (accidental-said (sharpened size) (sharpened-in size))
    (cond_ind TokenIn (eqb b (code "b")) (accidental-said (flattened size) (flattened-in size))
    (cond_ind TokenIn (eqb b (code "n")) (accidental-said (pos 0) refl)
    (cond-case TokenIn (is_note_letter b) (λ e. letter-said (step_of b) (letter-in b e))
    (cond_ind TokenIn (eqb b (code "^")) (chord-said)
    (cond_ind TokenIn (eqb b (code "-")) (rest-said)
    (cond_ind TokenIn (eqb b (code "/")) (slashes-said size)
    (cond_ind TokenIn (eqb b (code ":")) (colons-said size)
    (cond_ind TokenIn (eqb b (code "g")) (grace-said true)
    (cond_ind TokenIn (eqb b (code "q")) (cond_ind TokenIn (eqb size 1) (grace-said false) (group-said true))
    (cond_ind TokenIn (eqb b (code "r")) (group-said false)
    (cond_ind TokenIn (eqb b (code "!")) (figure-said figure_mark)
    (cond_ind TokenIn (eqb b (code "f")) (figure-said figure_repeat)
    (cond_ind TokenIn (eqb b (code "i")) (figure-said bar_repeat)
    (cond_ind TokenIn (eqb b (code "{")) (marking-said beam_open tt)
    (cond_ind TokenIn (eqb b (code "}")) (marking-said beam_close tt)
    (cond_ind TokenIn (eqb b (code "(")) (marking-said group_open tt)
    (cond_ind TokenIn (eqb b (code ";")) (marking-said (group_count (count_of bs)) (count-in bs))
    (cond_ind TokenIn (eqb b (code ")")) (marking-said group_close tt)
    (cond_ind TokenIn (eqb b (code "+")) (marking-said tie tt)
    (cond_ind TokenIn (eqb b (code "t")) (marking-said trill tt)
    (cond_ind TokenIn (eqb b (code "=")) (other-said (whole_bars (whole_bars_of bs)))
    (cond_ind TokenIn (is_blank (b ∷ bs)) (other-said blank)
    (other-said unknown)))))))))))))))))))))))))))))
  where
    size : ℕ
    size = 1 + length bs

-- what a run takes
run-every : (p : ℕ → Bool) (xs : List ℕ) → every p (take (run_length p xs) xs) ≡ true
run-every p [] = refl
run-every p (x ∷ xs) = at (p x) refl (run-every p xs)
  where
    at : (t : Bool) → p x ≡ t → every p (take (run_length p xs) xs) ≡ true → every p (take (cond t (1 + run_length p xs) 0) (x ∷ xs)) ≡ true
    at true e h = rw (one-add, e) h
    at false e h = refl

-- a digit is followed by digits and dots
digits_in : (b : ℕ) (xs : List ℕ) → is_digit b ≡ true → every is_duration (b ∷ take (token_size (b ∷ xs) - 1) xs) ≡ true
unfolding token_size
digits_in b xs e =
    let t = and_parts (leb 48 b) (leb b 57) e in
    let l = leb-true 48 b t.0 in
    let m = leb-true b 57 t.1 in
    let n : 1 + run_length is_duration xs - 1 ≡ run_length is_duration xs = omega arith in
    rw (e, ne_eqb b 39 (λ q. omega arith), ne_eqb b 44 (λ q. omega arith), ne_eqb b 120 (λ q. omega arith), ne_eqb b 98 (λ q. omega arith), n) (run-every is_duration xs)

-- ---- all tokens

begun-few : (b : ℕ) → begun b ≤ 1
begun-few b = cond_ind (λ (n : ℕ). n ≤ 1) (continues b) (omega arith) (omega arith)

after-in : (skip place offset : ℕ) (xs : List ℕ) (before : List Item) → 1 ≤ place → place + length xs ≤ suc text_limit → All ItemIn before → All ItemIn (items_after skip place offset xs before)
unfolding items_after item_at
after-in skip place offset [] before l m h = h
after-in zero place offset (b ∷ bs) before l m h =
    after-in (token_size (b ∷ bs) - 1) (place + 1) (offset + 1) bs (item_at place offset b bs ∷ before) (omega arith) (omega arith)
    (record { place = (l, omega arith); token = token-in b (take (token_size (b ∷ bs) - 1) bs) (digits_in b bs) }, h)
after-in (suc skip) place offset (b ∷ bs) before l m h = after-in skip (place + begun b) (offset + 1) bs before (omega arith) (omega (arith, begun-few b)) h

-- the tokens of data of at most 65,535 bytes
pub items-in : (line : Part) → length line.bytes ≤ text_limit → All ItemIn (items_of line)
items-in line h = after-in 0 1 line.start line.bytes [] (omega arith) (omega arith) tt
