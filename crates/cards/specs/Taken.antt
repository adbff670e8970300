-- What is taken from the front of a card's bytes, and the bytes behind it. No public promise names it. Assumes nothing.
use Rattle.std.specs.Prelude.{ℕ, zero, suc, ◌+◌, ◌-◌, ◌*◌, ◌/◌, ◌%◌, Bool, true, false, cond, ◌&&◌, List, [], ◌∷◌, ◌++◌, length, eqb, leb, ltb}
use Rattle.std.proofs.Math.Option.{Option, none, some}
use Rattle.rules.specs.Limits.{note_limit, pitch_capacity}
use Rattle.cards.specs.Fields.{bit_map, between}
use Rattle.cards.specs.Pieces.{bit_in}
use Rattle.cards.specs.Card.{Pitch, Note, Head, Bar, Form, note_bits, head_bits, such_pitch, such_note, such_head, note_count}

-- something and the bytes behind it
abbrev pub Front : Type 0 → Type 0
Front A = Option (A × List ℕ)

abbrev pub Taken : Type 0 → Type 0
Taken A = List ℕ → Front A

-- then on, from the bytes behind
abbrev pub then : {A B : Type 0} → Front A → (A → Taken B) → Front B
then none f = none
then (some x) f = f x.0 x.1

infixl 10 ◌>>=◌
abbrev pub ◌>>=◌ : {A B : Type 0} → Taken A → (A → Taken B) → Taken B
(p >>= f) bytes = then (p bytes) f

-- nothing more is taken; x, if the test holds
abbrev pub done : {A : Type 0} → A → Taken A
done x bytes = some (x, bytes)

abbrev pub if_holds : {A : Type 0} → Bool → A → Taken A
if_holds test x bytes = cond test (some (x, bytes)) none

-- ---- fields

abbrev pub byte_taken : Taken ℕ
byte_taken [] = none
byte_taken (b ∷ bytes) = some (b, bytes)

-- a number in `width` bytes, low bytes first
abbrev pub number_taken : ℕ → Taken ℕ
number_taken zero = done 0
number_taken (suc width) = do
  low ← byte_taken
  high ← number_taken width
  if_holds (ltb low 256) (low + 256 * high)

-- a byte under a bit, 0 where the bit doesn't stand
abbrev pub field_taken : Bool → Taken ℕ
field_taken true = byte_taken
field_taken false = done 0

-- a key under its bit
abbrev pub key_taken : Bool → Taken (Option ℕ)
key_taken true = do
  key ← byte_taken
  done (some key)
key_taken false = done none

-- so many, each with those before it in view
unfoldable pub repeated : {A : Type 0} → (List A → Taken A) → ℕ → Taken (List A)
repeated p zero = done []
repeated p (suc count) = do
  l ← repeated p count
  x ← p l
  done (l ++ x ∷ [])

-- ---- pitches, notes, heads

abbrev pub pitch_in : ℕ → ℕ → ℕ → Pitch
pitch_in place tone alter = record {
  place = place;
  step = tone % 7;
  octave = tone / 7;
  alter = alter;
}

unfoldable pub pitch_taken : Form → Taken Pitch
pitch_taken form = do
  place ← number_taken form.width
  tone ← byte_taken
  alter ← byte_taken
  if_holds (such_pitch form (pitch_in place tone alter)) (pitch_in place tone alter)

-- not more than a record takes
unfoldable pub pitches_taken : Form → ℕ → Taken (List Pitch)
pitches_taken form count bytes =
    cond (leb count pitch_capacity) (repeated (λ _. pitch_taken form) count bytes) none

-- the fields' bits are those of the map
abbrev pub such_map : List Bool → ℕ → Bool
such_map bits map = eqb (bit_map bits) map

abbrev pub note_in : ℕ → ℕ → ℕ → ℕ → ℕ → ℕ → ℕ → ℕ → List Pitch → Note
note_in place size kind ties beam actual mark_count marks pitches = record {
  place = place;
  duration = size / 4;
  dots = size % 4;
  kind = kind;
  ties = ties;
  beam = beam;
  actual = actual;
  mark_count = mark_count;
  marks = marks;
  pitches = pitches;
}

unfoldable pub note_taken : Form → Taken Note
note_taken form = do
  map ← byte_taken
  place ← number_taken form.width
  size ← byte_taken
  kind ← field_taken (bit_in 0 map)
  ties ← field_taken (bit_in 1 map)
  beam ← field_taken (bit_in 2 map)
  actual ← field_taken (bit_in 3 map)
  mark_count ← field_taken (bit_in 4 map)
  marks ← field_taken (bit_in 4 map)
  count ← field_taken (bit_in 5 map)
  pitches ← pitches_taken form count
  let note = note_in place size kind ties beam actual mark_count marks pitches
  if_holds (such_note form note && such_map (note_bits note) map) note

abbrev pub head_in : ℕ → Option ℕ → ℕ → ℕ → ℕ → ℕ → ℕ → Head
head_in clef key numerator denominator symbol left right = record {
  clef = clef;
  key = key;
  numerator = numerator;
  denominator = denominator;
  symbol = symbol;
  left = left;
  right = right;
}

abbrev pub counted : ℕ → Head → ℕ × Head
counted count head = (count, head)

-- the note count of a bar, and its head
unfoldable pub head_taken : Taken (ℕ × Head)
head_taken = do
  map ← byte_taken
  count ← number_taken 4
  clef ← field_taken (bit_in 0 map)
  key ← key_taken (bit_in 1 map)
  numerator ← field_taken (bit_in 2 map)
  denominator ← field_taken (bit_in 2 map)
  symbol ← field_taken (bit_in 2 map)
  left ← field_taken (bit_in 3 map)
  right ← field_taken (bit_in 4 map)
  let head = head_in clef key numerator denominator symbol left right
  if_holds (such_head head && such_map (head_bits head) map) (counted count head)

-- ---- bars and the card

unfoldable pub notes_taken : Form → ℕ → Taken (List Note)
notes_taken form count = repeated (λ _. note_taken form) count

-- a bar behind so many notes, with a note count that a card takes there
unfoldable pub bar_behind : Form → ℕ → Taken Bar
bar_behind form before = do
  opened ← head_taken
  count ← if_holds (between 1 (note_limit - before) opened.0) opened.0
  notes ← notes_taken form count
  done (record { head = opened.1; notes = notes })

-- a bar behind these
abbrev pub bar_taken : Form → List Bar → Taken Bar
bar_taken form before = bar_behind form (note_count before)

unfoldable pub bars_taken : Form → ℕ → Taken (List Bar)
bars_taken form count = repeated (bar_taken form) count

-- the first byte, a bar count of at least 1, the bars
unfoldable pub front_taken : Form → Taken (List Bar)
front_taken form = do
  first ← byte_taken
  _ ← if_holds (eqb first form.first) first
  count ← number_taken 4
  _ ← if_holds (ltb 0 count) count
  bars_taken form count

-- and nothing behind them
abbrev pub whole : {A : Type 0} → Front A → Option A
whole none = none
whole (some x) = cond (eqb (length x.1) 0) (some x.0) none

unfoldable pub card_taken : Form → List ℕ → Option (List Bar)
card_taken form card = whole (front_taken form card)
