-- The catalogue card (specification, 15): what a card holds, in which ranges, and its bytes. Assumes nothing.
use Rattle.std.specs.Prelude.{ℕ, ◌+◌, ◌*◌, Bool, cond, ◌&&◌, ◌||◌, List, [], ◌∷◌, ◌++◌, length, eqb, leb, ltb}
use Rattle.std.proofs.Math.Option.{Option, get_or}
use Rattle.rules.specs.Limits.{pitch_capacity, mark_capacity, count_limit, note_limit}
use Rattle.rules.specs.Values.{is_power_of_two}
use Rattle.rules.specs.Records.{is_some, is_rest_kind}
use Rattle.rules.specs.Words.{power_of_two}
use Rattle.cards.specs.Fields.{number, stands, under, bit_map, in_row, each, holds, every, between}

-- ---- what a card holds: each field once; what follows from the others stands in the words alone

-- place; step; octave; alteration plus 2
pub record Pitch : Type 0 where
  pub place : ℕ
  pub step : ℕ
  pub octave : ℕ
  pub alter : ℕ

pub record Note : Type 0 where
  pub place : ℕ
  pub duration : ℕ
  pub dots : ℕ
  pub kind : ℕ
  pub ties : ℕ
  pub beam : ℕ
  pub actual : ℕ
  pub mark_count : ℕ
  pub marks : ℕ
  pub pitches : List Pitch

-- a bar's attributes; key: fifths plus 7, where it is set
pub record Head : Type 0 where
  pub clef : ℕ
  pub key : Option ℕ
  pub numerator : ℕ
  pub denominator : ℕ
  pub symbol : ℕ
  pub left : ℕ
  pub right : ℕ

pub record Bar : Type 0 where
  pub head : Head
  pub notes : List Note

-- a form of card: its first byte, the place's width in bytes, the greatest place
pub record Form : Type 0 where
  pub first : ℕ
  pub width : ℕ
  pub greatest : ℕ

abbrev pub form1 : Form
form1 = record { first = 1; width = 2; greatest = 65535 }

-- ---- bytes

-- a place, step plus 7 times octave, alteration plus 2
unfoldable pub pitch_bytes : Form → Pitch → List ℕ
pitch_bytes form q = in_row (number form.width q.place ∷ ((q.step + 7 * q.octave) ∷ []) ∷ (q.alter ∷ []) ∷ [])

-- kind, ties, beam, tuplet, marks, pitches
abbrev pub note_bits : Note → List Bool
note_bits n = stands n.kind ∷ stands n.ties ∷ stands n.beam ∷ stands n.actual ∷ stands n.mark_count ∷ stands (length n.pitches) ∷ []

-- a bit map, a place, duration times 4 plus dots, then kind; ties; beam; tuplet actual; mark count and marks; pitch count and the pitches
unfoldable pub note_bytes : Form → Note → List ℕ
note_bytes form n = in_row
    ((bit_map (note_bits n) ∷ [])
    ∷ number form.width n.place
    ∷ ((n.duration * 4 + n.dots) ∷ [])
    ∷ under (stands n.kind) (n.kind ∷ [])
    ∷ under (stands n.ties) (n.ties ∷ [])
    ∷ under (stands n.beam) (n.beam ∷ [])
    ∷ under (stands n.actual) (n.actual ∷ [])
    ∷ under (stands n.mark_count) (n.mark_count ∷ n.marks ∷ [])
    ∷ under (stands (length n.pitches)) (length n.pitches ∷ each (pitch_bytes form) n.pitches)
    ∷ [])

-- clef, key, meter, left, right
abbrev pub head_bits : Head → List Bool
head_bits h = stands h.clef ∷ is_some h.key ∷ stands h.numerator ∷ stands h.left ∷ stands h.right ∷ []

-- a bit map, a four-byte note count, then clef; fifths plus 7; numerator, denominator, symbol; left; right
unfoldable pub head_bytes : ℕ → Head → List ℕ
head_bytes count h = in_row
    ((bit_map (head_bits h) ∷ [])
    ∷ number 4 count
    ∷ under (stands h.clef) (h.clef ∷ [])
    ∷ under (is_some h.key) (get_or h.key 0 ∷ [])
    ∷ under (stands h.numerator) (h.numerator ∷ h.denominator ∷ h.symbol ∷ [])
    ∷ under (stands h.left) (h.left ∷ [])
    ∷ under (stands h.right) (h.right ∷ [])
    ∷ [])

-- its notes follow
unfoldable pub bar_bytes : Form → Bar → List ℕ
bar_bytes form b = head_bytes (length b.notes) b.head ++ each (note_bytes form) b.notes

-- the first byte, a bar count of four bytes, then the bars
unfoldable pub card_of : Form → List Bar → List ℕ
card_of form bars = form.first ∷ number 4 (length bars) ++ each (bar_bytes form) bars

-- ---- such records

-- place, step, octave, alteration plus 2
abbrev pub pitch_tests : Form → Pitch → List Bool
pitch_tests form q = between 1 form.greatest q.place ∷ leb q.step 6 ∷ leb q.octave 9 ∷ leb q.alter 4 ∷ []

unfoldable pub such_pitch : Form → Pitch → Bool
such_pitch form q = holds (pitch_tests form q)

abbrev pub note_tests : Form → Note → List Bool
note_tests form n =
    between 1 form.greatest n.place
    ∷ leb n.duration 9
    ∷ leb n.dots 3
    ∷ leb n.kind 4
    ∷ leb n.ties 3
    ∷ leb n.beam 3
    -- a tuplet actual whose bit stands is at least 3
    ∷ (eqb n.actual 0 || between 3 count_limit n.actual)
    -- mark bits at and beyond the count are 0
    ∷ (leb n.mark_count mark_capacity && ltb n.marks (power_of_two n.mark_count))
    ∷ leb (length n.pitches) pitch_capacity
    -- a rest of either kind with no pitch and other notes with one or more
    ∷ cond (is_rest_kind n.kind) (eqb (length n.pitches) 0) (ltb 0 (length n.pitches))
    ∷ every (such_pitch form) n.pitches
    ∷ []

unfoldable pub such_note : Form → Note → Bool
such_note form n = holds (note_tests form n)

abbrev pub head_tests : Head → List Bool
head_tests h =
    leb h.clef 8
    -- fifths plus 7
    ∷ leb (get_or h.key 0) 14
    ∷ leb h.numerator count_limit
    -- a denominator whose bit stands is a power of two from 1 to 128; words under a bit that doesn't stand are 0
    ∷ cond (stands h.numerator) (is_power_of_two h.denominator) (eqb h.denominator 0)
    ∷ leb h.symbol (cond (stands h.numerator) 2 0)
    ∷ leb h.left 3
    ∷ leb h.right 3
    ∷ []

unfoldable pub such_head : Head → Bool
such_head h = holds (head_tests h)

-- every bar with a note
abbrev pub bar_tests : Form → Bar → List Bool
bar_tests form b = such_head b.head ∷ ltb 0 (length b.notes) ∷ every (such_note form) b.notes ∷ []

unfoldable pub such_bar : Form → Bar → Bool
such_bar form b = holds (bar_tests form b)

-- the notes of all bars
unfoldable pub note_count : List Bar → ℕ
note_count [] = 0
note_count (b ∷ bars) = length b.notes + note_count bars

-- at least one bar, at most 100,000 notes
abbrev pub card_tests : Form → List Bar → List Bool
card_tests form bars = ltb 0 (length bars) ∷ leb (note_count bars) note_limit ∷ every (such_bar form) bars ∷ []

unfoldable pub such : Form → List Bar → Bool
such form bars = holds (card_tests form bars)
