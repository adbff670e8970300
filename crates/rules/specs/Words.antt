-- Records as words in the lent cells (specification, 13). Assumes nothing.
use Rattle.std.specs.Prelude.{ℕ, zero, suc, ◌+◌, ◌-◌, ◌*◌, Bool, List, [], ◌∷◌, ◌++◌, map, ℤ, pos, length, take, drop, replicate, if◌then◌else◌}
use Rattle.std.proofs.Math.Option.{Option, none, some, get_or}
use Rattle.rules.specs.Limits.{pitch_capacity, pitch_size, diagnostic_limit}
use Rattle.rules.specs.Values.{Meter}
use Rattle.rules.specs.Records.{Pitch, Notations, Note, Bar, notes_of, Position, at_line, at_field, at_data, Value, text_part, parentheses, number, Diagnostic}

-- ---- cells

-- the words of records, one after the other; the latest record stands first in the list and last in the cells
abbrev pub cells : {A : Type 0} → (A → List ℤ) → List A → List ℤ
cells words [] = []
cells words (x ∷ l) = cells words l ++ words x

abbrev pub zeros : ℕ → List ℤ
zeros n = replicate n (pos 0)

-- `size` cells: the words first, all other cells 0
abbrev pub padded : ℕ → List ℤ → List ℤ
padded size words = words ++ zeros (size - length words)

-- ---- a note's words

-- letter's place, step, octave, alteration
abbrev pub pitch_words : Pitch → List ℤ
pitch_words q = pos q.place ∷ pos q.step ∷ pos q.octave ∷ q.alter ∷ []

-- ties (1 start, 2 end, 3 both)
abbrev pub ties_word : Notations → ℕ
ties_word d = if d.tie_start then (if d.tie_end then 3 else 1) else if d.tie_end then 2 else 0

abbrev pub power_of_two : ℕ → ℕ
power_of_two zero = 1
power_of_two (suc n) = power_of_two n + power_of_two n

-- marks, bit i being mark i in order of arrival (1 trill, 0 fermata)
abbrev pub marks_word : List Bool → ℕ
marks_word [] = 0
marks_word (m ∷ ms) = marks_word ms + (if m then power_of_two (length ms) else 0)

-- unused pitches are 0
abbrev pub pitch_cells : List Pitch → List ℤ
pitch_cells qs = take (pitch_size * pitch_capacity) (cells pitch_words qs ++ zeros (pitch_size * pitch_capacity))

-- a note and the number of its bar, from 1
pub record Numbered : Type 0 where
  pub bar : ℕ
  pub note : Note

-- place, kind, duration, dots, ties, beam, tuplet actual and normal, mark count, marks, pitch count, bar number, then 8 pitches
abbrev pub note_words : Numbered → List ℤ
note_words r = let h = r.note.heading in let d = r.note.notations in
    pos h.place
    ∷ pos h.kind
    ∷ pos h.duration
    ∷ pos h.dots
    ∷ pos (ties_word d)
    ∷ pos d.beam
    ∷ pos d.actual
    ∷ pos d.normal
    ∷ pos (length d.marks)
    ∷ pos (marks_word d.marks)
    ∷ pos (length r.note.pitches)
    ∷ pos r.bar
    ∷ pitch_cells r.note.pitches

-- the notes of bar n
abbrev pub in_bar : ℕ → List Note → List Numbered
in_bar n ns = map (λ note. record { bar = n; note = note }) ns

-- bars are numbered from 1
abbrev pub numbered : List Bar → List Numbered
numbered [] = []
numbered (b ∷ bs) = in_bar (suc (length bs)) b.notes ++ numbered bs

abbrev pub note_cells : List Bar → List ℤ
note_cells bs = cells note_words (numbered bs)

-- ---- a bar's words

-- a bar and the number of its first note, from 0
pub record BarFrom : Type 0 where
  pub first : ℕ
  pub bar : Bar

-- key set 0 or 1, fifths
abbrev pub key_words : Option ℤ → List ℤ
key_words none = pos 0 ∷ pos 0 ∷ []
key_words (some fifths) = pos 1 ∷ fifths ∷ []

-- numerator, denominator (0, 0: none), symbol
abbrev pub meter_words : Option Meter → List ℤ
meter_words none = pos 0 ∷ pos 0 ∷ pos 0 ∷ []
meter_words (some m) = pos m.numerator ∷ pos m.denominator ∷ pos m.symbol ∷ []

-- first note, note count, clef, key set, fifths, numerator, denominator, symbol, left, right
abbrev pub bar_words : BarFrom → List ℤ
bar_words p = let b = p.bar in
    pos p.first ∷ pos (length b.notes) ∷ pos (get_or b.clef 0) ∷ key_words b.fifths ++ meter_words b.meter ++ pos b.left ∷ pos b.right ∷ []

-- first notes count from 0
abbrev pub bars_from : List Bar → List BarFrom
bars_from [] = []
bars_from (b ∷ bs) = record { first = length (notes_of bs); bar = b } ∷ bars_from bs

abbrev pub bar_cells : List Bar → List ℤ
bar_cells bs = cells bar_words (bars_from bs)

-- ---- a diagnostic's words

-- place kind (1 line, 2 line with field, 3 data), place
abbrev pub position_words : Position → List ℤ
position_words (at_line n) = pos 1 ∷ pos n ∷ []
position_words (at_field n) = pos 2 ∷ pos n ∷ []
position_words (at_data n) = pos 3 ∷ pos n ∷ []

-- value kind (1 part of the text by offsets from 0, 2 the value `()`, 3 a number); start, end exclusive (kind 2: 0, 0; kind 3: number, 0)
abbrev pub value_words : Value → List ℤ
value_words (text_part start end) = pos 1 ∷ pos start ∷ pos end ∷ []
value_words parentheses = pos 2 ∷ pos 0 ∷ pos 0 ∷ []
value_words (number n) = pos 3 ∷ pos n ∷ pos 0 ∷ []

-- number, place kind, place, value kind, start, end
abbrev pub diagnostic_words : Diagnostic → List ℤ
diagnostic_words d = pos d.number ∷ position_words d.position ++ value_words d.value

-- the first 1,024 are stored, later ones dropped: the earliest, which stand last
abbrev pub stored_diagnostics : List Diagnostic → List Diagnostic
stored_diagnostics ds = drop (length ds - diagnostic_limit) ds

abbrev pub diagnostic_cells : List Diagnostic → List ℤ
diagnostic_cells ds = cells diagnostic_words (stored_diagnostics ds)
