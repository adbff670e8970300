-- Cards and judgements by computation: the card of docs/CARD.md, a note with every field, each range and relation at its edge. Assumes nothing.
use Prim.Native.Nat.{ℕ}
use mathlib.Core.Path.{◌≡◌, refl}
use mathlib.Core.Bool.{true, false}
use mathlib.Core.Option.{Option, none, some}
use mathlib.Core.List.{List, [], ◌∷◌, ◌++◌}
use lib.IntN.{pos, negsuc}
use Rattle.rules.specs.Words.{zeros}
use Rattle.cards.specs.Fields.{number, bit_map, in_row, each, holds, every}
use Rattle.cards.specs.Card.{Pitch, Note, Head, Bar, form1, pitch_bytes, note_bytes, head_bytes, bar_bytes, card_of, such_pitch, such_note, such_head, such_bar, note_count, such}
use Rattle.cards.specs.Words.{note_words, head_words, pitch_cells, note_cells, bar_cells}

-- ---- the card of docs/CARD.md: `%F-4$bB@3/4 ,2.B+/4B-`

abbrev pitch : ℕ → ℕ → ℕ → ℕ → Pitch
pitch place step octave alter = record { place = place; step = step; octave = octave; alter = alter }

-- place, kind, duration, dots, ties, and the pitches
abbrev note : ℕ → ℕ → ℕ → ℕ → ℕ → List Pitch → Note
note place kind duration dots ties pitches = record { place = place; duration = duration; dots = dots; kind = kind; ties = ties; beam = 0; actual = 0; mark_count = 0; marks = 0; pitches = pitches }

abbrev plain : Head
plain = record { clef = 0; key = none; numerator = 0; denominator = 0; symbol = 0; left = 0; right = 0 }

abbrev bass : Head
bass = record { clef = 3; key = some 6; numerator = 3; denominator = 4; symbol = 0; left = 0; right = 0 }

abbrev opening : List Bar
opening =
    record { head = bass; notes = note 16 0 3 1 1 (pitch 16 6 3 1 ∷ []) ∷ [] } ∷ record { head = plain; notes = note 20 0 4 0 2 (pitch 20 6 3 1 ∷ []) ∷ note 21 1 4 0 0 [] ∷ [] } ∷ []

opening-card : (such form1 opening ≡ true) × (card_of form1 opening ≡ 1 ∷ 2 ∷ 0 ∷ 0 ∷ 0
    ∷ 7 ∷ 1 ∷ 0 ∷ 0 ∷ 0 ∷ 3 ∷ 6 ∷ 3 ∷ 4 ∷ 0 ∷ 34 ∷ 16 ∷ 0 ∷ 13 ∷ 1 ∷ 1 ∷ 16 ∷ 0 ∷ 27 ∷ 1
    ∷ 0 ∷ 2 ∷ 0 ∷ 0 ∷ 0 ∷ 34 ∷ 20 ∷ 0 ∷ 16 ∷ 2 ∷ 1 ∷ 20 ∷ 0 ∷ 27 ∷ 1 ∷ 1 ∷ 21 ∷ 0 ∷ 16 ∷ 1 ∷ [])
unfolding such such_bar such_head such_note such_pitch note_count every holds card_of bar_bytes head_bytes note_bytes pitch_bytes number bit_map in_row each
opening-card = (refl, refl)

opening-words : (bar_cells 0 opening ≡ pos 0 ∷ pos 1 ∷ pos 3 ∷ pos 1 ∷ negsuc 0 ∷ pos 3 ∷ pos 4 ∷ pos 0 ∷ pos 0 ∷ pos 0 ∷ pos 1 ∷ pos 2 ∷ zeros 8)
    × (note_cells 1 opening ≡ (pos 16 ∷ pos 0 ∷ pos 3 ∷ pos 1 ∷ pos 1 ∷ pos 0 ∷ pos 0 ∷ pos 0 ∷ pos 0 ∷ pos 0 ∷ pos 1 ∷ pos 1 ∷ pos 16 ∷ pos 6 ∷ pos 3 ∷ negsuc 0 ∷ zeros 28)
    ++ (pos 20 ∷ pos 0 ∷ pos 4 ∷ pos 0 ∷ pos 2 ∷ pos 0 ∷ pos 0 ∷ pos 0 ∷ pos 0 ∷ pos 0 ∷ pos 1 ∷ pos 2 ∷ pos 20 ∷ pos 6 ∷ pos 3 ∷ negsuc 0 ∷ zeros 28)
    ++ (pos 21 ∷ pos 1 ∷ pos 4 ∷ pos 0 ∷ pos 0 ∷ pos 0 ∷ pos 0 ∷ pos 0 ∷ pos 0 ∷ pos 0 ∷ pos 0 ∷ pos 2 ∷ zeros 32))
unfolding bar_cells note_cells head_words note_words pitch_cells each
opening-words = (refl, refl)

-- ---- a note with every field, and a bar's head with every field

abbrev full : Note
full = record { place = 513; duration = 9; dots = 3; kind = 2; ties = 3; beam = 1; actual = 5; mark_count = 2; marks = 3; pitches = pitch 257 0 4 2 ∷ pitch 65535 6 9 4 ∷ [] }

full-bytes : (such_note form1 full ≡ true) × (note_bytes form1 full ≡ 63 ∷ 1 ∷ 2 ∷ 39 ∷ 2 ∷ 3 ∷ 1 ∷ 5 ∷ 2 ∷ 3 ∷ 2 ∷ 1 ∷ 1 ∷ 28 ∷ 2 ∷ 255 ∷ 255 ∷ 69 ∷ 4 ∷ [])
    × (note_words 7 full ≡ pos 513 ∷ pos 2 ∷ pos 9 ∷ pos 3 ∷ pos 3 ∷ pos 1 ∷ pos 5 ∷ pos 4 ∷ pos 2 ∷ pos 3 ∷ pos 2 ∷ pos 7 ∷ pos 257 ∷ pos 0 ∷ pos 4 ∷ pos 0 ∷ pos 65535 ∷ pos 6 ∷ pos 9 ∷ pos 2 ∷ zeros 24)
unfolding such_note such_pitch every holds note_bytes pitch_bytes number bit_map in_row each note_words pitch_cells
full-bytes = (refl, refl, refl)

abbrev whole : Head
whole = record { clef = 8; key = some 14; numerator = 255; denominator = 128; symbol = 2; left = 2; right = 3 }

whole-bytes : (such_head whole ≡ true) × (head_bytes 258 whole ≡ 31 ∷ 2 ∷ 1 ∷ 0 ∷ 0 ∷ 8 ∷ 14 ∷ 255 ∷ 128 ∷ 2 ∷ 2 ∷ 3 ∷ []) × (head_words 9 258 whole ≡ pos 9 ∷ pos 258 ∷ pos 8 ∷ pos 1 ∷ pos 7 ∷ pos 255 ∷ pos 128 ∷ pos 2 ∷ pos 2 ∷ pos 3 ∷ [])
unfolding such_head holds head_bytes number bit_map in_row head_words
whole-bytes = (refl, refl, refl)

-- ---- each range and relation at its edge

abbrev tone : List Pitch
tone = pitch 1 0 4 2 ∷ []

-- kind, ties, beam, actual, mark count, marks, and the pitches of a quarter
abbrev marked : ℕ → ℕ → ℕ → ℕ → ℕ → ℕ → List Pitch → Note
marked kind ties beam actual mark_count marks pitches = record { place = 1; duration = 4; dots = 0; kind = kind; ties = ties; beam = beam; actual = actual; mark_count = mark_count; marks = marks; pitches = pitches }

pitches-judged : (such_pitch form1 (pitch 1 6 9 4) ≡ true) × (such_pitch form1 (pitch 0 0 0 0) ≡ false) × (such_pitch form1 (pitch 65536 0 0 0) ≡ false) × (such_pitch form1 (pitch 1 7 0 0) ≡ false) × (such_pitch form1 (pitch 1 0 10 0) ≡ false) × (such_pitch form1 (pitch 1 0 0 5) ≡ false)
unfolding such_pitch holds
pitches-judged = (refl, refl, refl, refl, refl, refl)

notes-judged : (such_note form1 (note 65535 4 9 3 3 []) ≡ true)
    × (such_note form1 (note 0 0 4 0 0 tone) ≡ false)
    × (such_note form1 (note 65536 0 4 0 0 tone) ≡ false)
    × (such_note form1 (note 1 5 4 0 0 tone) ≡ false)
    × (such_note form1 (note 1 0 10 0 0 tone) ≡ false)
    × (such_note form1 (note 1 0 4 4 0 tone) ≡ false)
    × (such_note form1 (note 1 0 4 0 4 tone) ≡ false)
    × (such_note form1 (marked 0 0 4 0 0 0 tone) ≡ false)
    -- a tuplet actual is 0 or 3 to 255
    × (such_note form1 (marked 0 0 0 2 0 0 tone) ≡ false)
    × (such_note form1 (marked 0 0 0 3 0 0 tone) ≡ true)
    × (such_note form1 (marked 0 0 0 255 0 0 tone) ≡ true)
    × (such_note form1 (marked 0 0 0 256 0 0 tone) ≡ false)
    -- mark bits at and beyond the count are 0
    × (such_note form1 (marked 0 0 0 0 1 1 tone) ≡ true)
    × (such_note form1 (marked 0 0 0 0 1 2 tone) ≡ false)
    × (such_note form1 (marked 0 0 0 0 0 1 tone) ≡ false)
    × (such_note form1 (marked 0 0 0 0 8 255 tone) ≡ true)
    × (such_note form1 (marked 0 0 0 0 9 0 tone) ≡ false)
    -- a rest of either kind with no pitch and other notes with one or more, up to 8
    × (such_note form1 (note 1 1 4 0 0 tone) ≡ false)
    × (such_note form1 (note 1 4 4 0 0 tone) ≡ false)
    × (such_note form1 (note 1 0 4 0 0 []) ≡ false)
    × (such_note form1 (note 1 3 4 0 0 []) ≡ false)
    × (such_note form1 (note 1 0 4 0 0 (tone ++ tone ++ tone ++ tone ++ tone ++ tone ++ tone ++ tone)) ≡ true)
    × (such_note form1 (note 1 0 4 0 0 (tone ++ tone ++ tone ++ tone ++ tone ++ tone ++ tone ++ tone ++ tone)) ≡ false)
    -- every pitch is judged
    × (such_note form1 (note 1 0 4 0 0 (tone ++ (pitch 0 0 4 2 ∷ []))) ≡ false)
unfolding such_note such_pitch every holds
notes-judged = (refl, refl, refl, refl, refl, refl, refl, refl, refl, refl, refl, refl, refl, refl, refl, refl, refl, refl, refl, refl, refl, refl, refl, refl)

-- clef, key, numerator, denominator, symbol, left, right
abbrev head : ℕ → Option ℕ → ℕ → ℕ → ℕ → ℕ → ℕ → Head
head clef key numerator denominator symbol left right = record { clef = clef; key = key; numerator = numerator; denominator = denominator; symbol = symbol; left = left; right = right }

heads-judged : (such_head (head 9 none 0 0 0 0 0) ≡ false)
    × (such_head (head 0 (some 15) 0 0 0 0 0) ≡ false)
    × (such_head (head 0 none 256 4 0 0 0) ≡ false)
    × (such_head (head 0 none 3 3 0 0 0) ≡ false)
    × (such_head (head 0 none 3 0 0 0 0) ≡ false)
    × (such_head (head 0 none 3 256 0 0 0) ≡ false)
    × (such_head (head 0 none 3 1 0 0 0) ≡ true)
    × (such_head (head 0 none 0 4 0 0 0) ≡ false)
    × (such_head (head 0 none 0 0 1 0 0) ≡ false)
    × (such_head (head 0 none 3 4 3 0 0) ≡ false)
    × (such_head (head 0 none 0 0 0 4 0) ≡ false)
    × (such_head (head 0 none 0 0 0 0 4) ≡ false)
    × (such_head (head 0 none 0 0 0 3 1) ≡ true)
unfolding such_head holds
heads-judged = (refl, refl, refl, refl, refl, refl, refl, refl, refl, refl, refl, refl, refl)

-- at least one bar, every bar with a note
cards-judged : (such form1 [] ≡ false) × (such form1 (record { head = bass; notes = [] } ∷ []) ≡ false) × (such form1 (opening ++ (record { head = plain; notes = [] } ∷ [])) ≡ false) × (such form1 (opening ++ (record { head = plain; notes = full ∷ [] } ∷ [])) ≡ true)
unfolding such such_bar such_head such_note such_pitch note_count every holds
cards-judged = (refl, refl, refl, refl)
