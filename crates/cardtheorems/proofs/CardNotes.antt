-- A stored note in its ranges is a card's note, and its words are that note's. Assumes nothing.
use Prim.Native.Nat.{ℕ, ◌-◌, ◌*◌, ◌≤◌, ◌<◌}
use mathlib.Core.Path.{◌≡◌, sym, ap, ◌∙◌}
use mathlib.Core.Bool.{Bool, true, false}
use mathlib.Core.List.{List, [], ◌∷◌, ◌++◌}
use native.Mathlib.Omega.{arith}
use borrow.Author.Tests.{leb-true, le-leb, lt-ltb}
use lib.IntN.{pos}
use lib.ListN.{length}
use Rattle.rules.specs.Limits.{pitch_capacity, mark_capacity, pitch_size}
use Rattle.rules.specs.Records.{Pitch, Notations, Note}
use Rattle.rules.specs.Words.{cells, zeros, ties_word, power_of_two, marks_word}
use Rattle.rules.specs.Words as rules
use Rattle.rules.specs.Agreement.{All}
use Rattle.theorems.proofs.Lists.{cond_ind}
use Rattle.theorems.proofs.Capacity.{Fits}
use Rattle.theorems.proofs.Cells.{pitches-whole}
use Rattle.cards.specs.Fields.{between, each}
use Rattle.cards.specs.Card.{form1, pitch_tests, such_pitch, note_tests, such_note}
use Rattle.cards.specs.Card as card
use Rattle.cards.specs.Words.{pitch_words, pitch_cells, note_words}
use Rattle.cards.specs.Judged.{raised}
use Rattle.cards.proofs.SuchLaws.{raised-back, length-pitches}
use Rattle.cardtheorems.proofs.Ranges.{PitchIn, NoteIn}
use Rattle.cardtheorems.proofs.Turned.{turned, length-turned, hold, ◌also◌, no_more, every-turned, cells-turned}

abbrev pub card_pitch : Pitch → card.Pitch
card_pitch q = record { place = q.place; step = q.step; octave = q.octave; alter = raised 2 q.alter }

abbrev pub card_note : Note → card.Note
card_note n = record {
  place = n.heading.place;
  duration = n.heading.duration;
  dots = n.heading.dots;
  kind = n.heading.kind;
  ties = ties_word n.notations;
  beam = n.notations.beam;
  actual = n.notations.actual;
  mark_count = length n.notations.marks;
  marks = marks_word n.notations.marks;
  pitches = turned card_pitch n.pitches;
}

-- ---- it is such a note

between-true : (a b n : ℕ) → a ≤ n → n ≤ b → between a b n ≡ true
between-true a b n h g = rw (le-leb a n h) (le-leb n b g)

pitch-such : (q : Pitch) → PitchIn q → such_pitch form1 (card_pitch q) ≡ true
unfolding such_pitch
pitch-such q h = hold (pitch_tests form1 (card_pitch q)) (between-true 1 65535 q.place h.place.0 h.place.1 also le-leb q.step 6 h.step also le-leb q.octave 9 h.octave also h.alter also no_more)

ties-few : (d : Notations) → ties_word d ≤ 3
ties-few d = cond_ind (λ (n : ℕ). n ≤ 3) d.tie_start (cond_ind (λ (n : ℕ). n ≤ 3) d.tie_end (omega arith) (omega arith)) (cond_ind (λ (n : ℕ). n ≤ 3) d.tie_end (omega arith) (omega arith))

marks-below : (ms : List Bool) → marks_word ms < power_of_two (length ms)
marks-below [] = omega arith
marks-below (true ∷ ms) = let h = marks-below ms in omega arith
marks-below (false ∷ ms) = let h = marks-below ms in omega arith

pub note-such : (n : Note) → NoteIn n → Fits n → such_note form1 (card_note n) ≡ true
unfolding such_note
note-such n h f =
    let ms = n.notations.marks in
    let size : length (turned card_pitch n.pitches) ≡ length n.pitches = length-turned card_pitch n.pitches in
    hold (note_tests form1 (card_note n))
    (between-true 1 65535 n.heading.place h.place.0 h.place.1
    also le-leb n.heading.duration 9 h.duration
    also le-leb n.heading.dots 3 h.dots
    also le-leb n.heading.kind 4 h.kind
    also le-leb (ties_word n.notations) 3 (ties-few n.notations)
    also le-leb n.notations.beam 3 h.notations.beam
    also h.notations.actual
    also rw (le-leb (length ms) mark_capacity f.marks) (lt-ltb (marks_word ms) (power_of_two (length ms)) (marks-below ms))
    also rw size (le-leb (length n.pitches) pitch_capacity f.pitches)
    also rw size h.count
    also every-turned PitchIn card_pitch (such_pitch form1) pitch-such n.pitches h.pitches
    also no_more)

-- ---- its words

pitch-words : (q : Pitch) → PitchIn q → rules.pitch_words q ≡ pitch_words (card_pitch q)
pitch-words q h = let a = leb-true (raised 2 q.alter) 4 h.alter in λ i. pos q.place ∷ pos q.step ∷ pos q.octave ∷ sym (raised-back 2 q.alter (omega arith)) i ∷ []

pitch-cells : (qs : List Pitch) → All PitchIn qs → length qs ≤ pitch_capacity → rules.pitch_cells qs ≡ pitch_cells (turned card_pitch qs)
unfolding pitch_cells
pitch-cells qs h few =
    let l = turned card_pitch qs in
    let same : cells rules.pitch_words qs ≡ each pitch_words l = cells-turned PitchIn card_pitch rules.pitch_words pitch_words pitch-words qs h in
    let size : pitch_size * pitch_capacity - length (each pitch_words l) ≡ pitch_size * (pitch_capacity - length l) = omega (arith, length-pitches l, length-turned card_pitch qs, few) in
    pitches-whole qs few ∙ (λ i. same i ++ zeros (pitch_size * pitch_capacity - length (same i))) ∙ ap (λ (n : ℕ). each pitch_words l ++ zeros n) size

pub note-words : (bar : ℕ) (n : Note) → NoteIn n → Fits n → rules.note_words (record { bar = bar; note = n }) ≡ note_words bar (card_note n)
unfolding note_words
note-words bar n h f = λ i.
    pos n.heading.place
    ∷ pos n.heading.kind
    ∷ pos n.heading.duration
    ∷ pos n.heading.dots
    ∷ pos (ties_word n.notations)
    ∷ pos n.notations.beam
    ∷ pos n.notations.actual
    ∷ pos (h.notations.normal i)
    ∷ pos (length n.notations.marks)
    ∷ pos (marks_word n.notations.marks)
    ∷ pos (sym (length-turned card_pitch n.pitches) i)
    ∷ pos bar
    ∷ pitch-cells n.pitches h.pitches f.pitches i
