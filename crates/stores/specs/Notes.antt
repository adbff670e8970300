-- What the code's headings and pitches are in the rules, and what changes in a note's words. Assumes nothing.
use Rattle.std.specs.Prelude.{ℕ, ◌+◌, ◌*◌, Bool, if◌then◌else◌, List, [], ◌∷◌, Option, Some, None, ℤ, pos, slice_index_or, slice_set, nat_le}
use Rattle.rules.specs.Limits.{pitch_size, first_pitch, mark_capacity}
use Rattle.rules.specs.Records as rules
use Rattle.rules.specs.Rules.{plain}
use Rattle.rules.specs.Words.{Numbered, pitch_words, power_of_two}
use Rattle.rules.specs.Stored.{natural}
use Rattle.tokens.specs.declared.rhythm.Length.{Length}
use Rattle.tokens.specs.Steps.{step_number, duration_number}
use Rattle.stores.specs.declared.note.NoteKind.{NoteKind}
use Rattle.stores.specs.declared.note.NoteKind.TheVariants.{Note, Rest, Grace, SlashedGrace, WholeBarRest}
use Rattle.stores.specs.declared.note.Heading.{Heading}
use Rattle.stores.specs.declared.note.Pitch.{Pitch}
use Rattle.stores.specs.declared.note.TheConstants.{TIES, MARK_COUNT, MARKS, PITCH_COUNT}
use Rattle.stores.specs.Cells.{written}

-- the number of a kind
abbrev pub kind_number : NoteKind → ℕ
kind_number Note = 0
kind_number Rest = 1
kind_number Grace = 2
kind_number SlashedGrace = 3
kind_number WholeBarRest = 4

-- a length's duration by its number, and its dots; 0 and 0 where there is none
abbrev pub duration_of : Option Length → ℕ
duration_of (Some l) = duration_number l.duration
duration_of None = 0

abbrev pub dots_of : Option Length → ℕ
dots_of (Some l) = l.dots
dots_of None = 0

abbrev pub length_numbers : Option Length → List ℤ
length_numbers l = pos (duration_of l) ∷ pos (dots_of l) ∷ []

abbrev pub heading_of : Heading → rules.Heading
heading_of h = record {
  place = h.place.0;
  kind = kind_number h.kind;
  duration = duration_of h.length;
  dots = dots_of h.length;
}

abbrev pub pitch_of : Pitch → rules.Pitch
pitch_of q = record { place = q.place.0; step = step_number q.step; octave = q.octave.number; alter = q.alter }

-- a new record of bar `bar`, with no notations, but a tie may end at it
abbrev pub opened : ℕ → rules.Heading → Bool → List rules.Pitch → Numbered
opened bar h ends qs = record { bar = bar; note = record { heading = h; pitches = qs; notations = plain ends } }

-- the number in a word
abbrev pub number_at : ℕ → List ℤ → ℕ
number_at at words = natural (slice_index_or words at (pos 0))

-- ---- a note's words changed

-- one more pitch
abbrev pub pitched : rules.Pitch → List ℤ → List ℤ
pitched q words =
    let count = number_at PITCH_COUNT words in
    let counted = slice_set words PITCH_COUNT (pos (count + 1)) in
    written counted (first_pitch + count * pitch_size) (pitch_words q)

-- a tie starts at it: 2 (a tie ends) becomes 3, none 1
abbrev pub tie_started : List ℤ → List ℤ
tie_started words = slice_set words TIES (pos (if nat_le 2 (number_at TIES words) then 3 else 1))

-- marks of at most 8 bits are below 256
abbrev pub mark_limit : ℕ
mark_limit = power_of_two mark_capacity

-- one more mark: true a trill, false a fermata
abbrev pub marked : Bool → List ℤ → List ℤ
marked trill words =
    let count = number_at MARK_COUNT words in
    let bit = if trill then power_of_two count else 0 in
    slice_set (slice_set words MARK_COUNT (pos (count + 1))) MARKS (pos (number_at MARKS words + bit))
