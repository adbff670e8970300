-- What the words of a record say. Assumes nothing.
use Rattle.std.specs.Prelude.{ℕ, zero, suc, ◌≡◌, ◌≢◌, ◌<◌, ◌/◌, ◌%◌, ◌^◌, Bool, ◌||◌, ◌&&◌, List, [], ℤ, pos, negsuc, Option, None, Some, MatchOption, FitsSigned, length, drop, ltb, eqb, slice_index_or, if◌then◌else◌}
use Rattle.std.specs.Int.{w8}
use Rattle.std.specs.Simd.{first_chunks}
use Rattle.rules.specs.Stored.{natural}
use Rattle.tokens.specs.declared.rhythm.Length.{Length}
use Rattle.tokens.specs.Steps.{step_number, duration_number}
use Rattle.stores.specs.declared.cells.TheConstants.{PITCH, FIRST_PITCH}
use Rattle.stores.specs.declared.note.NoteKind.{NoteKind}
use Rattle.stores.specs.declared.note.NoteKind.TheVariants.{Note, Rest, Grace, SlashedGrace, WholeBarRest}
use Rattle.stores.specs.declared.note.Pitch.{Pitch}
use Rattle.stores.specs.declared.note.TheConstants.{KIND, DURATION, DOTS}
use Rattle.marks.specs.declared.records.Beam.{Beam}
use Rattle.marks.specs.declared.records.Beam.TheVariants.{Start, Inside, End}
use Rattle.marks.specs.declared.records.NoteMark.{NoteMark}
use Rattle.marks.specs.declared.records.NoteMark.TheVariants.{Fermata, Trill}
use Rattle.marks.specs.declared.records.Tuplet.{Tuplet}

-- a word of a record, and the number in it
abbrev pub word_of : List ℤ → ℕ → ℤ
word_of words at = slice_index_or words at (pos 0)

abbrev pub number_of : List ℤ → ℕ → ℕ
number_of words at = natural (word_of words at)

-- the records of so many words that words are
abbrev pub records_in : ℕ → List ℤ → List (List ℤ)
records_in size words = first_chunks size (length words / size) words

-- the one of which this holds, or none where it holds of none
abbrev pub TheOne : {A : Type 0} → (A → Type 0) → Option A → Type 0
TheOne {A} Is r = MatchOption r ((a : A) → Is a → ⊥) Is

-- these are the words of a record, by its number from 0
pub record IsRecordAt (records : List (List ℤ)) (number : ℕ) (words : List ℤ) : Type 0 where
  pub within : number < length records
  pub same : words ≡ slice_index_or records number []

-- a note's kind; a word that is no kind's number stands for a whole-bar rest
abbrev pub kind_of : ℤ → NoteKind
kind_of (negsuc n) = WholeBarRest
kind_of (pos zero) = Note
kind_of (pos (suc zero)) = Rest
kind_of (pos (suc (suc zero))) = Grace
kind_of (pos (suc (suc (suc zero)))) = SlashedGrace
kind_of (pos (suc (suc (suc (suc n))))) = WholeBarRest

-- a note has this length, and is no whole-bar rest
pub record IsLengthOf (words : List ℤ) (l : Length) : Type 0 where
  pub kind : kind_of (word_of words KIND) ≢ WholeBarRest
  pub duration : pos (duration_number l.duration) ≡ word_of words DURATION
  pub dots : pos l.dots ≡ word_of words DOTS

-- 1 and 3 start a tie, 2 and 3 end one
abbrev pub tie_starts : ℕ → Bool
tie_starts ties = eqb ties 1 || eqb ties 3

abbrev pub tie_ends : ℕ → Bool
tie_ends ties = eqb ties 2 || eqb ties 3

-- 1 starts a beam, 2 stands inside, 3 ends it
abbrev pub beam_of : ℕ → Option Beam
beam_of n =
    if eqb n 1 then Some Start
    else if eqb n 2 then Some Inside
    else if eqb n 3 then Some End
    else None

-- an actual count of 0 is no tuplet
abbrev pub tuplet_of : ℕ → ℕ → Option Tuplet
tuplet_of actual normal = if eqb actual 0 then None else Some (record { actual = actual; normal = normal })

-- mark `which` of the bits of a word: 1 a trill, 0 a fermata
abbrev pub mark_of : ℕ → ℕ → NoteMark
mark_of marks which = if ltb which 32 && eqb (marks / 2 ^ which % 2) 1 then Trill else Fermata

-- a pitch has these words: the letter's place, step, octave, alteration
pub record IsPitch (words : List ℤ) (q : Pitch) : Type 0 where
  pub place : pos q.place.0 ≡ word_of words 0
  pub step : pos (step_number q.step) ≡ word_of words 1
  pub octave : pos q.octave.number ≡ word_of words 2
  pub alter : q.alter ≡ word_of words 3
  pub small : FitsSigned w8 q.alter

-- it is pitch `which` of a note, from 0
pub record IsPitchAt (words : List ℤ) (which : ℕ) (q : Pitch) : Type 0 where
  pub within : which < length (records_in PITCH (drop FIRST_PITCH words))
  pub pitch : IsPitch (slice_index_or (records_in PITCH (drop FIRST_PITCH words)) which []) q
