-- What stands in the lent note cells, read out of the words alone (specification, 13 and 14). Assumes nothing.
use Rattle.std.specs.Prelude.{ℕ, zero, suc, ◌*◌, Bool, false, List, [], ◌∷◌, map, ℤ, pos, negsuc, take, drop, get_or, eqb}
use Rattle.rules.specs.Limits.{pitch_size, first_pitch, note_size}

-- ---- words

-- word k, from 0
abbrev pub word : List ℤ → ℕ → ℤ
word words k = get_or words k (pos 0)

-- the words of record i, from 0, where each record has `size` words
abbrev pub record_at : ℕ → List ℤ → ℕ → List ℤ
record_at size cells i = take size (drop (i * size) cells)

-- the words of the first n records, the latest first
abbrev pub first_records : ℕ → List ℤ → ℕ → List (List ℤ)
first_records size cells zero = []
first_records size cells (suc n) = record_at size cells n ∷ first_records size cells n

-- the number that a word holds, 0 where it is below 0
abbrev pub natural : ℤ → ℕ
natural (pos n) = n
natural (negsuc n) = 0

-- whether a word holds this place
abbrev pub is_place : ℤ → ℕ → Bool
is_place (pos n) place = eqb n place
is_place (negsuc n) place = false

-- ---- notes

-- a stored pitch: letter's place, step, octave, alteration
pub record StoredPitch : Type 0 where
  pub place : ℤ
  pub step : ℤ
  pub octave : ℤ
  pub alter : ℤ

-- the four words of a pitch
abbrev pub pitch_in : List ℤ → StoredPitch
pitch_in words = record { place = word words 0; step = word words 1; octave = word words 2; alter = word words 3 }

-- place of the storing token, kind, duration, dots
pub record StoredHeading : Type 0 where
  pub place : ℤ
  pub kind : ℤ
  pub duration : ℤ
  pub dots : ℤ

-- the first four words of a note
abbrev pub heading_in : List ℤ → StoredHeading
heading_in words = record { place = word words 0; kind = word words 1; duration = word words 2; dots = word words 3 }

-- a stored note is any record, rests included; its pitches, the latest first
pub record StoredNote : Type 0 where
  pub heading : StoredHeading
  pub pitches : List StoredPitch

-- its first pitches up to its count: pitches of four words from word 12, the count in word 10
abbrev pub note_in : List ℤ → StoredNote
note_in words = record { heading = heading_in words; pitches = map pitch_in (first_records pitch_size (drop first_pitch words) (natural (word words 10))) }

-- the first records of the cells, as counted, the latest first
abbrev pub notes_in : List ℤ → ℕ → List StoredNote
notes_in cells count = map note_in (first_records note_size cells count)
