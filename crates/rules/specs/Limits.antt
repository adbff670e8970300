-- The sizes and limits of the specification, each said once. Assumes nothing.
use Rattle.std.specs.Prelude.{ℕ, ◌+◌, ◌*◌}

-- a text has at most 65,535 bytes
abbrev pub text_limit : ℕ
text_limit = 65535

-- at most 100,000 notes are stored
abbrev pub note_limit : ℕ
note_limit = 100000

-- 1,024 diagnostic cells or more are lent; the first 1,024 diagnostics are stored
abbrev pub diagnostic_limit : ℕ
diagnostic_limit = 1024

-- a note has at most 8 pitches
abbrev pub pitch_capacity : ℕ
pitch_capacity = 8

-- and at most 8 marks
abbrev pub mark_capacity : ℕ
mark_capacity = 8

-- dots cap at 3
abbrev pub dot_limit : ℕ
dot_limit = 3

-- octaves go from 0 to 9
abbrev pub octave_limit : ℕ
octave_limit = 9

-- counts of `;` and the numbers of a meter go to 255
abbrev pub count_limit : ℕ
count_limit = 255

-- an `=` counts 1 to 1,000 bars
abbrev pub whole_bar_limit : ℕ
whole_bar_limit = 1000

-- a pitch has four words
abbrev pub pitch_size : ℕ
pitch_size = 4

-- a note record has 12 words before its pitches
abbrev pub first_pitch : ℕ
first_pitch = 12

-- with its pitches 44
abbrev pub note_size : ℕ
note_size = first_pitch + pitch_size * pitch_capacity

-- a bar record has 10 words
abbrev pub bar_size : ℕ
bar_size = 10

-- a diagnostic record has six words
abbrev pub diagnostic_size : ℕ
diagnostic_size = 6
