-- What the values of tokens are, whatever the text. Assumes nothing.
use Rattle.std.specs.Prelude.{ℕ, ◌<◌, ◌≡◌, false, ⊤}
use Rattle.std.proofs.Math.Option.{Option, none, some}
use Rattle.rules.specs.Tokens.{Token, clef, key, meter, octave, duration, accidental, letter, chord, rest, barline, grace, grace_group, figure, marking, other}
use Rattle.view.specs.Accidentals.{is_none}

-- an octave is one of ten
abbrev pub IsOctave : Option ℕ → Type 0
IsOctave none = ⊤
IsOctave (some n) = n < 10

-- a letter's step is one of seven, and no accidental is the entry that means none
abbrev pub Readable : Token → Type 0
Readable (clef c) = ⊤
Readable (key k) = ⊤
Readable (meter m) = ⊤
Readable (octave o) = IsOctave o
Readable (duration p) = ⊤
Readable (accidental alter) = is_none alter ≡ false
Readable (letter step) = step < 7
Readable chord = ⊤
Readable rest = ⊤
Readable (barline right left) = ⊤
Readable (grace slashed) = ⊤
Readable (grace_group begins) = ⊤
Readable (figure f) = ⊤
Readable (marking m) = ⊤
Readable (other o) = ⊤
