-- Tokens without what is long, as a mark keeps them, and the tokens of texts. Assumes nothing.
use Rattle.std.specs.Prelude.{ℕ, Bool, false, List, [], ◌∷◌, pos}
use Rattle.std.proofs.Math.Option.{none}
use Rattle.rules.specs.Tokens as t
use Rattle.rules.specs.Values.{Clef, Key}
use Rattle.tokens.specs.Kinds.{is_slashed, figure_in, marking_in}
use Rattle.tokens.specs.Numbers.{number_in}
use Rattle.tokens.specs.Rhythm.{octave_in, alter_of}
use Rattle.tokens.specs.Steps.{step_number}
use Rattle.tokens.specs.Whole.{is_whole}
use Rattle.marks.specs.declared.kind.Kind.{Kind}
use Rattle.marks.specs.declared.kind.Kind.TheVariants as k

-- ---- the token of a text

-- a text is a token: not empty, and whole
abbrev pub is_token : List ℕ → Bool
is_token [] = false
is_token (b ∷ bs) = is_whole b bs

-- what the token is that a text is
abbrev pub token_at : List ℕ → t.Token
token_at [] = t.other t.unknown
token_at (b ∷ bs) = t.token_of b bs

-- ---- without what is long

-- a clef and a key that say nothing
abbrev pub no_clef : Clef
no_clef = record { clef = none; mensural = false }

abbrev pub no_key : Key
no_key = record { alters = []; fifths = pos 0; standard = false }

-- a token without what its clef, key, meter, pattern or barline says
abbrev pub short : t.Token → t.Token
short (t.clef c) = t.clef no_clef
short (t.key k) = t.key no_key
short (t.meter m) = t.meter none
short (t.duration pattern) = t.duration []
short (t.barline right left) = t.barline 0 0
short token = token

-- the token that a kind is, without what is long
abbrev pub kind_in : Kind → t.Token
kind_in k.Clef = t.clef no_clef
kind_in k.Key = t.key no_key
kind_in k.Meter = t.meter none
kind_in (k.Octave octave) = t.octave (octave_in octave)
kind_in k.Duration = t.duration []
kind_in (k.Accidental accidental) = t.accidental (alter_of accidental)
kind_in (k.Letter step) = t.letter (step_number step)
kind_in k.Chord = t.chord
kind_in k.Rest = t.rest
kind_in (k.WholeBars count) = t.other (t.whole_bars (number_in count))
kind_in k.Barline = t.barline 0 0
kind_in (k.Grace grace) = t.grace (is_slashed grace)
kind_in (k.GraceGroup begins) = t.grace_group begins
kind_in (k.Figure figure) = t.figure (figure_in figure)
kind_in (k.Marking marking) = t.marking (marking_in marking)
kind_in k.Blank = t.other t.blank
kind_in k.Colon = t.other t.colon
kind_in k.Unknown = t.other t.unknown
