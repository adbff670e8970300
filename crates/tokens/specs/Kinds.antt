-- What a token is, in the rules' words. Assumes nothing.
use Rattle.std.specs.Prelude.{Bool, true, false}
use Rattle.rules.specs.Tokens as rules
use Rattle.tokens.specs.declared.kinds.Grace.{Grace}
use Rattle.tokens.specs.declared.kinds.Grace.TheVariants as g
use Rattle.tokens.specs.declared.kinds.Figure.{Figure}
use Rattle.tokens.specs.declared.kinds.Figure.TheVariants as f
use Rattle.tokens.specs.declared.kinds.Marking.{Marking}
use Rattle.tokens.specs.declared.kinds.Marking.TheVariants as m
use Rattle.tokens.specs.declared.kinds.Token.{Token}
use Rattle.tokens.specs.declared.kinds.Token.TheVariants as t
use Rattle.tokens.specs.Numbers.{number_in}
use Rattle.tokens.specs.Steps.{step_number}
use Rattle.tokens.specs.Attributes.{clef_value, key_value, meter_in}
use Rattle.tokens.specs.Rhythm.{octave_in, alter_of, barline_in, lengths_of}

-- `g` is slashed
abbrev pub is_slashed : Grace → Bool
is_slashed g.Acciaccatura = true
is_slashed g.Appoggiatura = false

-- `!`, `f`, `i`
abbrev pub figure_in : Figure → rules.Figure
figure_in f.Mark = rules.figure_mark
figure_in f.Repeat = rules.figure_repeat
figure_in f.Bar = rules.bar_repeat

-- the marking that it is
abbrev pub marking_in : Marking → rules.Marking
marking_in m.BeamOpen = rules.beam_open
marking_in m.BeamClose = rules.beam_close
marking_in m.GroupOpen = rules.group_open
marking_in (m.GroupCount count) = rules.group_count (number_in count)
marking_in m.GroupClose = rules.group_close
marking_in m.Tie = rules.tie
marking_in m.Trill = rules.trill

-- the token that it is
abbrev pub token_in : Token → rules.Token
token_in (t.Clef clef) = rules.clef (clef_value clef)
token_in (t.Key key) = rules.key (key_value key)
token_in (t.Meter meter) = rules.meter (meter_in meter)
token_in (t.Octave octave) = rules.octave (octave_in octave)
token_in (t.Duration pattern) = rules.duration (lengths_of pattern)
token_in (t.Accidental accidental) = rules.accidental (alter_of accidental)
token_in (t.Letter step) = rules.letter (step_number step)
token_in t.Chord = rules.chord
token_in t.Rest = rules.rest
token_in (t.WholeBars count) = rules.other (rules.whole_bars (number_in count))
token_in (t.Barline barline) = barline_in barline
token_in (t.Grace grace) = rules.grace (is_slashed grace)
token_in (t.GraceGroup begins) = rules.grace_group begins
token_in (t.Figure figure) = rules.figure (figure_in figure)
token_in (t.Marking marking) = rules.marking (marking_in marking)
token_in t.Blank = rules.other rules.blank
token_in t.Colon = rules.other rules.colon
token_in t.Unknown = rules.other rules.unknown
