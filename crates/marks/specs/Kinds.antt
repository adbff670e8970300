-- The kinds of marks, as the look-back tells them apart. Assumes nothing.
use Rattle.std.specs.Prelude.{Bool, true, false, leb}
use Rattle.std.proofs.Math.Option.{some}
use Rattle.rules.specs.Tokens as t

-- `A` to `G`
abbrev pub is_letter : t.Token → Bool
is_letter (t.letter step) = true
is_letter token = false

-- an octave in range
abbrev pub is_octave : t.Token → Bool
is_octave (t.octave (some octave)) = true
is_octave token = false

-- `x`, `b`, `n` and longer runs
abbrev pub is_sign : t.Token → Bool
is_sign (t.accidental alter) = true
is_sign token = false

-- `^`
abbrev pub is_chord : t.Token → Bool
is_chord t.chord = true
is_chord token = false

-- an `=` of two or more bars: a barline stands in it
abbrev pub is_whole_bars : t.Token → Bool
is_whole_bars (t.other (t.whole_bars (some count))) = leb 2 count
is_whole_bars token = false

-- a barline, or an `=` in which one stands
abbrev pub is_barline : t.Token → Bool
is_barline (t.barline right left) = true
is_barline token = is_whole_bars token

-- a digit token
abbrev pub is_pattern : t.Token → Bool
is_pattern (t.duration pattern) = true
is_pattern token = false

-- `%`
abbrev pub is_clef : t.Token → Bool
is_clef (t.clef c) = true
is_clef token = false

-- `$`
abbrev pub is_key : t.Token → Bool
is_key (t.key k) = true
is_key token = false

-- `g`, `q`
abbrev pub is_grace : t.Token → Bool
is_grace (t.grace slashed) = true
is_grace token = false

-- `qq`, `r`
abbrev pub is_grace_group : t.Token → Bool
is_grace_group (t.grace_group begins) = true
is_grace_group token = false

-- `-`
abbrev pub is_rest : t.Token → Bool
is_rest t.rest = true
is_rest token = false

-- `!`
abbrev pub is_figure_mark : t.Token → Bool
is_figure_mark (t.figure t.figure_mark) = true
is_figure_mark token = false

-- `{`
abbrev pub opens_beam : t.Token → Bool
opens_beam (t.marking t.beam_open) = true
opens_beam token = false

-- `}`
abbrev pub closes_beam : t.Token → Bool
closes_beam (t.marking t.beam_close) = true
closes_beam token = false

-- `(`
abbrev pub opens_group : t.Token → Bool
opens_group (t.marking t.group_open) = true
opens_group token = false

-- `)`
abbrev pub closes_group : t.Token → Bool
closes_group (t.marking t.group_close) = true
closes_group token = false
