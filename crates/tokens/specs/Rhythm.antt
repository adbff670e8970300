-- Octaves, accidentals, barlines and lengths, in the rules' words. Assumes nothing.
use Rattle.std.specs.Prelude.{ℕ, ℤ, pos, negsuc, List, [], ◌∷◌, ◌++◌, map, take, drop, Option, Some, None}
use Rattle.std.proofs.Math.Option as math
use Rattle.rules.specs.Values.{capped, dots_at, pattern_of, quarter}
use Rattle.rules.specs.Values as rules
use Rattle.rules.specs.Tokens.{Token, barline}
use Rattle.tokens.specs.declared.rhythm.Octave.{Octave}
use Rattle.tokens.specs.declared.rhythm.Accidental.{Accidental}
use Rattle.tokens.specs.declared.rhythm.Accidental.TheVariants as a
use Rattle.tokens.specs.declared.rhythm.Barline.{Barline}
use Rattle.tokens.specs.declared.rhythm.Length.{Length}
use Rattle.tokens.specs.declared.rhythm.Pattern.{Pattern}
use Rattle.tokens.specs.declared.rhythm.Rest.{Rest}
use Rattle.tokens.specs.declared.rhythm.Cycle.{Cycle}
use Rattle.tokens.specs.Steps.{duration_number, edge_number}

-- the octave that is set, if it is in range
abbrev pub octave_in : Option Octave → math.Option ℕ
octave_in (Some o) = math.some o.number
octave_in None = math.none

-- the alteration that it is
abbrev pub alter_of : Accidental → ℤ
alter_of a.DoubleFlat = negsuc 1
alter_of a.Flat = negsuc 0
alter_of a.Natural = pos 0
alter_of a.Sharp = pos 1
alter_of a.DoubleSharp = pos 2

-- the barline by its right and left
abbrev pub barline_in : Barline → Token
barline_in b = barline (edge_number b.right) (edge_number b.left)

-- the length that it is
abbrev pub length_in : Length → rules.Length
length_in l = record { duration = duration_number l.duration; dots = l.dots }

-- a pattern's first length, those behind it, and all
abbrev pub first_of : Pattern → rules.Length
first_of p = record { duration = duration_number p.first; dots = capped (dots_at p.rest.now) }

abbrev pub rest_of : Pattern → List rules.Length
rest_of p = pattern_of p.rest.now

abbrev pub lengths_of : Pattern → List rules.Length
lengths_of p = first_of p ∷ rest_of p

-- the lengths of what is left of a digit token
abbrev pub lengths_in : Rest → List rules.Length
lengths_in r = pattern_of r.bytes.now

-- kept lengths, and those that stand behind them in the text
abbrev pub lengths_with : List Length → Rest → List rules.Length
lengths_with kept rest = map length_in kept ++ lengths_in rest

-- those that are left, or all anew
abbrev pub anew : List rules.Length → List rules.Length → List rules.Length
anew all [] = all
anew all (l ∷ left) = l ∷ left

-- all lengths of a cycle, and those that are left before it begins anew
abbrev pub all_lengths : Cycle → List rules.Length
all_lengths c = lengths_with (take c.kept.count c.lengths) c.kept.rest

abbrev pub lengths_left : Cycle → List rules.Length
lengths_left c = anew (all_lengths c) (lengths_with (drop c.index (take c.kept.count c.lengths)) c.next)

-- the length that is taken next
abbrev pub next_length : List rules.Length → rules.Length
next_length [] = quarter
next_length (l ∷ left) = l

-- what is left then; behind the last one all lengths are left anew
abbrev pub lengths_after : List rules.Length → List rules.Length → List rules.Length
lengths_after all [] = all
lengths_after all (l ∷ []) = all
lengths_after all (l ∷ next ∷ left) = next ∷ left
