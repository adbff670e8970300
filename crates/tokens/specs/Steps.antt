-- The numbers of steps, durations and edges. Assumes nothing.
use Rattle.std.specs.Prelude.{ℕ, Option, Some, None}
use Rattle.tokens.specs.declared.rhythm.Step.{Step}
use Rattle.tokens.specs.declared.rhythm.Step.TheVariants as step
use Rattle.tokens.specs.declared.rhythm.Duration.{Duration}
use Rattle.tokens.specs.declared.rhythm.Duration.TheVariants as duration
use Rattle.tokens.specs.declared.rhythm.Edge.{Edge}
use Rattle.tokens.specs.declared.rhythm.Edge.TheVariants as e

-- steps count 0 to 6 from C
abbrev pub step_number : Step → ℕ
step_number step.C = 0
step_number step.D = 1
step_number step.E = 2
step_number step.F = 3
step_number step.G = 4
step_number step.A = 5
step_number step.B = 6

-- durations count 0 to 9 from the longa
abbrev pub duration_number : Duration → ℕ
duration_number duration.Longa = 0
duration_number duration.Breve = 1
duration_number duration.Whole = 2
duration_number duration.Half = 3
duration_number duration.Quarter = 4
duration_number duration.Eighth = 5
duration_number duration.Sixteenth = 6
duration_number duration.ThirtySecond = 7
duration_number duration.SixtyFourth = 8
duration_number duration.HundredTwentyEighth = 9

-- the number of a duration, 10 where there is none
abbrev pub number_in : Option Duration → ℕ
number_in (Some d) = duration_number d
number_in None = 10

-- edges count 0 to 3
abbrev pub edge_number : Edge → ℕ
edge_number e.Plain = 0
edge_number e.Double = 1
edge_number e.RepeatStart = 2
edge_number e.RepeatEnd = 3
