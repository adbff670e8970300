-- What the code's values are in the rules' words. Assumes nothing.
use Rattle.std.specs.Prelude.{◌≡◌, Bool, false, ℤ, Option, Some, None}
use Rattle.std.proofs.Math.Option as math
use Rattle.rules.specs.Rules as rules
use Rattle.tokens.specs.declared.rhythm.Accidental.{Accidental}
use Rattle.tokens.specs.declared.kinds.Grace.{Grace}
use Rattle.tokens.specs.Rhythm.{alter_of}
use Rattle.tokens.specs.Kinds.{is_slashed}
use Rattle.tokens.specs.Numbers.{number_in}
use Rattle.reader.specs.declared.state.Start.{Start}
use Rattle.reader.specs.declared.state.Group.{Group}
use Rattle.reader.specs.declared.state.Groups.{Groups}
use Rattle.reader.specs.declared.state.Voice.{Voice}

-- the alteration of an accidental that waits, if one does
abbrev pub accidental_in : Option Accidental → math.Option ℤ
accidental_in (Some a) = math.some (alter_of a)
accidental_in None = math.none

-- whether the grace that waits is slashed, if one does
abbrev pub grace_in : Option Grace → math.Option Bool
grace_in (Some g) = math.some (is_slashed g)
grace_in None = math.none

abbrev pub start_of : Start → rules.Start
start_of start = record { bar = start.bar; from = start.from }

-- a start that is noted, if one is
abbrev pub start_in : Option Start → math.Option rules.Start
start_in (Some start) = math.some (start_of start)
start_in None = math.none

abbrev pub group_of : Group → rules.Group
group_of g = record { start = start_of g.start; count = number_in g.count }

-- the open `(`, if there is one
abbrev pub group_in : Option Group → math.Option rules.Group
group_in (Some g) = math.some (group_of g)
group_in None = math.none

-- ---- as a reading starts

-- octave 4, nothing waits
pub record IsFresh (v : Voice) : Type 0 where
  pub octave : v.octave.number ≡ 4
  pub accidental : v.accidental ≡ None
  pub chord : v.chord ≡ false
  pub grace : v.grace ≡ None
  pub group : v.group ≡ false
  pub tie : v.tie ≡ false

-- nothing is noted
abbrev pub no_groups : Groups
no_groups = record { figure = None; beam = None; group = None }
