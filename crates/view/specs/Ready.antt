-- What the steps ask of a view. Assumes nothing.
use Rattle.std.specs.Prelude.{ℕ, ◌*◌, ◌≤◌, ◌<◌, ◌≡◌, true, length, ⊤}
use Rattle.std.proofs.Math.Option as math
use Rattle.std.proofs.Math.Option.{none, some}
use Rattle.rules.specs.Limits.{note_limit, note_size}
use Rattle.rules.specs.Rules.{Start, Group}
use Rattle.stores.specs.Cells.{record_at, BlankFrom}
use Rattle.stores.specs.Notes.{number_at, mark_limit}
use Rattle.stores.specs.declared.note.TheConstants.{MARKS}
use Rattle.view.specs.View.{View, open_length, in_its_bar}

-- the open bar's first note is not past the notes, of which there are 100,000 at most; each stored bar has one; the cells behind them are 0
pub record Sound (v : View) : Type 0 where
  pub first : v.first ≤ v.note_count
  pub capped : v.note_count ≤ note_limit
  pub few : v.bar_count ≤ v.first
  pub blank : BlankFrom (v.note_count * note_size) v.notes

-- a start in the open bar is not past its notes
abbrev pub Reached : math.Option Start → View → Type 0
Reached none v = ⊤
Reached (some start) v = in_its_bar start v ≡ true → start.from ≤ open_length v

abbrev pub start_of : math.Option Group → math.Option Start
start_of none = none
start_of (some g) = some g.start

pub record IsReady (v : View) : Type 0 where
  pub sound : Sound v
  pub last : v.last ≤ v.first
  pub figure_start : Reached v.figure_start v
  pub beam_start : Reached v.beam_start v
  pub group : Reached (start_of v.group) v
  -- the figure's notes stand in its cells
  pub figure : v.figure_count * note_size ≤ length v.figure
  pub figure_capped : v.figure_count ≤ note_limit
  -- marks are 8 bits at most
  pub marks : (k : ℕ) → number_at MARKS (record_at note_size v.notes k) < mark_limit

-- what stands whatever cells the figure has
pub record IsSteady (v : View) : Type 0 where
  pub sound : Sound v
  pub last : v.last ≤ v.first
  pub beam_start : Reached v.beam_start v
  pub group : Reached (start_of v.group) v
  pub marks : (k : ℕ) → number_at MARKS (record_at note_size v.notes k) < mark_limit
