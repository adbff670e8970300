-- What the reader holds between two tokens: the rules' state, its records as words in lent cells. Assumes nothing.
use Rattle.std.specs.Prelude.{ℕ, ◌+◌, ◌-◌, ◌*◌, ◌==◌, Bool, not, ◌&&◌, List, ℤ, pos, slice_index_or, drop, if◌then◌else◌, nat_lt}
use Rattle.std.proofs.Math.Option as math
use Rattle.rules.specs.Limits.{note_size}
use Rattle.rules.specs.Values.{Length, Meter}
use Rattle.rules.specs.Records.{is_rest_kind}
use Rattle.rules.specs.Rules.{Start, Group}
use Rattle.rules.specs.Stored.{natural}
use Rattle.stores.specs.declared.diagnostic.Diagnostic.{Diagnostic}
use Rattle.stores.specs.declared.note.TheConstants.{KIND}
use Rattle.view.specs.Accidentals.{Entries}

pub record View : Type 0 where
  -- the open bar's clef, fifths, meter and left; the alterations of the key last taken
  pub clef : math.Option ℕ
  pub fifths : math.Option ℤ
  pub key_alters : List ℤ
  pub meter : math.Option Meter
  pub left : ℕ
  pub octave : ℕ
  -- the pattern, and its lengths that are left before it begins anew
  pub pattern : List Length
  pub lengths_left : List Length
  -- the accidental that waits for the next letter, and the bar's accidentals
  pub pending_accidental : math.Option ℤ
  pub accidentals : Entries
  -- a `^` waits for the next letter
  pub chord_next : Bool
  -- a `g` (true) or `q` (false) waits for the next opened note; a `qq` group is open
  pub pending_grace : math.Option Bool
  pub grace_group : Bool
  -- a tie waits for the next opened note
  pub tie_pending : Bool
  -- the start at the first `!`; the start at `{`; the open `(`
  pub figure_start : math.Option Start
  pub beam_start : math.Option Start
  pub group : math.Option Group
  -- the number of the first note of the open bar, and of the last stored bar
  pub first : ℕ
  pub last : ℕ
  -- cells of notes, bars and figure, and how many records stand first in them
  pub notes : List ℤ
  pub note_count : ℕ
  pub bars : List ℤ
  pub bar_count : ℕ
  pub figure : List ℤ
  pub figure_count : ℕ
  -- the lent diagnostics, and how many are stored
  pub diagnostics : List Diagnostic
  pub diagnostic_count : ℕ

-- ---- the open bar

-- it has a note
abbrev pub has_note : View → Bool
has_note v = nat_lt v.first v.note_count

-- how many notes it has
abbrev pub open_length : View → ℕ
open_length v = v.note_count - v.first

-- the number in word `at` of the last note
abbrev pub last_number : ℕ → View → ℕ
last_number at v = natural (slice_index_or v.notes ((v.note_count - 1) * note_size + at) (pos 0))

-- it ends in a note that is no rest, of either kind
abbrev pub ends_in_note : View → Bool
ends_in_note v = has_note v && not (is_rest_kind (last_number KIND v))

-- after `^` the next letter joins it
abbrev pub joins : View → Bool
joins v = v.chord_next && ends_in_note v

-- ---- starts of groups, beams and figures

-- a start here
abbrev pub start_here : View → Start
start_here v = record { bar = v.bar_count; from = open_length v }

-- the open bar is the start's own
abbrev pub in_its_bar : Start → View → Bool
in_its_bar start v = start.bar == v.bar_count

-- how many of its notes stand from the start on: in a later bar none
abbrev pub count_from : Start → View → ℕ
count_from start v = if in_its_bar start v then open_length v - start.from else 0

-- the number of the first of them
abbrev pub number_from : Start → View → ℕ
number_from start v = v.first + start.from

-- the cells from there on
abbrev pub cells_from : Start → View → List ℤ
cells_from start v = drop (number_from start v * note_size) v.notes
