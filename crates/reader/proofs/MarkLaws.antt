-- The marks of records. Assumes nothing.
use Prim.Native.Nat.{ℕ, ◌+◌, ◌-◌, ◌*◌, ◌<◌}
use native.Mathlib.Omega.{arith}
use Rattle.std.proofs.Math.Nat.{add-mul}
use Rattle.std.proofs.lemmas.List.{get_or-take, get_or-drop}
use mathlib.Core.Path.{◌≡◌}
use mathlib.Core.List.{List}
use lib.IntN.{ℤ, pos}
use lib.ListN.{drop}
use lib.Seq.{drop-drop}
use Rattle.rules.specs.Limits.{note_size}
use Rattle.stores.specs.Cells.{record_at}
use Rattle.stores.specs.Notes.{number_at, mark_limit}
use Rattle.stores.specs.declared.note.TheConstants.{MARKS, MARK_COUNT}
use Rattle.view.specs.View.{View, last_number}

-- a record counted from another one on has few marks too
pub marks-from : (l : List ℤ) → ((k : ℕ) → number_at MARKS (record_at note_size l k) < mark_limit) → (from k : ℕ) → number_at MARKS (record_at note_size (drop (from * note_size) l) k) < mark_limit
marks-from l h from k = rw (drop-drop, ← add-mul) (h (from + k))

-- the count of the last note's marks stands in its record
pub last-marks : (v : View) → last_number MARK_COUNT v ≡ number_at MARK_COUNT (record_at note_size v.notes (v.note_count - 1))
last-marks v = rw (get_or-take note_size (drop ((v.note_count - 1) * note_size) v.notes) MARK_COUNT (pos 0) (omega arith), get_or-drop)

pub ruleset marks = (marks-from, last-marks)
