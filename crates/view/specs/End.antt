-- The data's end, after its tokens. Assumes nothing.
use Rattle.std.specs.Prelude.{ℕ, ◌+◌, ◌==◌, ◌≡◌, length, if◌then◌else◌, Result, Ok, Err}
use Rattle.std.proofs.Math.Option.{none, some}
use Rattle.rules.specs.Records.{notes_of}
use Rattle.rules.specs.Rules.{State, bars_at_end}
use Rattle.rules.specs.Refusals as rules
use Rattle.rules.specs.Refusals.{LentRecords, refusal, end_refusal}
use Rattle.rules.specs.Words.{padded, note_cells, bar_cells}
use Rattle.view.specs.declared.refusal.Refusal.{Refusal}
use Rattle.view.specs.Refusals.{refusal_number}
use Rattle.view.specs.View.{View}
use Rattle.view.specs.Steps.{stored_bar}

-- 12 is at the place behind the data of `size` characters; nothing stored, 13
abbrev pub at_end : ℕ → Result View Refusal → Result View rules.Refusal
at_end size (Ok v) = if v.note_count == 0 then Err (refusal 13 0) else Ok v
at_end size (Err e) = Err (refusal (refusal_number e) (size + 1))

-- the end closes a non-empty bar
abbrev pub after_end : ℕ → View → Result View rules.Refusal
after_end size v = at_end size (stored_bar 0 v)

-- ---- as the rules have it

-- nothing is refused, and the cells, as many as before, are those of the rules' bars
pub record Ended (lent : LentRecords) (size : ℕ) (s : State) (v w : View) : Type 0 where
  pub fine : end_refusal lent size s ≡ none
  pub notes : w.notes ≡ padded (length v.notes) (note_cells (bars_at_end s))
  pub note_count : w.note_count ≡ length (notes_of (bars_at_end s))
  pub bars : w.bars ≡ padded (length v.bars) (bar_cells (bars_at_end s))
  pub bar_count : w.bar_count ≡ length (bars_at_end s)
  pub same_notes : length w.notes ≡ length v.notes
  pub same_bars : length w.bars ≡ length v.bars
  pub diagnostics : w.diagnostics ≡ v.diagnostics
  pub diagnostic_count : w.diagnostic_count ≡ v.diagnostic_count

abbrev pub Ends : LentRecords → ℕ → State → View → Result View rules.Refusal → Type 0
Ends lent size s v (Ok w) = Ended lent size s v w
Ends lent size s v (Err r) = end_refusal lent size s ≡ some r
