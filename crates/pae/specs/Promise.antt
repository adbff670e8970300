-- What a call of the reader promises, on every input. Assumes nothing.
use Rattle.std.specs.Prelude.{ℕ, ◌≡◌, List, ℤ}
use Rattle.rules.specs.Reading.{Lent, reading}
use Rattle.rules.specs.Agreement.{Agrees}
use Rattle.stores.specs.declared.diagnostic.Diagnostic.{Diagnostic}
use Rattle.reader.specs.Answer.{words}
use Rattle.pae.specs.declared.answers.Reading.{Reading}

-- of a text and the lent sizes: the result and every lent cell are the rules' `reading`, and the agreement holds of an accepted one
pub record Promise (text : List ℕ) (lent : Lent) (r : Reading) (notes bars figure : List ℤ) (diagnostics : List Diagnostic) : Type 0 where
  pub number : r.number ≡ (reading text lent).number
  pub place : r.place ≡ (reading text lent).place
  pub note_count : r.notes ≡ (reading text lent).notes
  pub bar_count : r.bars ≡ (reading text lent).bars
  pub diagnostic_count : r.diagnostics ≡ (reading text lent).diagnostics
  pub note_cells : notes ≡ (reading text lent).note_cells
  pub bar_cells : bars ≡ (reading text lent).bar_cells
  pub figure_cells : figure ≡ (reading text lent).figure_cells
  pub diagnostic_cells : words diagnostics ≡ (reading text lent).diagnostic_cells
  pub agrees : r.number ≡ 0 → Agrees text r.notes notes
