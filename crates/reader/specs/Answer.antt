-- What a reading answers, of its result and the lent cells. Assumes nothing.
use Rattle.std.specs.Prelude.{ℕ, ◌≡◌, not, ltb, List, [], ◌∷◌, ◌++◌, ℤ, length, Result, Ok, Err, MatchResult}
use Rattle.std.proofs.Math.Option.{Option, none, some}
use Rattle.rules.specs.Limits.{text_limit, diagnostic_limit}
use Rattle.rules.specs.Text.{Part}
use Rattle.rules.specs.Tokens.{items_of}
use Rattle.rules.specs.Records.{notes_of}
use Rattle.rules.specs.Rules.{Attributes, state_after, bars_at_end}
use Rattle.rules.specs.Diagnostics.{data_diagnosed}
use Rattle.rules.specs.Characters.{is_formed, all_blank}
use Rattle.rules.specs.Refusals.{LentRecords, first_failing, data_refusal, refusal_of}
use Rattle.rules.specs.Words.{zeros, padded, note_cells, bar_cells}
use Rattle.rules.specs.Reading.{Lent, lent_records, Reading, accepted}
use Rattle.stores.specs.declared.diagnostic.Diagnostic.{Diagnostic}
use Rattle.stores.specs.Diagnostics.{six_words, blanks, list_after_all, count_after_all}
use Rattle.view.specs.declared.refusal.Stop.{Stop}
use Rattle.view.specs.Refusals.{refusal_number, place_number, stop_in}
use Rattle.view.specs.View.{View}
use Rattle.reader.specs.declared.read.Counts.{Counts}

-- the six words of each diagnostic, one after the other
abbrev pub words : List Diagnostic → List ℤ
words [] = []
words (d ∷ ds) = six_words d ++ words ds

-- how much is lent: words of notes, bars and figure, and diagnostic cells
abbrev pub lent_words : List ℤ → List ℤ → List ℤ → List Diagnostic → Lent
lent_words notes bars figure diagnostics = record { notes = length notes; bars = length bars; figure = length figure; diagnostics = length diagnostics }

-- the number, place and counts, and the lent cells
abbrev pub answer : Result Counts Stop → List ℤ → List ℤ → List ℤ → List Diagnostic → Reading
answer (Ok counts) notes bars figure diagnostics = record {
  number = 0;
  place = 0;
  notes = counts.notes;
  bars = counts.bars;
  diagnostics = counts.diagnostics;
  note_cells = notes;
  bar_cells = bars;
  figure_cells = figure;
  diagnostic_cells = words diagnostics;
}
answer (Err stop) notes bars figure diagnostics = record {
  number = refusal_number stop.refusal;
  place = place_number stop.place;
  notes = 0;
  bars = 0;
  diagnostics = 0;
  note_cells = notes;
  bar_cells = bars;
  figure_cells = figure;
  diagnostic_cells = words diagnostics;
}

-- ---- up to the cells that a refusal clears

-- the first of the checks at the entry that fails
abbrev pub entry_refusal : List ℕ → ℕ → Option ℕ
entry_refusal text cells = first_failing ((1, ltb text_limit (length text)) ∷ (2, ltb cells diagnostic_limit) ∷ (3, not (is_formed text)) ∷ (4, all_blank text) ∷ [])

-- the counts are those of the view
pub record Counted (counts : Counts) (v : View) : Type 0 where
  pub notes : counts.notes ≡ v.note_count
  pub bars : counts.bars ≡ v.bar_count
  pub diagnostics : counts.diagnostics ≡ v.diagnostic_count

-- no refusal, and counts and cells are the rules' own; or the rules' refusal, whatever the cells hold
abbrev pub Reads : List ℕ → Lent → Result Counts Stop → List ℤ → List ℤ → List Diagnostic → Type 0
Reads text lent r notes bars diagnostics = MatchResult r
    (λ counts. (refusal_of text (lent_records lent) ≡ none) × (answer (Ok counts) notes bars (zeros lent.figure) diagnostics ≡ accepted text (record lent { notes = length notes; bars = length bars })))
    (λ stop. refusal_of text (lent_records lent) ≡ some (stop_in stop))

-- of data with these attributes, where so many records are lent and these diagnostics were stored before: nothing is refused, and counts and cells are those of the rules' bars
pub record DataRead (lent : LentRecords) (k : Attributes) (d : Part) (before : List Diagnostic) (stored : ℕ) (counts : Counts) (note_words bar_words : List ℤ) (list : List Diagnostic) : Type 0 where
  pub fine : data_refusal lent k d ≡ none
  pub notes : note_words ≡ padded (length note_words) (note_cells (bars_at_end (state_after k (items_of d))))
  pub note_count : counts.notes ≡ length (notes_of (bars_at_end (state_after k (items_of d))))
  pub bars : bar_words ≡ padded (length bar_words) (bar_cells (bars_at_end (state_after k (items_of d))))
  pub bar_count : counts.bars ≡ length (bars_at_end (state_after k (items_of d)))
  pub diagnostics : list ≡ list_after_all before stored (data_diagnosed k (items_of d))
  pub diagnostic_count : counts.diagnostics ≡ count_after_all stored (data_diagnosed k (items_of d))

-- that, or the rules' refusal
abbrev pub ReadsData : LentRecords → Attributes → Part → List Diagnostic → ℕ → Result Counts Stop → List ℤ → List ℤ → List Diagnostic → Type 0
ReadsData lent k d before stored r note_words bar_words list =
    MatchResult r (λ counts. DataRead lent k d before stored counts note_words bar_words list) (λ stop. data_refusal lent k d ≡ some (stop_in stop))

-- no record is stored, and all cells are 0
pub record IsEmpty (words : List ℤ) (stored : ℕ) : Type 0 where
  pub cells : words ≡ zeros (length words)
  pub count : stored ≡ 0

-- no diagnostic is stored
pub record IsBlank (ds : List Diagnostic) (stored : ℕ) : Type 0 where
  pub list : ds ≡ blanks (length ds)
  pub count : stored ≡ 0
