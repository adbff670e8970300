-- The whole answer: the result and every cell of the four lent buffers, from the text and the lent sizes (specification, 2 and 13). Assumes nothing.
use Rattle.std.specs.Prelude.{ℕ, ◌*◌, ◌/◌, List, ◌++◌, ℤ, length}
use Rattle.rules.specs.Limits.{note_size, bar_size, diagnostic_size}
use Rattle.rules.specs.Tokens.{Item, items_of}
use Rattle.rules.specs.Records.{given, Note, Bar, notes_of, Diagnostic}
use Rattle.rules.specs.Rules.{Attributes, state_after, bars_at_end}
use Rattle.rules.specs.Fields.{fields_of, fields_diagnosed, data_of}
use Rattle.rules.specs.Diagnostics.{data_diagnosed}
use Rattle.rules.specs.Refusals.{LentRecords, Refusal, refusal_of}
use Rattle.rules.specs.Words.{zeros, padded, note_cells, bar_cells, stored_diagnostics, diagnostic_cells}

-- how many words are lent for notes, bars and figure, and how many diagnostic cells
pub record Lent : Type 0 where
  pub notes : ℕ
  pub bars : ℕ
  pub figure : ℕ
  pub diagnostics : ℕ

-- only whole records count as lent
abbrev pub lent_records : Lent → LentRecords
lent_records lent = record { notes = lent.notes / note_size; bars = lent.bars / bar_size; figure = lent.figure / note_size; diagnostics = lent.diagnostics }

-- ---- what the rules make of a text

-- the attributes that the fields set
abbrev pub attributes_of : List ℕ → Attributes
attributes_of text = (fields_of text).attributes

-- the tokens of its data, the latest first
abbrev pub tokens_of : List ℕ → List Item
tokens_of text = items_of (data_of text)

-- its bars, the latest first
abbrev pub bars_of : List ℕ → List Bar
bars_of text = bars_at_end (state_after (attributes_of text) (tokens_of text))

-- its notes, the latest first
abbrev pub records_of : List ℕ → List Note
records_of text = notes_of (bars_of text)

-- its diagnostics, the latest first: the lines' before the data's
abbrev pub diagnostics_of : List ℕ → List Diagnostic
diagnostics_of text = data_diagnosed (attributes_of text) (tokens_of text) ++ fields_diagnosed text

-- ---- the answer

-- the number (0: accepted, place 0), a place, and counts of notes, bars, diagnostics; the lent cells, six words a diagnostic
pub record Reading : Type 0 where
  pub number : ℕ
  pub place : ℕ
  pub notes : ℕ
  pub bars : ℕ
  pub diagnostics : ℕ
  pub note_cells : List ℤ
  pub bar_cells : List ℤ
  pub figure_cells : List ℤ
  pub diagnostic_cells : List ℤ

-- after acceptance the first records stand as counted; all other cells, the whole figure buffer included, are 0
abbrev pub accepted : List ℕ → Lent → Reading
accepted text lent = record {
  number = 0;
  place = 0;
  notes = length (records_of text);
  bars = length (bars_of text);
  diagnostics = length (stored_diagnostics (diagnostics_of text));
  note_cells = padded lent.notes (note_cells (bars_of text));
  bar_cells = padded lent.bars (bar_cells (bars_of text));
  figure_cells = zeros lent.figure;
  diagnostic_cells = padded (diagnostic_size * lent.diagnostics) (diagnostic_cells (diagnostics_of text));
}

-- a refusal has counts 0, and every lent cell is 0
abbrev pub refused : Lent → Refusal → Reading
refused lent r = record {
  number = r.number;
  place = r.place;
  notes = 0;
  bars = 0;
  diagnostics = 0;
  note_cells = zeros lent.notes;
  bar_cells = zeros lent.bars;
  figure_cells = zeros lent.figure;
  diagnostic_cells = zeros (diagnostic_size * lent.diagnostics);
}

-- a finished reading, or one refusal
unfoldable pub reading : List ℕ → Lent → Reading
reading text lent = given (refusal_of text (lent_records lent)) (accepted text lent) (refused lent)
