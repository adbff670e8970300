-- What is read back from a card, and what each step stores in lent records. Assumes nothing.
use Rattle.std.specs.Prelude.{ℕ, ◌+◌, ◌*◌, ◌≤◌, ◌≡◌, List, ℤ, length, Result, Ok, Err, MatchResult}
use Rattle.std.proofs.Math.Option.{some}
use Rattle.rules.specs.Limits.{note_size, bar_size}
use Rattle.rules.specs.Words.{zeros}
use Rattle.stores.specs.declared.cells.Records.{Records}
use Rattle.stores.specs.Cells.{written}
use Rattle.cards.specs.Fields.{each}
use Rattle.cards.specs.Card.{Note, Bar, Form, note_count}
use Rattle.cards.specs.Words.{note_words, bar_words, note_cells, bar_cells}
use Rattle.cards.specs.Answers.{Read, read_refused, read_of}
use Rattle.cards.specs.Taken.{notes_taken, bar_behind, bars_taken, card_taken}
use Rattle.cards.specs.Errors.{error_number}
use Rattle.cards.specs.declared.error.CardError.{CardError}
use Rattle.cards.specs.declared.read.CardCounts.{CardCounts}

-- the number, 0 where a card is read, the counts and the lent cells
abbrev pub read_back : Result CardCounts CardError → List ℤ → List ℤ → Read
read_back (Ok counts) notes bars = record {
  number = 0;
  notes = counts.notes;
  bars = counts.bars;
  note_cells = notes;
  bar_cells = bars;
}
read_back (Err error) notes bars = record {
  number = error_number error;
  notes = 0;
  bars = 0;
  note_cells = notes;
  bar_cells = bars;
}

-- words stored from cell `at` on, where they fit; more are stored from cell `at'` on
pub record Appends (words cells : List ℤ) (at : ℕ) (cells' : List ℤ) (at' : ℕ) : Type 0 where
  pub sized : length cells' ≡ length cells
  pub stored : at + length words ≤ length cells → cells' ≡ written cells at words
  pub next : at + length words ≤ length cells → at' ≡ at + length words

-- words stored behind the records that are there, where they fit
abbrev pub Stores : {size : ℕ} → List ℤ → Records size → Records size → Type 0
Stores {size} words s t = Appends words s.cells.now (s.count * size) t.cells.now (t.count * size)

-- the same lent cells
pub record SameCells {size : ℕ} (s t : Records size) : Type 0 where
  pub same_cells : t.cells.ghost_name ≡ s.cells.ghost_name
  pub same_room : length t.cells.now ≡ length s.cells.now

-- so many notes of bar `number` at the front, and they are stored
pub record NotesRead (form : Form) (count number : ℕ) (before : List ℕ) (s : Records note_size)
    (behind : List ℕ) (t : Records note_size) : Type 0 where
  pub list : List Note
  pub taken : notes_taken form count before ≡ some (list, behind)
  pub stored : Stores (each (note_words number) list) s t

-- a bar behind those that are counted, and it is stored
pub record BarRead (form : Form) (counts : CardCounts)
    (before : List ℕ) (notes : Records note_size) (bars : Records bar_size) (counts' : CardCounts)
    (behind : List ℕ) (notes' : Records note_size) (bars' : Records bar_size) : Type 0 where
  pub bar : Bar
  pub taken : bar_behind form counts.notes before ≡ some (bar, behind)
  pub notes_are : counts'.notes ≡ counts.notes + length bar.notes
  pub bars_are : counts'.bars ≡ counts.bars + 1
  pub notes_stored : Stores (each (note_words (counts.bars + 1)) bar.notes) notes notes'
  pub bars_stored : Stores (bar_words counts.notes bar) bars bars'

-- so many bars, and they are stored
pub record BarsRead (form : Form) (count : ℕ)
    (before : List ℕ) (notes : Records note_size) (bars : Records bar_size) (counts : CardCounts)
    (behind : List ℕ) (notes' : Records note_size) (bars' : Records bar_size) : Type 0 where
  pub list : List Bar
  pub taken : bars_taken form count before ≡ some (list, behind)
  pub notes_are : counts.notes ≡ note_count list
  pub bars_are : counts.bars ≡ count
  pub notes_stored : Stores (note_cells 1 list) notes notes'
  pub bars_stored : Stores (bar_cells 0 list) bars bars'

-- a whole card, and its records are stored
pub record CardRead (form : Form)
    (card : List ℕ) (notes : Records note_size) (bars : Records bar_size) (counts : CardCounts)
    (notes' : Records note_size) (bars' : Records bar_size) : Type 0 where
  pub list : List Bar
  pub taken : card_taken form card ≡ some list
  pub notes_are : counts.notes ≡ note_count list
  pub bars_are : counts.bars ≡ length list
  pub notes_stored : Stores (note_cells 1 list) notes notes'
  pub bars_stored : Stores (bar_cells 0 list) bars bars'

-- no record in cleared cells
pub record IsCleared {size : ℕ} (s : Records size) : Type 0 where
  pub blank : s.cells.now ≡ zeros (length s.cells.now)
  pub empty : s.count ≡ 0

-- the answer to this card, so much being lent as these cells are
abbrev pub answer_to : Form → List ℕ → List ℤ → List ℤ → Read
answer_to form card notes bars = read_of (length notes) (length bars) (card_taken form card)

-- the whole card is read and stored; or its refusal, before the cells are cleared
abbrev pub ReadsCard : Form → List ℕ → Result CardCounts CardError → List ℤ → List ℤ → Type 0
ReadsCard form card r notes bars = MatchResult r
    (λ counts. read_back (Ok counts) notes bars ≡ answer_to form card notes bars)
    (λ error. read_refused (error_number error) (length notes) (length bars)
    ≡ answer_to form card notes bars)
