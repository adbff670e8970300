-- The promise of `pae_read` from the contract of `read`. Assumes nothing.
use Rattle.std.specs.Prelude.{ℕ, ◌≡◌, List, ℤ, Result, Ok, Err, IfOk}
use Rattle.std.proofs.Common.{arith, ap}
use Rattle.rules.specs.Reading as rules
use Rattle.rules.specs.Reading.{Lent, reading}
use Rattle.rules.specs.Agreement.{Agrees}
use Rattle.stores.specs.declared.diagnostic.Diagnostic.{Diagnostic}
use Rattle.view.specs.declared.refusal.Refusal.{Refusal}
use Rattle.view.specs.declared.refusal.Refusal.TheVariants as r
use Rattle.view.specs.declared.refusal.Stop.{Stop}
use Rattle.view.specs.Refusals.{refusal_number}
use Rattle.reader.specs.Answer.{answer}
use Rattle.reader.specs.declared.read.Counts.{Counts}
use Rattle.cards.specs.Card.{Form}
use Rattle.cards.specs.Answers.{Written, ReadBack}
use Rattle.cards.specs.Written.{written}
use Rattle.cards.specs.ReadBack.{read_back}
use Rattle.cards.specs.declared.error.CardError.{CardError}
use Rattle.cards.specs.declared.read.CardCounts.{CardCounts}
use Rattle.pae.specs.Numbers.{reading_of, written_of, read_of}
use Rattle.pae.specs.Promise.{Promise}

-- a refusal's number isn't 0
numbered : (e : Refusal) → refusal_number e ≡ 0 → ⊥
numbered r.TooLong h = absurd (omega (arith, h))
numbered r.FewCells h = absurd (omega (arith, h))
numbered r.Malformed h = absurd (omega (arith, h))
numbered r.Blank h = absurd (omega (arith, h))
numbered r.NoData h = absurd (omega (arith, h))
numbered r.TooManyNotes h = absurd (omega (arith, h))
numbered r.NoNote h = absurd (omega (arith, h))
numbered r.NoPitch h = absurd (omega (arith, h))
numbered r.NoMark h = absurd (omega (arith, h))
numbered r.NoFigure h = absurd (omega (arith, h))
numbered r.NoBar h = absurd (omega (arith, h))
numbered r.NoRecord h = absurd (omega (arith, h))

-- a reading that agrees where it is accepted
pub promise : (text : List ℕ) (lent : Lent) (result : Result Counts Stop) (notes bars figure : List ℤ) (diagnostics : List Diagnostic) → answer result notes bars figure diagnostics ≡ reading text lent → IfOk result (λ counts. Agrees text counts.notes notes) → Promise text lent (reading_of result) notes bars figure diagnostics
promise text lent (Ok counts) notes bars figure diagnostics e a = record {
  number = ap (λ (x : rules.Reading). x.number) e;
  place = ap (λ (x : rules.Reading). x.place) e;
  note_count = ap (λ (x : rules.Reading). x.notes) e;
  bar_count = ap (λ (x : rules.Reading). x.bars) e;
  diagnostic_count = ap (λ (x : rules.Reading). x.diagnostics) e;
  note_cells = ap (λ (x : rules.Reading). x.note_cells) e;
  bar_cells = ap (λ (x : rules.Reading). x.bar_cells) e;
  figure_cells = ap (λ (x : rules.Reading). x.figure_cells) e;
  diagnostic_cells = ap (λ (x : rules.Reading). x.diagnostic_cells) e;
  agrees = λ _. a;
}
promise text lent (Err stop) notes bars figure diagnostics e a = record {
  number = ap (λ (x : rules.Reading). x.number) e;
  place = ap (λ (x : rules.Reading). x.place) e;
  note_count = ap (λ (x : rules.Reading). x.notes) e;
  bar_count = ap (λ (x : rules.Reading). x.bars) e;
  diagnostic_count = ap (λ (x : rules.Reading). x.diagnostics) e;
  note_cells = ap (λ (x : rules.Reading). x.note_cells) e;
  bar_cells = ap (λ (x : rules.Reading). x.bar_cells) e;
  figure_cells = ap (λ (x : rules.Reading). x.figure_cells) e;
  diagnostic_cells = ap (λ (x : rules.Reading). x.diagnostic_cells) e;
  agrees = λ h. absurd (numbered stop.refusal h);
}

-- ---- cards

pub written_promise : (form : Form) (notes bars : List ℤ) (size : ℕ) (result : Result ℕ CardError) (card : List ℕ) → Written form notes bars size (written result card) → Written form notes bars size (record { number = (written_of result).number; length = (written_of result).length; card = card })
written_promise form notes bars size (Ok n) card w = w
written_promise form notes bars size (Err e) card w = w

pub read_promise : (form : Form) (card : List ℕ) (note_words bar_words : ℕ) (result : Result CardCounts CardError) (notes bars : List ℤ) → ReadBack form card note_words bar_words (read_back result notes bars) → ReadBack form card note_words bar_words (record { number = (read_of result).number; notes = (read_of result).notes; bars = (read_of result).bars; note_cells = notes; bar_cells = bars })
read_promise form card note_words bar_words (Ok counts) notes bars r = r
read_promise form card note_words bar_words (Err e) notes bars r = r
