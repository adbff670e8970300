-- Every accepted reading has a catalogue card: its words are those of records that a card holds. Assumes nothing.
use Prim.Native.Nat.{ℕ, ◌*◌}
use mathlib.Core.Path.{◌≡◌, ap, ◌∙◌}
use mathlib.Core.Bool.{true}
use mathlib.Core.List.{List}
use mathlib.Core.Option.{some}
use native.Mathlib.Omega.{arith}
use borrow.Author.Tests.{le-leb, lt-ltb}
use lib.ListN.{length, take}
use lib.Seq.{take_at}
use Rattle.rules.specs.Limits.{note_size, bar_size, note_limit}
use Rattle.rules.specs.Fields.{data_of}
use Rattle.rules.specs.Words.{padded}
use Rattle.rules.specs.Words as rules
use Rattle.rules.specs.Reading.{attributes_of, tokens_of, bars_of, records_of, reading, accepted, Lent, Reading}
use Rattle.rules.specs.Agreement.{All}
use Rattle.theorems.proofs.Accepted.{accepted-is}
use Rattle.theorems.proofs.Capacity.{notes-fit}
use Rattle.cards.specs.Fields.{every}
use Rattle.cards.specs.Card.{form1, such_bar, note_count, card_tests, such}
use Rattle.cards.specs.Card as card
use Rattle.cards.specs.Words.{note_cells, bar_cells}
use Rattle.cards.specs.Records.{such_cells}
use Rattle.cards.specs.Answers.{Holds, Write, write_of, Written}
use Rattle.cards.proofs.RoundTrip.{written_of}
use Rattle.cards.proofs.RecordLaws.{length-note-cells, length-bar-cells, cells-such}
use Rattle.cardtheorems.proofs.Fields.{attributes-in, data-short}
use Rattle.cardtheorems.proofs.Tokens.{items-in}
use Rattle.cardtheorems.proofs.States.{bars-in}
use Rattle.cardtheorems.proofs.Counts.{text-short, notes-few, bars-some}
use Rattle.cardtheorems.proofs.Turned.{turned, length-turned, hold, ◌also◌, no_more, every-turned}
use Rattle.cardtheorems.proofs.CardBars.{card_bar, Whole, all_whole, bar-such, count-turned, note-cells, bar-cells}

-- the bars that the card of a text holds
abbrev pub card_bars : List ℕ → List card.Bar
card_bars text = turned card_bar (bars_of text)

module _ (text : List ℕ) (lent : Lent) (e : (reading text lent).number ≡ 0) where
  bars-whole : All Whole (bars_of text)
  bars-whole = all_whole (bars_of text) (bars-in (attributes_of text) (tokens_of text) (attributes-in text) (items-in (data_of text) (omega (arith, data-short text, text-short text lent e)))) (notes-fit text lent e)

  bars-such : every (such_bar form1) (card_bars text) ≡ true
  bars-such = every-turned Whole card_bar (such_bar form1) bar-such (bars_of text) bars-whole

  records-such : such form1 (card_bars text) ≡ true
  unfolding such
  records-such =
      hold (card_tests form1 (card_bars text))
      (lt-ltb 0 (length (card_bars text)) (omega (arith, length-turned card_bar (bars_of text), bars-some text lent e))
      also le-leb (note_count (card_bars text)) note_limit (omega (arith, count-turned (bars_of text), notes-few text lent e))
      also bars-such
      also no_more)

  -- the words that are counted are the records'
  note-words : take (length (records_of text) * note_size) (padded lent.notes (rules.note_cells (bars_of text))) ≡ note_cells 1 (card_bars text)
  note-words =
      let same : rules.note_cells (bars_of text) ≡ note_cells 1 (card_bars text) = note-cells (bars_of text) bars-whole in
      take_at (rules.note_cells (bars_of text)) _ (length (records_of text) * note_size) (ap length same ∙ length-note-cells form1 1 (card_bars text) bars-such ∙ ap (λ (n : ℕ). n * note_size) (count-turned (bars_of text))) ∙ same

  bar-words : take (length (bars_of text) * bar_size) (padded lent.bars (rules.bar_cells (bars_of text))) ≡ bar_cells 0 (card_bars text)
  bar-words =
      let same : rules.bar_cells (bars_of text) ≡ bar_cells 0 (card_bars text) = bar-cells (bars_of text) bars-whole in
      take_at (rules.bar_cells (bars_of text)) _ (length (bars_of text) * bar_size) (ap length same ∙ length-bar-cells 0 (card_bars text) ∙ ap (λ (n : ℕ). n * bar_size) (length-turned card_bar (bars_of text))) ∙ same

  -- they are such bars, and the words are theirs
  pub reading-holds : Holds form1 (take ((reading text lent).notes * note_size) (reading text lent).note_cells) (take ((reading text lent).bars * bar_size) (reading text lent).bar_cells) (card_bars text)
  reading-holds =
      let is : reading text lent ≡ accepted text lent = accepted-is text lent e in
      record {
        are = records-such;
        note_words = ap (λ (r : Reading). take (r.notes * note_size) r.note_cells) is ∙ note-words;
        bar_words = ap (λ (r : Reading). take (r.bars * bar_size) r.bar_cells) is ∙ bar-words;
      }

-- every accepted reading consists of records that a card holds
pub reading-has-card : (text : List ℕ) (lent : Lent) → (reading text lent).number ≡ 0
    → such_cells form1 (take ((reading text lent).notes * note_size) (reading text lent).note_cells) (take ((reading text lent).bars * bar_size) (reading text lent).bar_cells) ≡ true
reading-has-card text lent e = cells-such form1 _ _ (card_bars text) (reading-holds text lent e)

-- so the writer's answer to one is its card, or 15 where the card doesn't fit
pub reading-written : (text : List ℕ) (lent : Lent) {size : ℕ} {w : Write} → (reading text lent).number ≡ 0
    → Written form1 (take ((reading text lent).notes * note_size) (reading text lent).note_cells) (take ((reading text lent).bars * bar_size) (reading text lent).bar_cells) size w → w ≡ write_of form1 size (some (card_bars text))
reading-written text lent e v = written_of form1 (card_bars text) (reading-holds text lent e) v
