use Rattle.cards.specs.ReadBack.{SameCells, BarsRead}
use Rattle.cards.proofs.reading.CardReader.bars.Given as goal

abbrev pub invariant-loop : goal.invariant-loop
invariant-loop g l = record {
  same_notes : SameCells l.initial.notes l.notes;
  same_bars : SameCells l.initial.bars l.bars;
  read : BarsRead g.W.PlaceWidth.form l.counter l.initial.self.left.now l.initial.notes l.initial.bars l.counts l.self.left.now l.notes l.bars;
}
