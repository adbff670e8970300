use Rattle.cards.specs.ReadBack.{SameCells, NotesRead}
use Rattle.cards.proofs.reading.CardReader.notes.Given as goal

abbrev pub invariant-loop : goal.invariant-loop
invariant-loop g l = record {
  same_notes : SameCells l.initial.notes l.notes;
  read : NotesRead g.W.PlaceWidth.form l.counter l.number l.initial.self.left.now l.initial.notes l.self.left.now l.notes;
}
