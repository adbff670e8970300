use Rattle.std.proofs.Common.{◌≡◌}
use Rattle.std.specs.Slice.Iter.{chunks_exact_rest, chunks_exact_size}
use Rattle.rules.specs.Limits.{note_size}
use Rattle.cards.proofs.WriteLaws.{NotesFrom}
use Rattle.cards.proofs.writing.CardWriter.notes.Given as goal

abbrev pub invariant-loop-own : goal.invariant-loop-own
invariant-loop-own g l = record {
  size : chunks_exact_size l.own-iterator ≡ note_size;
  left : NotesFrom g.W.PlaceWidth.form l.number l.words l.initial.self (chunks_exact_rest l.own-iterator) l.self;
}
