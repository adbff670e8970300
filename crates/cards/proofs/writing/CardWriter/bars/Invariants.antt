use Rattle.std.proofs.Common.{◌≡◌, ◌≤◌, ◌+◌, ◌*◌, length}
use Rattle.std.specs.Slice.Iter.{chunks_exact_rest, chunks_exact_size}
use Rattle.rules.specs.Limits.{bar_size, note_size}
use Rattle.cards.proofs.WriteLaws.{BarsFrom}
use Rattle.cards.proofs.writing.CardWriter.bars.Given as goal

abbrev pub invariant-loop-words : goal.invariant-loop-words
invariant-loop-words g l = record {
  size : chunks_exact_size l.words-iterator ≡ bar_size;
  few : l.number ≤ l.first + 1;
  within : l.first * note_size + length l.rest ≤ length l.notes;
  left : BarsFrom g.W.PlaceWidth.form l.notes l.bars l.initial.self l.number l.first l.rest (chunks_exact_rest l.words-iterator) l.self;
}
