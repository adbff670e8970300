use Rattle.std.proofs.Common.{◌≡◌, ◌+◌, ◌/◌, ◌++◌, true, drop, length}
use Rattle.std.specs.Slice.Iter.{chunks_exact_rest, chunks_exact_size}
use Rattle.rules.specs.Limits.{pitch_size}
use Rattle.cards.specs.Fields.{every}
use Rattle.cards.specs.Pieces.{parts}
use Rattle.cards.specs.Judged.{pitch_of}
use Rattle.cards.specs.Card.{such_pitch}
use Rattle.cards.specs.Values.{card_pitches}
use Rattle.cards.proofs.ChunkLaws.{chunks}
use Rattle.cards.proofs.notes.Note.pitches_of_words.Given as goal

abbrev pub invariant-loop-own : goal.invariant-loop-own
invariant-loop-own g l = record {
  size : chunks_exact_size l.own-iterator ≡ pitch_size;
  counted : l.pitches.count + length (chunks_exact_rest l.own-iterator) / pitch_size ≡ l.count;
  are : card_pitches l.pitches ++ chunks pitch_of pitch_size (length (chunks_exact_rest l.own-iterator) / pitch_size) (chunks_exact_rest l.own-iterator) ≡ parts pitch_of pitch_size l.count (drop 12 l.words);
  such : every (such_pitch g.W.PlaceWidth.form) (card_pitches l.pitches) ≡ true;
}
