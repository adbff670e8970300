use Rattle.std.proofs.Common.{◌≡◌}
use mathlib.Core.Option.{some}
use Rattle.cards.specs.Taken.{repeated, pitch_taken}
use Rattle.cards.specs.Values.{card_pitches}
use Rattle.cards.proofs.reading.CardReader.pitches.Given as goal

abbrev pub invariant-loop : goal.invariant-loop
invariant-loop g l = record {
  taken : repeated (λ _. pitch_taken g.W.PlaceWidth.form) l.counter l.initial.self.left.now ≡ some (card_pitches l.pitches, l.self.left.now);
  counted : l.pitches.count ≡ l.counter;
}
