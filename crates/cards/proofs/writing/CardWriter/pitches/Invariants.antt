use Rattle.std.proofs.Common.{map, take}
use Rattle.cards.specs.Fields.{each}
use Rattle.cards.specs.Card.{pitch_bytes}
use Rattle.cards.specs.Values.{card_pitch}
use Rattle.cards.specs.Writer.{Wrote}
use Rattle.cards.proofs.writing.CardWriter.pitches.Given as goal

abbrev pub invariant-loop-pitch : goal.invariant-loop-pitch
invariant-loop-pitch g l =
    Wrote (each (pitch_bytes g.W.PlaceWidth.form) (map card_pitch (take l.pitch-index (take l.pitches.count l.pitches.list)))) l.initial.self l.self
