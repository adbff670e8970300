use Rattle.std.proofs.Common.{◌≡◌, ◌++◌, take}
use Rattle.rules.specs.Limits.{first_pitch}
use Rattle.cards.specs.Words.{note_words}
use Rattle.cards.specs.Values.{card_note}
use Rattle.cards.proofs.ReadLaws.{pitches_so_far}
use Rattle.cards.proofs.notes.Note.words.Given as goal

abbrev pub invariant-loop-i : goal.invariant-loop-i
invariant-loop-i g l = l.words ≡ take first_pitch (note_words l.bar (card_note l.self)) ++ pitches_so_far l.self l.i
