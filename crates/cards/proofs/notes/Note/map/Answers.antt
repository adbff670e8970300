use native.Mathlib.Nat.{add-zero}
use Rattle.cards.specs.Fields.{bit_map}
use Rattle.cards.proofs.ValueLaws.{length_pitches}
use Rattle.cards.proofs.notes.Note.map.Goals as goal

pub returns : goal.returns
unfolding bit_map
returns c = rw (c.bit.ensures, c.bit-2.ensures, c.bit-3.ensures, c.bit-4.ensures, c.bit-5.ensures, c.bit-6.ensures, c.kind_number.ensures, length_pitches c.args.self.now.pitches) (rw add-zero)
