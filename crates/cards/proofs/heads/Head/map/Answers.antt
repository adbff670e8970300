use native.Mathlib.Nat.{add-zero}
use Rattle.cards.specs.Fields.{bit_map}
use Rattle.cards.proofs.heads.Head.map.Goals as goal

pub returns : goal.returns
unfolding bit_map
returns c = rw (c.bit.ensures, c.bit-2.ensures, c.bit-3.ensures, c.bit-4.ensures, c.clef_number.ensures, c.meter_numbers-numerator.ensures.numerator, c.edge_number.ensures, c.edge_number-2.ensures, c.key_bit.ensures) (rw add-zero)
