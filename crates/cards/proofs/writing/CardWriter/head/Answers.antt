use mathlib.Core.List.{append-nil}
use Rattle.cards.specs.Fields.{in_row}
use Rattle.cards.specs.Card.{head_bytes}
use Rattle.cards.proofs.PutLaws.{wrote_then}
use Rattle.cards.proofs.writing.CardWriter.head.Goals as goal

pub returns : goal.returns
unfolding head_bytes in_row
returns c =
    let m = c.meter_numbers-numerator.ensures in
    rw (append-nil, ← c.map.ensures, ← c.clef_number.ensures, ← m.numerator, ← m.denominator, ← m.symbol, ← c.edge_number.ensures, ← c.edge_number-2.ensures)
    (wrote_then c.append.ensures (wrote_then c.four.ensures (wrote_then c.field.ensures (wrote_then c.key.ensures (wrote_then c.under.ensures (wrote_then c.field-2.ensures c.field-3.ensures))))))
