use mathlib.Core.List.{append-nil}
use Rattle.cards.specs.Fields.{in_row}
use Rattle.cards.specs.Card.{note_bytes}
use Rattle.cards.specs.Values.{card_note}
use Rattle.cards.proofs.JudgeLaws.{note_fits}
use Rattle.cards.proofs.PutLaws.{wrote_then}
use Rattle.cards.proofs.writing.CardWriter.note.Goals as goal

pub put-requires : goal.put-requires
put-requires g c = (note_fits g.W.PlaceWidth.form (card_note c.args.note.now) c.requires).high

pub counted_pitches-requires : goal.counted_pitches-requires
counted_pitches-requires g c = (note_fits g.W.PlaceWidth.form (card_note c.args.note.now) c.requires).all

pub returns : goal.returns
unfolding note_bytes in_row
returns g c =
    rw (append-nil, ← c.map.ensures, ← c.duration_number.ensures.value, ← c.kind_number.ensures)
    (wrote_then c.append.ensures (wrote_then c.put.ensures (wrote_then c.append-2.ensures (wrote_then c.field.ensures (wrote_then c.field-2.ensures
    (wrote_then c.field-3.ensures (wrote_then c.field-4.ensures (wrote_then c.under.ensures c.counted_pitches.ensures))))))))
