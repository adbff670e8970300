use Rattle.cards.specs.Fields.{in_row}
use Rattle.cards.specs.Card.{pitch_bytes}
use Rattle.cards.specs.Values.{card_pitch}
use Rattle.cards.proofs.JudgeLaws.{pitch_fits}
use Rattle.cards.proofs.PutLaws.{wrote_then}
use Rattle.cards.proofs.writing.CardWriter.pitch.Goals as goal

pub put-requires : goal.put-requires
put-requires g c = (pitch_fits g.W.PlaceWidth.form (card_pitch c.args.pitch) c.requires).high

pub returns : goal.returns
unfolding pitch_bytes in_row
returns g c = rw (← c.step_number.ensures.value) (wrote_then c.put.ensures c.append.ensures)
