use Rattle.std.proofs.Common.{arith, ap, ◌∙◌, ◌-◌, length, drop, List, ℕ}
use lib.ListN.{replicate, length-drop}
use lib.Seq.{length-take-le}
use Rattle.cards.proofs.AnswerLaws.{answered}
use Rattle.cards.proofs.write.write_card.Goals as goal

pub returns : goal.returns
returns g c =
    let a = c.args in
    let after : List ℕ = c.put_card-result.new.card in
    let u : ℕ = c.unwrap_or.result in
    let size = length-take-le (length after - u) (drop u after) (omega (arith, length-drop u after)) in
    let cleared = c.fill.ensures.after (λ y e. e) ∙ ap (λ n. replicate n 0) size in
    rw (cleared, c.unwrap_or.ensures) (answered g.W.PlaceWidth.form (omega (arith, g.met.W.PlaceWidth.worded)) a.notes.now a.bars.now c.put_card-result.result a.card.now after c.put_card-result.ensures)
