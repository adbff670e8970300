use Rattle.std.proofs.Common.{arith, ap, length}
use lib.Seq.{length-take-le}
use Rattle.cards.specs.Written.{records_in}
use Rattle.cards.proofs.RecordLaws.{cells-hold}
use Rattle.cards.proofs.SizeLaws.{card_most}
use Rattle.cards.proofs.WriteLaws.{put_over, put_whole}
use Rattle.cards.proofs.writing.CardWriter.card.Goals as goal

pub returns-then-self : goal.returns-then-self
returns-then-self g c =
    let r = c.in-Ok.ensures in
    record { same_card = r.same.same_card; puts = record { same_room = r.same.same_room; put = (r.wrote.0, put_over r.wrote.1 c.requires.front c.requires.room c.if-self.true) } }

pub returns : goal.returns
returns g c =
    let r = c.in-Ok.ensures in
    record { same_card = r.same.same_card; puts = record { same_room = r.same.same_room; put = (r.wrote.0, c.records.new.self.within, put_whole r.wrote.1 c.requires.front c.requires.room c.if-self.false) } }

pub overflow_cast-result : goal.overflow_cast-result
overflow_cast-result g c =
    let a = c.args in
    let form = g.W.PlaceWidth.form in
    let r = c.in-Ok.ensures in
    let w = c.records.new.self in
    let hold = cells-hold form (omega (arith, g.met.W.PlaceWidth.worded)) a.notes.now a.bars.now r.wrote.0 in
    let size = ap length (put_whole r.wrote.1 c.requires.front c.requires.room c.if-self.false) in
    record { fits = omega (arith, card_most form g.met.W.PlaceWidth.narrow (records_in a.notes.now a.bars.now) hold.are, size, length-take-le w.at w.card.now w.within) }
