use Rattle.std.proofs.Common.{rules}
use Rattle.cards.proofs.ReadLaws.{answered_err, answered_ok}
use Rattle.cards.proofs.read.read_card.Goals as goal

pub returns-then-is_err : goal.returns-then-is_err
returns-then-is_err g c = answered_err c.card-read.new.notes.cells.now c.card-read.new.bars.cells.now c.card-read.result g.met.W.PlaceWidth.fits c.card-read.ensures.read c.new.ensures (search rules) (search rules) (search rules) (search rules) (search rules)

pub returns-else-is_err : goal.returns-else-is_err
returns-else-is_err g c = answered_ok c.card-read.new.notes.cells.now c.card-read.new.bars.cells.now c.card-read.result g.met.W.PlaceWidth.fits c.card-read.ensures.read c.new.ensures (search rules) (search rules) (search rules) (search rules) (search rules)
