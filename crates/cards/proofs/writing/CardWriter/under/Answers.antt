use Rattle.cards.proofs.PutLaws.{wrote_none}
use Rattle.cards.proofs.writing.CardWriter.under.Goals as goal

pub returns-else-bit : goal.returns-else-bit
returns-else-bit c = rw c.if-bit.false (wrote_none c.args.self.now)

pub returns-then-bit : goal.returns-then-bit
returns-then-bit c = rw c.if-bit.true c.append.ensures
