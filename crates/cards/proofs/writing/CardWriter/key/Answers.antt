use Rattle.cards.proofs.PutLaws.{wrote_none}
use Rattle.cards.proofs.writing.CardWriter.key.Goals as goal

pub returns-in-None : goal.returns-in-None
returns-in-None c = rw c.in-None.is (wrote_none c.args.self.now)
