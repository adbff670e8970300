use Rattle.std.proofs.Common.{◌∙◌, sym}
use Rattle.tokens.proofs.KeyLaws.{run_all}
use Rattle.tokens.proofs.attributes.is_pure.Goals as goal

pub returns-then-in_order : goal.returns-then-in_order
returns-then-in_order c = rw (sym c.in_order.ensures ∙ c.if-in_order.true, c.run.ensures.size) (run_all c.args.other c.args.value.now)
