use Rattle.std.proofs.Common.{rules}
use Rattle.reader.proofs.walk.Reader.group_close.Goals as goal

pub returns-then-in_its_bar-clause-closed : goal.returns-then-in_its_bar-clause-closed
returns-then-in_its_bar-clause-closed c = λ figure. let h = c.close.ensures.closed figure in search rules
