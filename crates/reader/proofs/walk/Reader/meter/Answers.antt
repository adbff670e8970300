use Rattle.std.proofs.Common.{rules}
use Rattle.reader.proofs.walk.Reader.meter.Goals as goal

pub returns-then-has_note-clause-meter : goal.returns-then-has_note-clause-meter
returns-then-has_note-clause-meter c = λ figure. let h = c.remark_alone.ensures.remarked figure in search rules
