use Rattle.std.proofs.Common.{rules}
use Rattle.reader.proofs.walk.Reader.key.Goals as goal

pub returns-then-has_note-clause-key : goal.returns-then-has_note-clause-key
returns-then-has_note-clause-key c = λ figure. let h = c.remark_alone.ensures.remarked figure in search rules
