use Rattle.std.proofs.Common.{rules}
use Rattle.reader.proofs.walk.Reader.clef.Goals as goal

pub returns-then-has_note-clause-clef : goal.returns-then-has_note-clause-clef
returns-then-has_note-clause-clef c = λ figure. let h = c.remark_alone.ensures.remarked figure in search rules
