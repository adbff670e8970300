use Rattle.std.proofs.Common.{rules}
use Rattle.marks.specs.Fates.{opens_note, is_grace}
use Rattle.marks.proofs.waiting.Fate.of_grace.Goals as goal

pub returns : goal.returns
returns c = search (rules, c.first_after-letter.ensures opens_note (search rules), c.first_after-other.ensures is_grace (search rules))
