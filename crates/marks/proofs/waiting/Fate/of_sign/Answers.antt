use Rattle.std.proofs.Common.{rules}
use Rattle.marks.specs.Fates.{is_letter, is_sign}
use Rattle.marks.proofs.waiting.Fate.of_sign.Goals as goal

pub returns : goal.returns
returns c = search (rules, c.first_after-letter.ensures is_letter (search rules), c.first_after-other.ensures is_sign (search rules))
