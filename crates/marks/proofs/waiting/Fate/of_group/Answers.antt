use Rattle.std.proofs.Common.{rules}
use Rattle.marks.specs.Fates.{closes_group, opens_group}
use Rattle.marks.proofs.waiting.Fate.of_group.Goals as goal

pub returns : goal.returns
returns c = search (rules, c.first_after-close.ensures closes_group (search rules), c.first_after-other.ensures opens_group (search rules))
