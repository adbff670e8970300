use Rattle.std.proofs.Common.{rules}
use Rattle.marks.specs.Fates.{closes_beam, opens_beam}
use Rattle.marks.proofs.waiting.Fate.of_beam.Goals as goal

pub returns : goal.returns
returns c = search (rules, c.first_after-close.ensures closes_beam (search rules), c.first_after-other.ensures opens_beam (search rules))
