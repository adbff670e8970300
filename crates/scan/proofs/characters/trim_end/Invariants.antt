use Rattle.scan.proofs.Trims.{TrimmedFrom}
use Rattle.scan.proofs.characters.trim_end.Given as goal

abbrev pub invariant-loop-at : goal.invariant-loop-at
invariant-loop-at l = TrimmedFrom l.part l.at l.end

abbrev pub decreases-loop-at : goal.decreases-loop-at
decreases-loop-at l = l.at
