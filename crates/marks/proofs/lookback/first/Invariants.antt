use Rattle.std.proofs.Common.{◌≡◌, drop, Bool}
use Rattle.marks.specs.declared.mark.Mark.{Mark}
use Rattle.marks.specs.LookBack.{Answers, first_of}
use Rattle.marks.proofs.lookback.first.Given as goal

abbrev pub invariant-loop-mark : goal.invariant-loop-mark
invariant-loop-mark g l = (p : Mark → Bool) → Answers g.S.Fn l.sought p → first_of p (drop l.mark-index l.marks) ≡ first_of p l.marks
