use Rattle.std.proofs.Common.{◌≡◌, take, Bool}
use Rattle.std.specs.Iterator.Adapters.{rev_source}
use Rattle.std.specs.Slice.Iter.{iter_rest}
use Rattle.marks.specs.declared.mark.Mark.{Mark}
use Rattle.marks.specs.LookBack.{Answers, latest_of}
use Rattle.marks.proofs.lookback.Marks.latest_since.Given as goal

abbrev pub invariant-loop-mark : goal.invariant-loop-mark
invariant-loop-mark g l =
    (p q : Mark → Bool) → Answers g.S.Fn l.sought p → Answers g.T.Fn l.stop q →
    latest_of p q (iter_rest (rev_source l.mark-iterator)) ≡ latest_of p q (take l.end l.self.list.items)
