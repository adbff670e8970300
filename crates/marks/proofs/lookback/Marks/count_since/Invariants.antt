use Rattle.std.proofs.Common.{◌≡◌, ◌+◌, ◌≤◌, length, take, Bool}
use Rattle.std.specs.Iterator.Adapters.{rev_source}
use Rattle.std.specs.Slice.Iter.{iter_rest}
use Rattle.marks.specs.declared.mark.Mark.{Mark}
use Rattle.marks.specs.LookBack.{Answers, count_of}
use Rattle.marks.proofs.lookback.Marks.count_since.Given as goal

abbrev pub invariant-loop-mark : goal.invariant-loop-mark
invariant-loop-mark g l =
    (l.count + length (iter_rest (rev_source l.mark-iterator)) ≤ length l.self.list.items)
    × ((p q : Mark → Bool) → Answers g.S.Fn l.sought p → Answers g.T.Fn l.stop q →
    l.count + count_of p q (iter_rest (rev_source l.mark-iterator)) ≡ count_of p q (take l.end l.self.list.items))
