use Rattle.std.proofs.Common.{◌+◌, ◌≤◌, length}
use Rattle.marks.proofs.MarksLaws.{SoFar}
use Rattle.marks.proofs.lookback.enter_marks.Given as goal

abbrev pub invariant-loop-first : goal.invariant-loop-first
invariant-loop-first l = record {
  state : SoFar l.notes.0.now l.«data» l.fn.list l.list l.characters l.rest l.next l.count;
  within : l.next ≤ length l.notes.0.now;
  bound : l.count + length l.rest ≤ length l.«data»;
  characters : l.characters + length l.rest ≤ length l.«data»;
}

abbrev pub decreases-loop-first : goal.decreases-loop-first
decreases-loop-first l = length l.rest
