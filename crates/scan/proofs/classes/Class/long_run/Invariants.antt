use Rattle.std.proofs.Common.{◌≡◌, ◌+◌, ◌-◌, ◌≤◌, length, drop}
use Rattle.rules.specs.Text.{run_length}
use Rattle.scan.specs.Classes.{in_class}
use Rattle.scan.proofs.classes.Class.long_run.Given as goal

abbrev pub invariant-loop-size : goal.invariant-loop-size
invariant-loop-size l = record {
  within : l.size ≤ length l.rest;
  run : run_length (in_class l.self) l.rest ≡ l.size + run_length (in_class l.self) (drop l.size l.rest);
}

abbrev pub decreases-loop-size : goal.decreases-loop-size
decreases-loop-size l = length l.rest - l.size
