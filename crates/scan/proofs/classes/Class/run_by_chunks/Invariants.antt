use Rattle.std.proofs.Common.{◌≡◌, ◌+◌, drop}
use Rattle.rules.specs.Text.{run_length}
use Rattle.scan.specs.Classes.{in_class}
use Rattle.scan.proofs.classes.Class.run_by_chunks.Given as goal

abbrev pub invariant-loop-size : goal.invariant-loop-size
invariant-loop-size l = record {
  run : run_length (in_class l.self) l.rest ≡ l.size + run_length (in_class l.self) (drop l.size l.rest);
}
