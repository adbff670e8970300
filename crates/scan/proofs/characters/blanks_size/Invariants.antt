use Rattle.std.proofs.Common.{◌≡◌, ◌+◌, ◌-◌, ◌≤◌, length, drop}
use Rattle.rules.specs.Characters.{blanks_size}
use Rattle.scan.proofs.characters.blanks_size.Given as goal

abbrev pub invariant-loop-size : goal.invariant-loop-size
invariant-loop-size l = record {
  within : l.size ≤ length l.rest;
  rest : l.size + blanks_size (drop l.size l.rest) ≡ blanks_size l.rest;
}

abbrev pub decreases-loop-size : goal.decreases-loop-size
decreases-loop-size l = length l.rest - l.size
