use Rattle.std.proofs.Common.{◌≡◌, ◌≤◌, ◌+◌, ◌-◌, length}
use Rattle.rows.specs.Shown.{beginning_size}
use Rattle.rows.proofs.characters.beginning.Given as goal

abbrev pub invariant-loop : goal.invariant-loop
invariant-loop l = record {
  within : length l.rest ≤ length l.text;
  size : length l.text - length l.rest + beginning_size (l.most - l.counter) l.rest ≡ beginning_size l.most l.text;
}
