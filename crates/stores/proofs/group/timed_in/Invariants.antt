use Rattle.std.proofs.Common.{◌≡◌, ◌≤◌, ◌-◌}
use Rattle.stores.specs.Groups.{timed_count, last_non_grace}
use Rattle.stores.proofs.group.timed_in.Given as goal

abbrev pub invariant-loop-k : goal.invariant-loop-k
invariant-loop-k l = record {
  count : l.timed.count ≡ timed_count l.part l.k;
  within : l.timed.count ≤ l.k;
  last : l.timed.last ≡ last_non_grace l.part l.k;
  last_within : l.timed.last ≤ l.k - 1;
}
