use Rattle.std.proofs.Common.{◌≡◌, ◌+◌, ◌-◌, ◌≤◌, length}
use Rattle.rules.specs.Characters.{non_blanks_size}
use Rattle.scan.proofs.characters.non_blanks_size.Given as goal

abbrev pub invariant-loop : goal.invariant-loop
invariant-loop l = record {
  within : length l.left ≤ length l.rest;
  size : length l.rest + non_blanks_size (l.most - l.counter) l.left ≡ length l.left + non_blanks_size l.most l.rest;
}
