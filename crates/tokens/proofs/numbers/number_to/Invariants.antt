use Rattle.std.proofs.Common.{◌≡◌, ◌≤◌, drop}
use Rattle.rules.specs.Values.{number_to}
use Rattle.tokens.proofs.NumberLaws.{number_from}
use Rattle.tokens.proofs.numbers.number_to.Given as goal

abbrev pub invariant-loop-digit : goal.invariant-loop-digit
invariant-loop-digit l = record {
  within : l.number ≤ l.limit;
  rest : number_to l.limit l.digits ≡ number_from l.limit l.number (drop l.digit-index l.digits);
}
