use Rattle.std.proofs.Common.{◌≡◌, drop}
use Rattle.std.proofs.Math.Option.{none}
use Rattle.tokens.specs.Signs.{sign_in}
use Rattle.rules.specs.Values.{all_expected}
use Rattle.tokens.proofs.attributes.all_expected.Given as goal

abbrev pub invariant-loop-byte : goal.invariant-loop-byte
invariant-loop-byte l = all_expected none l.value ≡ all_expected (sign_in l.sign) (drop l.byte-index l.value)
