use Rattle.std.proofs.Common.{◌≡◌, drop}
use Rattle.std.proofs.Math.Option.{none}
use Rattle.tokens.specs.Signs.{sign_in}
use Rattle.rules.specs.Values.{alters_from}
use Rattle.tokens.proofs.attributes.alters_of.Given as goal

abbrev pub invariant-loop-byte : goal.invariant-loop-byte
invariant-loop-byte l = alters_from l.initial.alters none l.value ≡ alters_from l.alters (sign_in l.sign) (drop l.byte-index l.value)
