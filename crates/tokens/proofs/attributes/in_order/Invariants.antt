use Rattle.std.proofs.Common.{◌≡◌, drop}
use Rattle.std.proofs.Math.Option.{none}
use Rattle.tokens.specs.Signs.{sign_in}
use Rattle.rules.specs.Text.{begins}
use Rattle.rules.specs.Values.{letters_from}
use Rattle.tokens.proofs.attributes.in_order.Given as goal

abbrev pub invariant-loop-byte : goal.invariant-loop-byte
invariant-loop-byte l = begins (letters_from none l.value) l.order ≡ begins (letters_from (sign_in l.sign) (drop l.byte-index l.value)) l.left
