use native.Mathlib.Nat.{one-mul}
use lib.Pow.{shl_exact}
use native.Mathlib.Omega.{arith}
use Rattle.stores.proofs.Bits.{power-of-two}
use Rattle.stores.proofs.note.mark_bit.Goals as goal

pub returns-then-trill-clause-value : goal.returns-then-trill-clause-value
returns-then-trill-clause-value c = rw (c.if-trill.true, power-of-two, shl_exact {a = 1} 1 c.args.count 32 (omega arith) (omega arith), one-mul)
