use Prim.Native.Nat.{ℕ, ◌+◌, ◌-◌, ◌*◌, ◌%◌, ◌^◌}
use native.Mathlib.Omega.{arith}
use lib.Count.{count_leading_zeros}
use Rattle.rules.specs.Values.{normal_of}
use mathlib.Core.Path.{refl}
use Rattle.tokens.proofs.Below.{agree}
use Rattle.tokens.proofs.rhythm.normal_of.Goals as goal

-- Both counts are computed at each number from 3 to 255.
abbrev zeros : ℕ → ℕ
zeros actual = count_leading_zeros 8 (actual - 1)

pub overflow_sub-result : goal.overflow_sub-result
unfolding count_leading_zeros
overflow_sub-result c =
    omega (arith, agree (λ (n : ℕ). 7 - zeros n + zeros n) (λ (n : ℕ). 7) 3 253 refl c.args.actual (omega arith) (omega arith))

pub returns : goal.returns
unfolding count_leading_zeros
returns c = agree (λ (n : ℕ). 1 * 2 ^ (7 - zeros n) % 256) normal_of 3 253 refl c.args.actual (omega arith) (omega arith)
