-- The bits of marks. Assumes nothing.
use Prim.Native.Nat.{ℕ, zero, suc, ◌^◌}
use native.Mathlib.Omega.{arith}
use native.Mathlib.Nat.{pow-suc}
use mathlib.Core.Path.{◌≡◌, refl}
use Rattle.rules.specs.Words.{power_of_two}

pub power-of-two : (n : ℕ) → power_of_two n ≡ 2 ^ n
power-of-two zero = refl
power-of-two (suc n) = rw (pow-suc, power-of-two n) (omega arith)
