-- A test that antt computes at every number below a bound, and what it says of each.
-- Assumes nothing.
use Prim.Native.Nat.{ℕ, zero, suc, ◌+◌, ◌-◌, ◌≤◌, ◌<◌}
use native.Mathlib.Nat.{not-suc-le-zero}
use native.Mathlib.Omega.{arith}
use native.Mathlib.Decide.{ℕ_discrete}
use mathlib.Core.Path.{◌≡◌, ap, subst, ◌∙◌}
use mathlib.Core.Bool.{Bool, true, ◌&&◌}
use borrow.Author.Tests.{eqb-true}
use lib.Dec.{eqb}
use Rattle.std.proofs.lemmas.Bool.{and_parts}

abbrev pub every_below : (ℕ → Bool) → ℕ → Bool
every_below p zero = true
every_below p (suc n) = p n && every_below p n

pub below : (p : ℕ → Bool) (n : ℕ) → every_below p n ≡ true → (k : ℕ) → k < n → p k ≡ true
below p zero t k h = absurd (not-suc-le-zero h)
below p (suc n) t k h = at (ℕ_discrete k n) (λ l. below p n (and_parts (p n) (every_below p n) t).1 k l)
  where
    at : Dec (k ≡ n) → (k < n → p k ≡ true) → p k ≡ true
    at (yes e) r = ap p e ∙ (and_parts (p n) (every_below p n) t).0
    at (no d) r = r (omega arith)

-- two functions that antt computes to agree at each of the n numbers from a on
pub agree : (f g : ℕ → ℕ) (a n : ℕ) → every_below (λ j. eqb (f (a + j)) (g (a + j))) n ≡ true → (k : ℕ) → a ≤ k → k < a + n → f k ≡ g k
agree f g a n t k l h =
    let e : a + (k - a) ≡ k = omega arith in
    subst (λ (m : ℕ). f m ≡ g m) e (eqb-true (f (a + (k - a))) (g (a + (k - a))) (below (λ (j : ℕ). eqb (f (a + j)) (g (a + j))) n t (k - a) (omega arith)))
