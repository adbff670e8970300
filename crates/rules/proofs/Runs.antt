-- Laws of runs: what a scan that stands at an offset learns of the byte there, and how long a run is. Assumes nothing.
use Rattle.std.specs.Prelude.{if◌then◌else◌}
use Prim.Native.Nat.{ℕ, zero, suc, ◌+◌, ◌≤◌, ◌<◌}
use mathlib.Core.Path.{◌≡◌}
use mathlib.Core.Bool.{Bool, true, false, ◌&&◌, false≢true}
use mathlib.Core.List.{List, [], ◌∷◌}
use native.Mathlib.Omega.{arith}
use native.Mathlib.Numerals.{add-one}
use lib.ListN.{length, get_or, take, drop, drop_of_length-le}
use lib.Seq.{drop-cons}
use Rattle.rules.specs.Text.{run_length, every}

module _ (p : ℕ → Bool) (xs : List ℕ) (i : ℕ) where
  -- a byte of the class: the run is one longer than what follows
  pub run_more : i < length xs → p (get_or xs i 0) ≡ true → run_length p (drop i xs) ≡ 1 + run_length p (drop (i + 1) xs)
  run_more h t = rw (add-one, drop-cons xs i 0, t)

  -- another byte: the run ends
  pub run-stop : i < length xs → p (get_or xs i 0) ≡ false → run_length p (drop i xs) ≡ 0
  run-stop h t = rw (drop-cons xs i 0, t)

  -- the end of the list
  pub run_end : length xs ≤ i → run_length p (drop i xs) ≡ 0
  run_end h = rw (drop_of_length-le xs h)

-- a run is at most the whole
pub run-within : (p : ℕ → Bool) (xs : List ℕ) → run_length p xs ≤ length xs
run-within p [] = omega arith
run-within p (x ∷ xs) = at (p x) (run-within p xs)
  where
    at : (t : Bool) → run_length p xs ≤ length xs → (if t then 1 + run_length p xs else 0) ≤ suc (length xs)
    at true h = omega arith
    at false h = omega arith

-- where every byte of a beginning has the property, the run is its size and what follows it
pub run-over : (p : ℕ → Bool) (n : ℕ) (xs : List ℕ) → n ≤ length xs → every p (take n xs) ≡ true → run_length p xs ≡ n + run_length p (drop n xs)
run-over p zero xs h e = omega arith
run-over p (suc n) [] h e = absurd (omega arith)
run-over p (suc n) (x ∷ xs) h e = at (p x) (run-over p n xs (omega arith)) e
  where
    at : (t : Bool) → (every p (take n xs) ≡ true → run_length p xs ≡ n + run_length p (drop n xs)) → t && every p (take n xs) ≡ true
        → (if t then 1 + run_length p xs else 0) ≡ suc n + run_length p (drop n xs)
    at true f e = omega (arith, f e)
    at false f e = absurd (false≢true e)
