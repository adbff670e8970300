-- Laws of a meter's value: a `+` in front, a power of two, and the whole by its tests.
-- Assumes nothing.
use Prim.Native.Nat.{ℕ, ◌+◌, ◌<◌, ◌≤◌}
use mathlib.Core.Path.{◌≡◌, refl}
use mathlib.Core.Bool.{Bool, true, false, beq, false≢true}
use mathlib.Core.Option.{none, some}
use mathlib.Core.List.{List}
use borrow.Author.Tests.{lt-ltb, le-ltb}
use lib.Count.{ones, ones_in}
use lib.Dec.{eqb}
use lib.ListN.{length, take, drop}
use Rattle.rules.specs.Text.{bytes, is_text}
use Rattle.rules.specs.Values.{after_plus, count_of, is_power_of_two, slash_at, plain_meter, meter_of}
use Rattle.scan.proofs.Trims.{part_to_end}
use Rattle.tokens.proofs.Below.{below}

-- one bit is set exactly in the powers of two
power_test : ℕ → Bool
power_test n = beq (eqb (ones n) 1) (is_power_of_two n)

beq-true : (a b : Bool) → beq a b ≡ true → a ≡ b
beq-true true true t = refl
beq-true true false t = absurd (false≢true t)
beq-true false true t = absurd (false≢true t)
beq-true false false t = refl

pub ones_power : (n : ℕ) → n < 256 → eqb (ones n) 1 ≡ is_power_of_two n
unfolding power_test ones ones_in
ones_power n h = beq-true _ _ (below power_test 256 refl n h)

-- the meter, by the tests of its value
module _ (xs : List ℕ) where
  pub meter_common : is_text (bytes "c") xs ≡ true → meter_of xs ≡ some (record { numerator = 4; denominator = 4; symbol = 1 })
  unfolding meter_of
  meter_common t = rw t

  module _ (t : is_text (bytes "c") xs ≡ false) where
    pub meter_cut : is_text (bytes "c/") xs ≡ true → meter_of xs ≡ some (record { numerator = 2; denominator = 2; symbol = 2 })
    unfolding meter_of
    meter_cut u = rw (t, u)

    module _ (u : is_text (bytes "c/") xs ≡ false) where
      pub meter_plain : slash_at xs < length xs → meter_of xs ≡ plain_meter (count_of (after_plus (take (slash_at xs) xs))) (count_of (after_plus (drop (slash_at xs + 1) xs)))
      unfolding meter_of
      meter_plain h = rw (t, u, lt-ltb (slash_at xs) (length xs) h)

      pub meter_none : length xs ≤ slash_at xs → meter_of xs ≡ none
      unfolding meter_of
      meter_none h = rw (t, u, le-ltb (slash_at xs) (length xs) h)

pub ruleset meter_laws = (meter_common, meter_cut, meter_none, meter_plain, part_to_end)
