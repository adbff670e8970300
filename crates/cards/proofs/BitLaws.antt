-- Bits of a map. Assumes nothing.
use Prim.Native.Nat.{ℕ, zero, suc, ◌/◌, ◌%◌, ◌^◌}
use native.Mathlib.Nat.{pow-suc, div-div-eq-div-mul, div-one, mul_comm}
use mathlib.Core.Path.{◌≡◌}
use lib.Dec.{eqb}
use Rattle.cards.specs.Pieces.{bit_in}

pub bit_shifted : (i map : ℕ) → bit_in i map ≡ eqb (map / 2 ^ i % 2) 1
unfolding bit_in
bit_shifted zero map = rw div-one
bit_shifted (suc i) map = let e : map / 2 ^ suc i ≡ map / 2 / 2 ^ i = rw (pow-suc, mul_comm, div-div-eq-div-mul) in rw e (bit_shifted i (map / 2))

pub ruleset shifts = (bit_shifted)
