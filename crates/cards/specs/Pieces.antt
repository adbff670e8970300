-- Bits of a map, and records of one size; no promise names it. Assumes nothing.
use Rattle.std.specs.Prelude.{ℕ, zero, suc, ◌/◌, ◌%◌, Bool, cond, List, [], ◌∷◌, drop, eqb, leb}
use Rattle.rules.specs.Limits.{pitch_capacity}

-- whether bit i stands
unfoldable pub bit_in : ℕ → ℕ → Bool
bit_in zero map = eqb (map % 2) 1
bit_in (suc i) map = bit_in i (map / 2)

-- `count` records of `size` places each
unfoldable pub parts : {A B : Type 0} → (List B → A) → ℕ → ℕ → List B → List A
parts f size zero l = []
parts f size (suc count) l = f l ∷ parts f size count (drop size l)

-- a count of pitches, not above what a record takes
abbrev pub capped : ℕ → ℕ
capped count = cond (leb count pitch_capacity) count pitch_capacity
