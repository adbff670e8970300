-- std's word for White_Space is ours, of every number.
use Rattle.std.proofs.Common.{◌≡◌, ℕ, Bool, true, false, nat_lt, arith}
use Rattle.std.specs.Prelude.{◌&&◌, ◌||◌, ◌==◌, refl}
use Rattle.std.specs.Char.{is_whitespace, OutOfScalarRange}
use Rattle.std.proofs.lemmas.Bool.Decides.{nat_tests}
use Rattle.rules.specs.Characters.{within_one, within, white_space}

low : (c : ℕ) → (nat_lt 8 c && nat_lt c 14) ≡ within (9, 13) c
low c = grind (arith, nat_tests)

spaces : (c : ℕ) → (nat_lt 8191 c && nat_lt c 8203) ≡ within (8192, 8202) c
spaces c = grind (arith, nat_tests)

point : (k c : ℕ) → (c == k) ≡ within (k, k) c
point k c = grind (arith, nat_tests)

pair : (c : ℕ) (rest : Bool) → ((c == 8232) || ((c == 8233) || rest)) ≡ (within (8232, 8233) c || rest)
pair c rest = grind (arith, nat_tests)

or_assoc : (x y z : Bool) → ((x || y) || z) ≡ (x || (y || z))
or_assoc true y z = refl
or_assoc false y z = refl

pub white_agrees : (c : ℕ) → is_whitespace c ≡ within_one white_space c
white_agrees c = grind (arith, nat_tests, low c, spaces c, point 32 c, point 133 c, point 160 c, point 5760 c, point 8239 c, point 8287 c, point 12288 c, pair c, or_assoc)

-- a number that is no code point is no White_Space
pub white_scalar : (c : ℕ) → OutOfScalarRange c → within_one white_space c ≡ false
white_scalar c h = grind (arith, nat_tests)
