-- A number that may be absent, in the rules' words. Assumes nothing.
use Rattle.std.specs.Prelude.{ℕ, Option, Some, None}
use Rattle.std.proofs.Math.Option as math

-- the number, if there is one
abbrev pub number_in : Option ℕ → math.Option ℕ
number_in (Some n) = math.some n
number_in None = math.none
