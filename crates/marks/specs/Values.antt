-- What a mark's token says. Assumes nothing.
use Rattle.std.specs.Prelude.{Option, Some, None}
use Rattle.std.proofs.Math.Option as math

-- what is said, in the rules' words, if it is
abbrev pub said : {A B : Type 0} → (A → B) → Option A → math.Option B
said word (Some a) = math.some (word a)
said word None = math.none
