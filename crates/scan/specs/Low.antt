-- The blanks below 128. Assumes nothing.
use Rattle.std.specs.Prelude.{ℕ, Bool, ◌&&◌, ◌||◌, eqb, leb}

-- the blanks below 128: 9 to 13 and 32
abbrev pub is_low_blank : ℕ → Bool
is_low_blank b = (leb 9 b && leb b 13) || eqb b 32
