-- Tokens that are whole. Assumes nothing.
use Rattle.std.specs.Prelude.{ℕ, Bool, true, ◌&&◌, List, [], ◌∷◌, length, if◌then◌else◌}
use Rattle.rules.specs.Text.{is_digit, every, begins}
use Rattle.rules.specs.Cut.{is_duration}

-- digits and dots follow a digit
abbrev pub is_whole : ℕ → List ℕ → Bool
is_whole b bs = if is_digit b then every is_duration bs else true

-- a digit, and digits and dots behind it; or nothing
abbrev pub is_rest : List ℕ → Bool
is_rest [] = true
is_rest (b ∷ bs) = is_digit b && every is_duration bs

-- the length of the first of these that the text begins with, else 0
abbrev pub first_of : List (List ℕ) → List ℕ → ℕ
first_of [] xs = 0
first_of (t ∷ ts) xs = if begins t xs then length t else first_of ts xs
