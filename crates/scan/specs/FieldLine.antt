-- A line's bytes as a field. Assumes nothing.
use Rattle.std.specs.Prelude.{ℕ, Bool, List}
use Rattle.rules.specs.Characters.{trim}
use Rattle.rules.specs.Fields.{is_field}

-- a line is a field, once it is trimmed
abbrev pub is_field_line : List ℕ → Bool
is_field_line xs = is_field (trim (record { start = 0; bytes = xs })).bytes
