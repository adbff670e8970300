-- The classes of bytes, by the tests of the specification. Assumes nothing.
use Rattle.std.specs.Prelude.{ℕ, Bool, not, eqb}
use Rattle.rules.specs.Text.{is_digit, is_alphabetic}
use Rattle.rules.specs.Characters.{continues}
use Rattle.rules.specs.Cut.{is_duration, is_key_byte, is_meter_byte}
use Rattle.scan.specs.declared.classes.Class.{Class}
use Rattle.scan.specs.declared.classes.Class.TheVariants.{Is, Not, Continuations, Digits, Durations, KeyBytes, MeterBytes, Letters}

-- the bytes of each class
abbrev pub in_class : Class → ℕ → Bool
in_class (Is k) b = eqb b k
in_class (Not k) b = not (eqb b k)
in_class Continuations b = continues b
in_class Digits b = is_digit b
in_class Durations b = is_duration b
in_class KeyBytes b = is_key_byte b
in_class MeterBytes b = is_meter_byte b
in_class Letters b = is_alphabetic b
