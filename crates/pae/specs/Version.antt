-- Which reader this is, so that a stored reading or card can say what read it. Assumes nothing.
use Rattle.std.specs.Prelude.{ℕ}

-- raised by each landing after which some text, some records or some card may be answered otherwise than before
abbrev pub version : ℕ
version = 4
