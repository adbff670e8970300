-- Clefs, keys and meters, in the rules' words. Assumes nothing.
use Rattle.std.specs.Prelude.{ℕ, Option, Some, None}
use Rattle.std.proofs.Math.Option as math
use Rattle.rules.specs.Values as rules
use Rattle.tokens.specs.declared.attributes.Clef.{Clef}
use Rattle.tokens.specs.declared.attributes.ClefValue.{ClefValue}
use Rattle.tokens.specs.declared.attributes.Key.{Key}
use Rattle.tokens.specs.declared.attributes.Symbol.{Symbol}
use Rattle.tokens.specs.declared.attributes.Meter.{Meter}
use Rattle.tokens.specs.Clefs.{clef_number, symbol_word}

-- the clef's number, if there is one
abbrev pub clef_in : Option Clef → math.Option ℕ
clef_in (Some c) = math.some (clef_number c)
clef_in None = math.none

-- what a clef's value says
abbrev pub clef_value : ClefValue → rules.Clef
clef_value v = record { clef = clef_in v.clef; mensural = v.mensural }

-- what a key's value says
abbrev pub key_value : Key → rules.Key
key_value k = record { alters = k.alters; fifths = k.fifths; standard = k.standard }

-- the number of a symbol; 0 is none
abbrev pub symbol_number : Option Symbol → ℕ
symbol_number (Some s) = symbol_word s
symbol_number None = 0

-- the meter that is set, if there is one
abbrev pub meter_in : Option Meter → math.Option rules.Meter
meter_in (Some m) = math.some (record {
  numerator = m.numerator;
  denominator = m.denominator;
  symbol = symbol_number m.symbol;
})
meter_in None = math.none
