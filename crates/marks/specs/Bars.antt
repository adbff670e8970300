-- The bars that words are. Assumes nothing.
use Rattle.std.specs.Prelude.{ℕ, ◌≡◌, ◌<◌, ⊤, List, [], ◌∷◌, ℤ, pos, Option, None, Some, FitsSigned, length, slice_index_or}
use Rattle.std.specs.Int.{w8}
use Rattle.std.proofs.Math.Option.{get_or}
use Rattle.rules.specs.Words.{key_words, meter_words}
use Rattle.tokens.specs.declared.attributes.Clef.{Clef}
use Rattle.tokens.specs.declared.attributes.Meter.{Meter}
use Rattle.tokens.specs.declared.attributes.Symbol.{Symbol}
use Rattle.tokens.specs.Attributes.{clef_in, meter_in, symbol_number}
use Rattle.tokens.specs.Steps.{edge_number}
use Rattle.stores.specs.Bars.{fifths_in}
use Rattle.stores.specs.declared.bar.Bar.{Bar}
use Rattle.marks.specs.Records.{word_of}

-- a word is the number of a clef, 0 of none
abbrev pub IsClef : ℤ → Option Clef → Type 0
IsClef word clef = pos (get_or (clef_in clef) 0) ≡ word

-- of a symbol, 0 of none
abbrev pub IsSymbol : ℤ → Option Symbol → Type 0
IsSymbol word symbol = pos (symbol_number symbol) ≡ word

-- numbers of one byte
abbrev pub FifthsFit : Option ℤ → Type 0
FifthsFit None = ⊤
FifthsFit (Some fifths) = FitsSigned w8 fifths

abbrev pub MeterFits : Option Meter → Type 0
MeterFits None = ⊤
MeterFits (Some m) = (m.numerator < 256) × (m.denominator < 256)

-- two words are those of a key
pub record IsKey (keyed fifths : ℤ) (key : Option ℤ) : Type 0 where
  pub words : key_words (fifths_in key) ≡ keyed ∷ fifths ∷ []
  pub fits : FifthsFit key

-- three words are those of a meter
pub record IsMeter (numerator denominator symbol : ℤ) (m : Option Meter) : Type 0 where
  pub words : meter_words (meter_in m) ≡ numerator ∷ denominator ∷ symbol ∷ []
  pub fits : MeterFits m

-- a bar has these words
pub record IsBar (words : List ℤ) (b : Bar) : Type 0 where
  pub first : pos b.first ≡ word_of words 0
  pub count : pos b.count ≡ word_of words 1
  pub clef : IsClef (word_of words 2) b.clef
  pub key : IsKey (word_of words 3) (word_of words 4) b.fifths
  pub meter : IsMeter (word_of words 5) (word_of words 6) (word_of words 7) b.meter
  pub left : pos (edge_number b.left) ≡ word_of words 8
  pub right : pos (edge_number b.right) ≡ word_of words 9

-- it is the bar of this number, from 0
pub record IsBarAt (records : List (List ℤ)) (number : ℕ) (b : Bar) : Type 0 where
  pub within : number < length records
  pub bar : IsBar (slice_index_or records number []) b
