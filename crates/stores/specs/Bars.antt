-- A bar's words. Assumes nothing.
use Rattle.std.specs.Prelude.{ℕ, List, [], ◌∷◌, ◌++◌, ℤ, pos, Option, Some, None}
use Rattle.std.proofs.Math.Option as math
use Rattle.rules.specs.Values.{Meter}
use Rattle.rules.specs.Words.{key_words, meter_words}
use Rattle.tokens.specs.Attributes.{clef_in, meter_in}
use Rattle.tokens.specs.Steps.{edge_number}
use Rattle.stores.specs.declared.bar.Bar.{Bar}

-- the fifths that are set, if any
abbrev pub fifths_in : Option ℤ → math.Option ℤ
fifths_in (Some fifths) = math.some fifths
fifths_in None = math.none

-- what a bar's record says: first note, note count, clef, fifths, meter, left, right
pub record BarNumbers : Type 0 where
  pub first : ℕ
  pub count : ℕ
  pub clef : math.Option ℕ
  pub fifths : math.Option ℤ
  pub meter : math.Option Meter
  pub left : ℕ
  pub right : ℕ

-- what the code's bar says
abbrev pub numbers_of : Bar → BarNumbers
numbers_of b = record {
  first = b.first;
  count = b.count;
  clef = clef_in b.clef;
  fifths = fifths_in b.fifths;
  meter = meter_in b.meter;
  left = edge_number b.left;
  right = edge_number b.right;
}

-- its words: first note, note count, clef (0 none), key, meter, left, right
abbrev pub bar_numbers : BarNumbers → List ℤ
bar_numbers b =
    pos b.first ∷ pos b.count ∷ pos (math.get_or b.clef 0) ∷
    key_words b.fifths ++ meter_words b.meter ++ pos b.left ∷ pos b.right ∷ []
