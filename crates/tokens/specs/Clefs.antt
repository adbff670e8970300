-- The numbers of clefs and of a meter's symbols. Assumes nothing.
use Rattle.std.specs.Prelude.{ℕ}
use Rattle.tokens.specs.declared.attributes.Clef.{Clef}
use Rattle.tokens.specs.declared.attributes.Clef.TheVariants.{Treble, Treble8vb, Bass, Soprano, MezzoSoprano, Alto, Tenor, Baritone}
use Rattle.tokens.specs.declared.attributes.Symbol.{Symbol}
use Rattle.tokens.specs.declared.attributes.Symbol.TheVariants.{Common, Cut}

-- clefs count 1 to 8
abbrev pub clef_number : Clef → ℕ
clef_number Treble = 1
clef_number Treble8vb = 2
clef_number Bass = 3
clef_number Soprano = 4
clef_number MezzoSoprano = 5
clef_number Alto = 6
clef_number Tenor = 7
clef_number Baritone = 8

-- symbols count 1 and 2
abbrev pub symbol_word : Symbol → ℕ
symbol_word Common = 1
symbol_word Cut = 2
