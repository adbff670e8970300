-- What diagnostics say. Assumes nothing.
use Rattle.std.specs.Prelude.{◌≡◌, List, [], ◌∷◌, ℤ, pos, Option, None, Some}
use Rattle.std.specs.List.{cons_option}
use Rattle.rules.specs.Words.{position_words, value_words}
use Rattle.scan.specs.declared.lines.Line.{Line}
use Rattle.stores.specs.declared.diagnostic.At.{At}
use Rattle.stores.specs.declared.diagnostic.At.TheVariants as a
use Rattle.stores.specs.declared.diagnostic.Diagnostic.{Diagnostic}
use Rattle.stores.specs.declared.diagnostic.Remark.{Remark}
use Rattle.stores.specs.declared.diagnostic.Value.{Value}
use Rattle.stores.specs.Diagnostics.{remark_number, position_in, value_in}
use Rattle.tokens.specs.declared.cut.Place.{Place}
use Rattle.marks.specs.declared.findings.Finding.{Finding}
use Rattle.marks.specs.Records.{TheOne}

-- a word is the number of a remark
abbrev pub IsRemark : ℤ → Remark → Type 0
IsRemark word remark = pos (remark_number remark) ≡ word

-- two words say where
abbrev pub IsAt : ℤ → ℤ → At → Type 0
IsAt kind place at = position_words (position_in at) ≡ kind ∷ place ∷ []

-- three words are a value
abbrev pub IsValue : ℤ → ℤ → ℤ → Value → Type 0
IsValue kind start end value = value_words (value_in value) ≡ kind ∷ start ∷ end ∷ []

-- a diagnostic says this
pub record IsFinding (d : Diagnostic) (f : Finding) : Type 0 where
  pub remark : IsRemark d.number f.remark
  pub at : IsAt d.place_kind d.place f.at
  pub value : IsValue d.value_kind d.start d.end f.value

-- what is read of a diagnostic stands first, where anything is, and what is read of the others behind it
pub record Says (d : Diagnostic) (Others : List Finding → Type 0) (findings : List Finding) : Type 0 where
  pub first : Option Finding
  pub behind : List Finding
  pub read : TheOne (IsFinding d) first
  pub others : Others behind
  pub all : findings ≡ cons_option first behind

-- diagnostics say these, in their order
abbrev pub AreFindings : List Diagnostic → List Finding → Type 0
AreFindings [] findings = findings ≡ []
AreFindings (d ∷ behind) findings = Says d (AreFindings behind) findings

-- the place in the data, and the line
abbrev pub place_of : At → Option Place
place_of (a.Data place) = Some place
place_of at = None

abbrev pub line_of : At → Option Line
line_of (a.Line line) = Some line
line_of (a.Field line) = Some line
line_of (a.Data place) = None
