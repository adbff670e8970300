-- Lines and fields, in the rules' words. Assumes nothing.
use Rattle.std.specs.Prelude.{◌≡◌, ◌<◌, List, ◌∷◌, length, Option, MatchOption}
use Rattle.std.proofs.Math.Option.{none, some}
use Rattle.std.specs.Iterator.{Count, at_most}
use Rattle.rules.specs.Fields as rules
use Rattle.rules.specs.Fields.{lines_after, field_of}
use Rattle.scan.specs.declared.lines.TextLine.{TextLine}
use Rattle.scan.specs.declared.lines.Lines.{Lines}
use Rattle.scan.specs.declared.lines.Field.{Field}
use Rattle.scan.specs.Parts.{part_of}

-- the line that it is
abbrev pub line_of : TextLine → rules.Line
line_of l = record { number = l.number.0; content = part_of l.content }

-- the field that it is
abbrev pub field_in : Field → rules.Field
field_in f = record { key = f.key.now; value = part_of f.value }

-- the lines that are left, after those of `before`, the latest first
abbrev pub lines_left : Lines → List rules.Line → List rules.Line
lines_left s before = lines_after 0 s.number.0 s.rest.start.0 s.rest.bytes.now before

-- a line stands first, before what is left then
pub record IsFirstLine (s : Lines) (line : TextLine) (t : Lines) : Type 0 where
  pub shorter : length t.rest.bytes.now < length s.rest.bytes.now
  pub left : (before : List rules.Line) → lines_left s before ≡ lines_left t (line_of line ∷ before)

-- the next line is given, or there is none
abbrev pub GivesLine : Lines → Option TextLine → Lines → Type 0
GivesLine s r t =
    MatchOption r
    ((before : List rules.Line) → lines_left s before ≡ before)
    (λ line. IsFirstLine s line t)

-- no more lines are left than bytes
abbrev pub lines_at_most : Lines → Count
lines_at_most s = at_most (length s.rest.bytes.now)

-- the line is this field, or none
abbrev pub ReadsField : rules.Line → Option Field → Type 0
ReadsField line r = MatchOption r (field_of line ≡ none) (λ f. field_of line ≡ some (field_in f))
