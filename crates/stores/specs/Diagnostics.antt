-- Diagnostics as they are lent, and how they are stored in a list of any size. Assumes nothing.
use Rattle.std.specs.Prelude.{ℕ, ◌+◌, ◌<◌, ◌≡◌, if◌then◌else◌, nat_lt, List, [], ◌∷◌, ℤ, pos, length, slice_index_or, slice_set, replicate, ⊤}
use Rattle.rules.specs.Limits.{diagnostic_limit}
use Rattle.rules.specs.Records as rules
use Rattle.rules.specs.Words.{position_words, value_words}
use Rattle.stores.specs.declared.diagnostic.Diagnostic.{Diagnostic}
use Rattle.stores.specs.declared.diagnostic.Remark.{Remark}
use Rattle.stores.specs.declared.diagnostic.Remark.TheVariants as r
use Rattle.stores.specs.declared.diagnostic.At.{At}
use Rattle.stores.specs.declared.diagnostic.At.TheVariants as a
use Rattle.stores.specs.declared.diagnostic.Value.{Value}
use Rattle.stores.specs.declared.diagnostic.Value.TheVariants as v
use Rattle.stores.specs.Cells.{word_limit}

-- d1 to d20
abbrev pub remark_number : Remark → ℕ
remark_number r.NoField = 1
remark_number r.UnknownKey = 2
remark_number r.AfterNotes = 3
remark_number r.Mensural = 4
remark_number r.UnknownClef = 5
remark_number r.UnusualKey = 6
remark_number r.NoMeter = 7
remark_number r.OctaveRange = 8
remark_number r.LoneColon = 9
remark_number r.GroupInLaterBar = 10
remark_number r.TooFew = 11
remark_number r.GroupCount = 12
remark_number r.NoGroup = 13
remark_number r.TrillAlone = 14
remark_number r.NoRule = 15
remark_number r.TieAlone = 16
remark_number r.FigureInLaterBar = 17
remark_number r.NoFigure = 18
remark_number r.NoBarToRepeat = 19
remark_number r.WholeBarCount = 20

abbrev pub WritesRemark : Remark → ℤ → Type 0
WritesRemark remark word = word ≡ pos (remark_number remark)

-- ---- where, and the value

abbrev pub position_in : At → rules.Position
position_in (a.Line l) = rules.at_line l.0
position_in (a.Field l) = rules.at_field l.0
position_in (a.Data p) = rules.at_data p.0

abbrev pub value_in : Value → rules.Value
value_in (v.Part start end) = rules.text_part start.0 end.0
value_in v.Parentheses = rules.parentheses
value_in (v.Number n) = rules.number n

-- and they fit words
abbrev pub AtFits : At → Type 0
AtFits (a.Line l) = l.0 < word_limit
AtFits (a.Field l) = l.0 < word_limit
AtFits (a.Data p) = p.0 < word_limit

abbrev pub ValueFits : Value → Type 0
ValueFits (v.Part start end) = (start.0 < word_limit) × (end.0 < word_limit)
ValueFits v.Parentheses = ⊤
ValueFits (v.Number n) = n < word_limit

-- ---- as lent

abbrev pub word : List ℤ → ℕ → ℤ
word words k = slice_index_or words k (pos 0)

-- number, place kind, place, value kind, start, end
abbrev pub six_words : Diagnostic → List ℤ
six_words d = d.number ∷ d.place_kind ∷ d.place ∷ d.value_kind ∷ d.start ∷ d.end ∷ []

-- a diagnostic of the rules, as lent
abbrev pub lent_of : rules.Diagnostic → Diagnostic
lent_of d =
    let p = position_words d.position in
    let w = value_words d.value in
    record {
      number = pos d.number;
      place_kind = word p 0;
      place = word p 1;
      value_kind = word w 0;
      start = word w 1;
      end = word w 2;
    }

-- a cell that holds no diagnostic
abbrev pub blank : Diagnostic
blank = record { number = pos 0; place_kind = pos 0; place = pos 0; value_kind = pos 0; start = pos 0; end = pos 0 }

abbrev pub blanks : ℕ → List Diagnostic
blanks n = replicate n blank

-- ---- stored

-- at the count, where there is a cell
abbrev pub stored : List Diagnostic → ℕ → Diagnostic → List Diagnostic
stored list count d = if nat_lt count (length list) then slice_set list count d else list

-- the count after one more diagnostic
abbrev pub count_after : ℕ → ℕ
count_after count = if nat_lt count diagnostic_limit then count + 1 else count

-- the list after it: the first 1,024 are stored where there is room, others dropped
abbrev pub diagnosed : List Diagnostic → ℕ → Diagnostic → List Diagnostic
diagnosed list count d = if nat_lt count diagnostic_limit then stored list count d else list

-- the count and the list after all of these, the latest first
abbrev pub count_after_all : ℕ → List rules.Diagnostic → ℕ
count_after_all count [] = count
count_after_all count (d ∷ before) = count_after (count_after_all count before)

abbrev pub list_after_all : List Diagnostic → ℕ → List rules.Diagnostic → List Diagnostic
list_after_all list count [] = list
list_after_all list count (d ∷ before) =
    diagnosed (list_after_all list count before) (count_after_all count before) (lent_of d)
