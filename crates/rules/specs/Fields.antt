-- Lines, fields and the data (specification, 4). Assumes nothing.
use Rattle.std.specs.Prelude.{ℕ, zero, suc, ◌+◌, Bool, false, not, ◌&&◌, ◌||◌, List, [], ◌∷◌, ◌++◌, take, drop, get_or, eqb, ltb, if◌then◌else◌}
use Prim.Native.Char.{code}
use Rattle.std.proofs.Math.Option
use Rattle.std.proofs.Math.Option.{Option, none, some}
use Rattle.rules.specs.Text.{bytes, is_alphabetic, run_length, begins, is_text, Part, end_of, without}
use Rattle.rules.specs.Characters.{trim}
use Rattle.rules.specs.Values.{no_alters, clef_of, key_of, meter_of}
use Rattle.rules.specs.Records.{◌or◌, given, is_empty, at_line, at_field, Value, text_part, Diagnostic}
use Rattle.rules.specs.Rules.{Attributes}
use Rattle.rules.specs.Diagnostics.{diagnostic, clef_diagnosed, key_diagnosed, meter_diagnosed}

-- ---- lines

-- a line: its number, from 1, and what stands in it, trimmed
pub record Line : Type 0 where
  pub number : ℕ
  pub content : Part

-- lines end at byte 10
abbrev pub line_size : List ℕ → ℕ
line_size xs = run_length (λ b. not (eqb b 10)) xs

abbrev pub line_at : ℕ → ℕ → List ℕ → Line
line_at number offset xs = record { number = number; content = trim (record { start = offset; bytes = take (line_size xs) xs }) }

-- the lines of a text after those of `before`, the latest first; the first `skip` bytes belong to the line before
unfoldable pub lines_after : ℕ → ℕ → ℕ → List ℕ → List Line → List Line
lines_after skip number offset [] before = before
lines_after zero number offset (b ∷ bs) before = lines_after (line_size (b ∷ bs)) (number + 1) (offset + 1) bs (line_at number offset (b ∷ bs) ∷ before)
lines_after (suc skip) number offset (b ∷ bs) before = lines_after skip number (offset + 1) bs before

-- the lines of a text, the latest first
abbrev pub lines_of : List ℕ → List Line
lines_of text = lines_after 0 1 0 text []

-- ---- fields

pub record Field : Type 0 where
  pub key : List ℕ
  pub value : Part

-- how many ASCII letters stand after the first byte
abbrev pub key_size : List ℕ → ℕ
key_size xs = run_length is_alphabetic (drop 1 xs)

-- a field line, trimmed, begins with `@`, one or more ASCII letters, `:`
abbrev pub is_field : List ℕ → Bool
is_field xs = begins (bytes "@") xs && ltb 0 (key_size xs) && eqb (get_or xs (1 + key_size xs) 0) (code ":")

-- the trimmed rest is its value
abbrev pub field_of : Line → Option Field
field_of l = let xs = l.content.bytes in
    if is_field xs then some (record { key = take (key_size xs) (drop 1 xs); value = trim (without (key_size xs + 2) l.content) }) else none

-- if any line is one, the text is in field form
abbrev pub has_field : List Line → Bool
has_field [] = false
has_field (l ∷ before) = is_field l.content.bytes || has_field before

-- ---- what fields set

abbrev pub is_key : List ℕ → Field → Bool
is_key name f = is_text name f.key

-- the attributes that the data starts with, and the data value
pub record Fields : Type 0 where
  pub attributes : Attributes
  pub data_value : Option Part

abbrev pub no_fields : Fields
no_fields = record { attributes = record { clef = none; fifths = none; key_alters = no_alters; meter = none }; data_value = none }

abbrev pub attributes_next : Field → Attributes → Attributes
attributes_next f s = let xs = f.value.bytes in record {
  clef = (if is_key (bytes "clef") f then (clef_of xs).clef else none) or s.clef;
  fifths = if is_key (bytes "keysig") f then some (key_of xs).fifths else s.fifths;
  key_alters = if is_key (bytes "keysig") f then (key_of xs).alters else s.key_alters;
  meter = (if is_key (bytes "timesig") f then meter_of xs else none) or s.meter;
}

-- the last data value is read
abbrev pub field_next : Field → Fields → Fields
field_next f s = record { attributes = attributes_next f s.attributes; data_value = if is_key (bytes "data") f then some f.value else s.data_value }

-- what lines set, the latest first
unfoldable pub fields_after : List Line → Fields
fields_after [] = no_fields
fields_after (l ∷ before) = given (field_of l) (fields_after before) (λ f. field_next f (fields_after before))

-- ---- what lines diagnose

-- the part of the text, by its offsets
abbrev pub part_value : Part → Value
part_value p = text_part p.start (end_of p)

-- keys other than clef, keysig, timesig, data d2. Only d2 has place kind 2; what else a line gives has kind 1
abbrev pub field_diagnosed : ℕ → Field → List Diagnostic
field_diagnosed n f = let xs = f.value.bytes in let value = part_value f.value in
    if is_key (bytes "clef") f then clef_diagnosed (at_line n) value (clef_of xs)
    else if is_key (bytes "keysig") f then key_diagnosed (at_line n) value (key_of xs)
    else if is_key (bytes "timesig") f then meter_diagnosed (at_line n) value (meter_of xs)
    else if is_key (bytes "data") f then []
    else diagnostic 2 (at_field n) value ∷ []

-- empty lines are skipped; other non-field lines are d1, the trimmed line their value
abbrev pub line_diagnosed : Line → List Diagnostic
line_diagnosed l = given (field_of l) (if is_empty l.content.bytes then [] else diagnostic 1 (at_line l.number) (part_value l.content) ∷ []) (field_diagnosed l.number)

unfoldable pub lines_diagnosed : List Line → List Diagnostic
lines_diagnosed [] = []
lines_diagnosed (l ∷ before) = line_diagnosed l ++ lines_diagnosed before

-- ---- the text

-- the text is in field form
abbrev pub in_field_form : List ℕ → Bool
in_field_form text = has_field (lines_of text)

-- the fields of a text; bare text has none, and is read untrimmed
unfoldable pub fields_of : List ℕ → Fields
fields_of text = if in_field_form text then fields_after (lines_of text) else record { attributes = no_fields.attributes; data_value = some (record { start = 0; bytes = text }) }

unfoldable pub fields_diagnosed : List ℕ → List Diagnostic
fields_diagnosed text = if in_field_form text then lines_diagnosed (lines_of text) else []

-- the data that is read
abbrev pub data_of : List ℕ → Part
data_of text = Option.get_or (fields_of text).data_value (record { start = 0; bytes = [] })
