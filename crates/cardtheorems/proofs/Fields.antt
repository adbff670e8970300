-- What the fields set is in range, and the data is no longer than the text. Assumes nothing.
use Prim.Native.Nat.{ℕ, zero, suc, ◌+◌, ◌≤◌}
use mathlib.Core.Bool.{not, cond, ◌&&◌}
use mathlib.Core.Option.{Option, none, some, get_or}
use mathlib.Core.List.{List, [], ◌∷◌}
use native.Mathlib.Omega.{arith}
use lib.ListN.{length, take, drop, length-take, length-drop}
use Rattle.rules.specs.Text.{bytes, Part, without}
use Rattle.rules.specs.Characters.{continues, all_blank, blanks_size, trim_end, trim}
use Rattle.rules.specs.Values.{clef_of, meter_of}
use Rattle.rules.specs.Rules.{Attributes}
use Rattle.rules.specs.Fields.{line_size, line_at, lines_after, lines_of, key_size, is_field, field_of, is_key, no_fields, attributes_next, fields_after, in_field_form, fields_of, data_of, Line, Field, Fields}
use Rattle.rules.specs.Reading.{attributes_of}
use Rattle.rules.specs.Agreement.{All}
use Rattle.theorems.proofs.Lists.{cond_ind, given-ind}
use Rattle.cardtheorems.proofs.Ranges.{IfSome, or-in, given-in, AlterIn, FifthsIn, ClefIn, MeterIn, AttributesIn}
use Rattle.cardtheorems.proofs.Values.{clef-in, key_in, meter-in, no-alters-in}

-- ---- attributes

next-in : (f : Field) (k : Attributes) → AttributesIn k → AttributesIn (attributes_next f k)
next-in f k h = record {
  clef = or-in ClefIn (cond (is_key (bytes "clef") f) (clef_of f.value.bytes).clef none) k.clef (cond_ind (IfSome ClefIn) (is_key (bytes "clef") f) (clef-in f.value.bytes) tt) h.clef;
  fifths = cond_ind (IfSome FifthsIn) (is_key (bytes "keysig") f) (key_in f.value.bytes).fifths h.fifths;
  key_alters = cond_ind (All AlterIn) (is_key (bytes "keysig") f) (key_in f.value.bytes).alters h.key_alters;
  meter = or-in MeterIn (cond (is_key (bytes "timesig") f) (meter_of f.value.bytes) none) k.meter (cond_ind (IfSome MeterIn) (is_key (bytes "timesig") f) (meter-in f.value.bytes) tt) h.meter;
}

none_in : AttributesIn no_fields.attributes
none_in = record { clef = tt; fifths = tt; key_alters = no-alters-in; meter = tt }

fields_in : (ls : List Line) → AttributesIn (fields_after ls).attributes
unfolding fields_after
fields_in [] = none_in
fields_in (l ∷ before) = given-ind (λ (s : Fields). AttributesIn s.attributes) (field_of l) (fields_in before) (λ f. next-in f (fields_after before).attributes (fields_in before))

pub attributes-in : (text : List ℕ) → AttributesIn (attributes_of text)
unfolding fields_of
attributes-in text = cond_ind (λ (s : Fields). AttributesIn s.attributes) (in_field_form text) (fields_in (lines_of text)) none_in

-- ---- the data's length

trim-end-short : (xs : List ℕ) → length (trim_end xs) ≤ length xs
trim-end-short [] = omega arith
trim-end-short (x ∷ xs) = let h = trim-end-short xs in cond_ind (λ (l : List ℕ). length l ≤ suc (length xs)) (not (continues x) && all_blank (x ∷ xs)) (omega arith) (omega arith)

trim-short : (p : Part) → length (trim p).bytes ≤ length p.bytes
trim-short p = omega (arith, trim-end-short (drop (blanks_size p.bytes) p.bytes), length-drop (blanks_size p.bytes) p.bytes)

-- n bytes at most
module _ (n : ℕ) where
  abbrev Short : Line → Type 0
  Short l = length l.content.bytes ≤ n

  abbrev ShortPart : Part → Type 0
  ShortPart p = length p.bytes ≤ n

  lines-short : (skip number offset : ℕ) (xs : List ℕ) (before : List Line) → length xs ≤ n → All Short before → All Short (lines_after skip number offset xs before)
  unfolding lines_after
  lines-short skip number offset [] before e h = h
  lines-short zero number offset (x ∷ xs) before e h =
      let size : ℕ = line_size (x ∷ xs) in
      lines-short size (number + 1) (offset + 1) xs (line_at number offset (x ∷ xs) ∷ before) (omega arith)
      (omega (arith, trim-short (record { start = offset; bytes = take size (x ∷ xs) }), length-take size (x ∷ xs)), h)
  lines-short (suc skip) number offset (x ∷ xs) before e h = lines-short skip number (offset + 1) xs before (omega arith) h

  field-short : (l : Line) → Short l → IfSome (λ (f : Field). ShortPart f.value) (field_of l)
  field-short l h = cond_ind (IfSome (λ (f : Field). ShortPart f.value)) (is_field l.content.bytes)
      (omega (arith, trim-short (without (key_size l.content.bytes + 2) l.content), length-drop (key_size l.content.bytes + 2) l.content.bytes)) tt

  fields-short : (ls : List Line) → All Short ls → IfSome ShortPart (fields_after ls).data_value
  unfolding fields_after
  fields-short [] h = tt
  fields-short (l ∷ before) h = given-in (λ (f : Field). ShortPart f.value) (λ (s : Fields). IfSome ShortPart s.data_value) (field_of l) (field-short l h.0) (fields-short before h.1)
      (λ f g. cond_ind (IfSome ShortPart) (is_key (bytes "data") f) g (fields-short before h.1))

pub data-short : (text : List ℕ) → length (data_of text).bytes ≤ length text
unfolding fields_of
data-short text = of (fields_of text).data_value (cond_ind (λ (s : Fields). IfSome (ShortPart (length text)) s.data_value) (in_field_form text) (fields-short (length text) (lines_of text) (lines-short (length text) 0 1 0 text [] (omega arith) tt)) (omega arith))
  where
    of : (o : Option Part) → IfSome (ShortPart (length text)) o → length (get_or o (record { start = 0; bytes = [] })).bytes ≤ length text
    of none h = omega arith
    of (some p) h = h
