-- The fields of a text, in the rules' words, and what a field does by its key. Assumes nothing.
use Rattle.std.specs.Prelude.{ℕ, List, [], ◌∷◌, Option, Some, None}
use Rattle.std.proofs.Math.Option as math
use Rattle.rules.specs.Text as rules
use Rattle.rules.specs.Values.{clef_of, key_of, meter_of}
use Rattle.rules.specs.Records.{◌or◌, given, at_line, at_field, Diagnostic}
use Rattle.rules.specs.Rules.{Attributes}
use Rattle.rules.specs.Diagnostics.{diagnostic, clef_diagnosed, key_diagnosed, meter_diagnosed}
use Rattle.rules.specs.Fields as rules_fields
use Rattle.rules.specs.Fields.{Line, field_of, field_next, part_value}
use Rattle.scan.specs.declared.lines.Part.{Part}
use Rattle.scan.specs.declared.lines.FieldKey.{FieldKey}
use Rattle.scan.specs.declared.lines.FieldKey.TheVariants.{Clef, Keysig, Timesig, Data, Other}
use Rattle.scan.specs.Parts.{part_of}
use Rattle.tokens.specs.Attributes.{clef_in, meter_in}
use Rattle.stores.specs.Bars.{fifths_in}
use Rattle.reader.specs.declared.state.Attributes as state
use Rattle.reader.specs.declared.fields.Fields.{Fields}

-- the attributes that are set
abbrev pub attributes_in : state.Attributes → Attributes
attributes_in a = record { clef = clef_in a.clef; fifths = fifths_in a.fifths; key_alters = a.alters; meter = meter_in a.meter }

-- the data, if there is one
abbrev pub data_in : Option Part → math.Option rules.Part
data_in (Some p) = math.some (part_of p)
data_in None = math.none

abbrev pub fields_in : Fields → rules_fields.Fields
fields_in f = record { attributes = attributes_in f.attributes; data_value = data_in f.data }

-- ---- by the key of a field

-- what it sets: an attribute or the data
abbrev pub field_set : FieldKey → rules.Part → rules_fields.Fields → rules_fields.Fields
field_set Clef value s = record s { attributes = record s.attributes { clef = (clef_of value.bytes).clef or s.attributes.clef } }
field_set Keysig value s = record s { attributes = record s.attributes { fifths = math.some (key_of value.bytes).fifths; key_alters = (key_of value.bytes).alters } }
field_set Timesig value s = record s { attributes = record s.attributes { meter = meter_of value.bytes or s.attributes.meter } }
field_set Data value s = record s { data_value = math.some value }
field_set Other value s = s

-- what it diagnoses
abbrev pub field_remarks : FieldKey → ℕ → rules.Part → List Diagnostic
field_remarks Clef n value = clef_diagnosed (at_line n) (part_value value) (clef_of value.bytes)
field_remarks Keysig n value = key_diagnosed (at_line n) (part_value value) (key_of value.bytes)
field_remarks Timesig n value = meter_diagnosed (at_line n) (part_value value) (meter_of value.bytes)
field_remarks Data n value = []
field_remarks Other n value = diagnostic 2 (at_field n) (part_value value) ∷ []

-- ---- lines

-- what a line sets: nothing, if it is no field
abbrev pub line_next : Line → rules_fields.Fields → rules_fields.Fields
line_next l s = given (field_of l) s (λ f. field_next f s)
