-- The keys of fields (specification, 4). Assumes nothing.
use Rattle.std.specs.Prelude.{ℕ, List, if◌then◌else◌}
use Rattle.rules.specs.Text.{bytes, is_text}
use Rattle.scan.specs.declared.lines.FieldKey.{FieldKey}
use Rattle.scan.specs.declared.lines.FieldKey.TheVariants.{Clef, Keysig, Timesig, Data, Other}

-- clef, keysig, timesig, data, or another
abbrev pub field_key_of : List ℕ → FieldKey
field_key_of name =
    if is_text (bytes "clef") name then Clef
    else if is_text (bytes "keysig") name then Keysig
    else if is_text (bytes "timesig") name then Timesig
    else if is_text (bytes "data") name then Data
    else Other
