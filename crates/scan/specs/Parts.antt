-- Parts of a text, in the rules' words. Assumes nothing.
use Rattle.rules.specs.Text as rules
use Rattle.scan.specs.declared.lines.Part.{Part}

-- the part that it is
abbrev pub part_of : Part → rules.Part
part_of p = record { start = p.start.0; bytes = p.bytes.now }
