use Rattle.std.proofs.Common.{◌≡◌}
use Rattle.tokens.specs.Steps.{edge_number}
use Rattle.reader.specs.Fields.{fields_in}
use Rattle.reader.proofs.FieldLaws.{Taken}
use Rattle.reader.proofs.fields.read_lines.Given as goal

abbrev pub invariant-loop-line : goal.invariant-loop-line
invariant-loop-line l = record {
  taken : Taken l.text l.line-iterator (fields_in l.fields) l.initial.diagnostics l.diagnostics;
  left : edge_number l.fields.attributes.left ≡ 0;
}
