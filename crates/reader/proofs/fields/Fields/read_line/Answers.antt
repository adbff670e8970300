use Rattle.scan.specs.Lines.{line_of, field_in}
use Rattle.reader.specs.Fields.{fields_in}
use Rattle.reader.proofs.FieldLaws.{field_sets, field_remarked}
use Rattle.reader.proofs.fields.Fields.read_line.Goals as goal

pub returns-in-Some-clause-fields : goal.returns-in-Some-clause-fields
returns-in-Some-clause-fields c =
    rw (field_sets (line_of c.args.line) (field_in c.in-Some.field) (fields_in c.args.self.now) c.in-Some.ensures, ← c.new.ensures) c.set.ensures.fields

pub returns-in-Some-clause-list : goal.returns-in-Some-clause-list
returns-in-Some-clause-list c = rw (field_remarked (line_of c.args.line) (field_in c.in-Some.field) c.in-Some.ensures, ← c.new.ensures) c.set.ensures.list

pub returns-in-Some-clause-count : goal.returns-in-Some-clause-count
returns-in-Some-clause-count c = rw (field_remarked (line_of c.args.line) (field_in c.in-Some.field) c.in-Some.ensures, ← c.new.ensures) c.set.ensures.count
