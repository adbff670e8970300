use Rattle.std.proofs.Common.{sym, ap, ◌∙◌}
use Rattle.std.proofs.Math.Option.{some}
use Rattle.rules.specs.Fields as fields
use Rattle.rules.specs.Fields.{fields_diagnosed}
use Rattle.rules.specs.Reading.{lent_records}
use Rattle.scan.specs.Parts.{part_of}
use Rattle.stores.specs.Diagnostics.{list_after_all, count_after_all}
use Rattle.view.specs.Refusals.{stop_in}
use Rattle.reader.specs.Fields.{data_in}
use Rattle.reader.specs.Answer.{lent_words}
use Rattle.reader.proofs.ReadLaws.{Fielded, entry_refused, no_data, no_data_in, reads_early, same_records, text_reads}
use Rattle.reader.proofs.read.read_text.Goals as goal

pub returns-in_err-check_text-clause-reads : goal.returns-in_err-check_text-clause-reads
returns-in_err-check_text-clause-reads c =
    let lent = lent_words c.args.notes.now.cells.now c.args.bars.now.cells.now c.args.figure.now c.args.diagnostics.now.list.now in
    reads_early c.args.text.now lent c.in_err-check_text.field-0.0 (entry_refused c.args.text.now (lent_records lent) c.in_err-check_text.ensures.checked) c.from_residual.result c.from_residual.ensures.0 c.from_residual.ensures.1 _ _ _

pub returns-in_default-clause-reads : goal.returns-in_default-clause-reads
returns-in_default-clause-reads c =
    let lent = lent_words c.args.notes.now.cells.now c.args.bars.now.cells.now c.args.figure.now c.args.diagnostics.now.list.now in
    no_data c.args.text.now (lent_records lent) c.in_ok-check_text.ensures.checked
    (sym (ap (λ (f : fields.Fields). f.data_value) c.fields_of-fields.ensures.fields) ∙ no_data_in c.fields_of-fields.result.data c.in_default.not-Some) ∙ ap (λ s. some (stop_in s)) (sym c.into.ensures)

pub returns-clause-reads : goal.returns-clause-reads
returns-clause-reads c =
    let text = c.args.text.now in
    let lent = lent_words c.args.notes.now.cells.now c.args.bars.now.cells.now c.args.figure.now c.args.diagnostics.now.list.now in
    let list_is = c.fields_of-fields.ensures.list ∙ (λ i. list_after_all (c.requires.diagnostics.list i) (c.requires.diagnostics.count i) (fields_diagnosed text)) in
    let f : Fielded text lent (part_of c.in-Some.data) _ _ _ _ = record {
      entry = c.in_ok-check_text.ensures.checked;
      enough = c.in_ok-check_text.ensures.enough;
      data_value = sym (ap (λ (f : fields.Fields). f.data_value) c.fields_of-fields.ensures.fields) ∙ ap data_in c.in-Some.is;
      attributes = ap (λ (f : fields.Fields). f.attributes) c.fields_of-fields.ensures.fields;
      records = same_records lent c.fields_of-fields.new.diagnostics.list.now (fields_diagnosed text) list_is;
      list = list_is;
      count = c.fields_of-fields.ensures.count ∙ ap (λ n. count_after_all n (fields_diagnosed text)) c.requires.diagnostics.count;
    } in
    text_reads f c.read_data.result c.read_data.new.notes.cells.now c.read_data.new.bars.cells.now c.read_data.new.diagnostics.list.now c.read_data.ensures.read
