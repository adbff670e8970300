use Rattle.std.proofs.Common.{rules, subst}
use Rattle.rules.specs.Reading.{lent_records}
use Rattle.scan.specs.Parts.{part_of}
use Rattle.reader.specs.Fields.{attributes_in}
use Rattle.reader.specs.Answer.{lent_words, ReadsData}
use Rattle.reader.proofs.read.read_data.Goals as goal

pub returns-clause-read : goal.returns-clause-read
returns-clause-read c =
    let lent = lent_records (lent_words c.args.notes.now.cells.now c.args.bars.now.cells.now c.args.figure.now c.args.diagnostics.now.list.now) in
    let h = subst (λ a. ReadsData lent (attributes_in a) (part_of c.args.data) c.args.diagnostics.now.list.now c.args.diagnostics.now.count c.read_data.result c.read_data.new.self.notes.now.cells.now c.read_data.new.self.bars.now.cells.now c.read_data.new.self.diagnostics.now.list.now) c.new.ensures.attributes c.read_data.ensures.read in search rules

pub returns-clause-same_notes : goal.returns-clause-same_notes
returns-clause-same_notes c = let h = c.read_data.ensures.same.notes in let k = c.read_data.ensures.same.note_cells in search rules

pub returns-clause-same_bars : goal.returns-clause-same_bars
returns-clause-same_bars c = let h = c.read_data.ensures.same.bars in let k = c.read_data.ensures.same.bar_cells in search rules

pub returns-clause-same_list : goal.returns-clause-same_list
returns-clause-same_list c = let h = c.read_data.ensures.same.diagnostics in let k = c.read_data.ensures.same.list in search rules
