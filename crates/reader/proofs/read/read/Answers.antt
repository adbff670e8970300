use Rattle.std.proofs.Common.{rules, subst}
use lib.ListN.{length-replicate}
use Rattle.reader.specs.Answer.{lent_words, Reads}
use Rattle.reader.proofs.ReadLaws.{answers, answers_cleared, agrees_if, same_lent}
use Rattle.reader.proofs.read.read.Goals as goal

pub returns-then-is_err-clause-answered : goal.returns-then-is_err-clause-answered
returns-then-is_err-clause-answered c =
    let text = c.args.text.now in
    let r = c.read_text-result in
    let same = same_lent c.args.notes.now c.new-notes.result.cells.now c.args.bars.now c.new-bars.result.cells.now c.args.figure.now c.args.diagnostics.now c.new-diagnostics.result.list.now c.new-notes.ensures.cleared c.new-bars.ensures.cleared c.new-diagnostics.ensures.cleared in
    let reads = subst (λ l. Reads text l r.result r.new.notes.cells.now r.new.bars.cells.now r.new.diagnostics.list.now) same r.ensures.reads in
    answers_cleared text (lent_words c.args.notes.now c.args.bars.now c.args.figure.now c.args.diagnostics.now) r.result _ _ _ _ _ _ _ (search rules) (search rules) (search rules) (search rules) (search (rules, length-replicate)) reads

pub returns-else-is_err-clause-answered : goal.returns-else-is_err-clause-answered
returns-else-is_err-clause-answered c =
    let text = c.args.text.now in
    let r = c.read_text-result in
    let same = same_lent c.args.notes.now c.new-notes.result.cells.now c.args.bars.now c.new-bars.result.cells.now c.args.figure.now c.args.diagnostics.now c.new-diagnostics.result.list.now c.new-notes.ensures.cleared c.new-bars.ensures.cleared c.new-diagnostics.ensures.cleared in
    let reads = subst (λ l. Reads text l r.result r.new.notes.cells.now r.new.bars.cells.now r.new.diagnostics.list.now) same r.ensures.reads in
    let h = answers text (lent_words c.args.notes.now c.args.bars.now c.args.figure.now c.args.diagnostics.now) r.result r.new.notes.cells.now r.new.bars.cells.now c.fill.new.self r.new.diagnostics.list.now (search rules) (search rules) (search rules) (search rules) reads in
    search rules

pub returns-else-is_err-clause-agrees : goal.returns-else-is_err-clause-agrees
returns-else-is_err-clause-agrees c =
    let text = c.args.text.now in
    let r = c.read_text-result in
    let same = same_lent c.args.notes.now c.new-notes.result.cells.now c.args.bars.now c.new-bars.result.cells.now c.args.figure.now c.args.diagnostics.now c.new-diagnostics.result.list.now c.new-notes.ensures.cleared c.new-bars.ensures.cleared c.new-diagnostics.ensures.cleared in
    let reads = subst (λ l. Reads text l r.result r.new.notes.cells.now r.new.bars.cells.now r.new.diagnostics.list.now) same r.ensures.reads in
    let h = answers text (lent_words c.args.notes.now c.args.bars.now c.args.figure.now c.args.diagnostics.now) r.result r.new.notes.cells.now r.new.bars.cells.now c.fill.new.self r.new.diagnostics.list.now (search rules) (search rules) (search rules) (search rules) reads in
    let k = agrees_if text (lent_words c.args.notes.now c.args.bars.now c.args.figure.now c.args.diagnostics.now) r.result r.new.notes.cells.now r.new.bars.cells.now c.fill.new.self r.new.diagnostics.list.now h in
    search rules
