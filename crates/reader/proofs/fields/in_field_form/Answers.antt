use Rattle.std.proofs.Common.{rules, tests, ◌∙◌}
use Rattle.std.proofs.lemmas.Iterator.Search.{any_from_yields_List}
use Rattle.std.proofs.lemmas.Iterator.Splits.{YieldsList-from_slice_split}
use Rattle.scan.specs.FieldLine.{is_field_line}
use Rattle.reader.proofs.FieldLaws.{field_form}
use Rattle.reader.proofs.fields.in_field_form.Goals as goal

pub returns : goal.returns
returns c =
    any_from_yields_List is_field_line _ _ _ c.any.ensures.ran
    (YieldsList-from_slice_split _ _ c.args.text.now c.split.ensures.rest c.split.ensures.done c.split.ensures.closure (λ x r q k. search (rules, tests)))
    (λ line b q k. search rules)
    ∙ field_form c.args.text.now
