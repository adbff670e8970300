use Rattle.std.proofs.Common.{rules, ◌∙◌}
use Rattle.marks.specs.Marks.{items_in}
use Rattle.marks.proofs.MarksLaws.{items_push, next_push, marks_push, bytes_behind, behind_is}
use Rattle.marks.proofs.lookback.Marks.new.Goals as goal

pub loop-span-preserved : goal.loop-span-preserved
loop-span-preserved c = record {
  tokens = search (rules, items_push c.loop-span.list.items, c.in-Some.ensures.steps.left (items_in c.loop-span.list.items));
  rest = c.split_at.ensures.back ∙ behind_is _ _ _ _ (c.loop-span.invariant.rest ∙ c.in-Some.ensures.steps.parts);
  bytes = search (rules, bytes_behind c.loop-span.list.items, c.split_at.ensures.by_index.0, c.loop-span.invariant.bytes);
  next = search (rules, next_push c.args.notes.0.now 0 c.loop-span.list.items);
  within = search rules;
  records = search (rules, marks_push c.args.notes.0.now 0 0 c.loop-span.list.items);
}
