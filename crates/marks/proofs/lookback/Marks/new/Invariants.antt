use Rattle.std.proofs.Common.{◌≡◌, ◌≤◌, ◌++◌, length}
use Rattle.rules.specs.Tokens.{items_of}
use Rattle.scan.specs.Parts.{part_of}
use Rattle.tokens.specs.Spans.{items_left}
use Rattle.marks.specs.Marks.{items_in, bytes_in, AreMarks}
use Rattle.marks.proofs.MarksLaws.{next_after}
use Rattle.marks.proofs.lookback.Marks.new.Given as goal

abbrev pub invariant-loop-span : goal.invariant-loop-span
invariant-loop-span l = record {
  tokens : items_left l.span-iterator (items_in l.list.items) ≡ items_of (part_of l.«data»);
  rest : l.rest ≡ l.span-iterator.rest.bytes.now;
  bytes : bytes_in l.list.items ++ l.rest ≡ l.«data».bytes.now;
  next : l.next ≡ next_after l.notes.0.now 0 l.list.items;
  within : l.next ≤ length l.notes.0.now;
  records : AreMarks l.notes.0.now 0 0 l.list.items;
}
