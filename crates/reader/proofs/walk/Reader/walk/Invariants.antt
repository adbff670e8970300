use Rattle.scan.specs.Parts.{part_of}
use Rattle.reader.specs.Reader.{view_of, SameBuffers}
use Rattle.view.specs.Run.{Walked}
use Rattle.reader.proofs.walk.Reader.walk.Given as goal

abbrev pub invariant-loop-span : goal.invariant-loop-span
invariant-loop-span l = record {
  same : SameBuffers l.initial.self l.self;
  walked : Walked (view_of l.initial.self l.initial.figure) (part_of l.«data») l.span-iterator (view_of l.self l.figure);
}
