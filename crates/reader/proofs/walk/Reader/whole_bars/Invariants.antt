use Rattle.std.specs.Prelude.{◌≡◌, ◌≤◌, ◌-◌, List, [], ℤ, Ok}
use Rattle.reader.specs.Reader.{view_of, SameBuffers}
use Rattle.view.specs.Ready.{Sound}
use Rattle.view.specs.Steps.{after_whole_bars}
use Rattle.reader.proofs.walk.Reader.whole_bars.Given as goal

abbrev pub invariant-loop : goal.invariant-loop
invariant-loop l = record {
  same : SameBuffers l.fn.self l.self;
  sound : Sound (view_of l.self []);
  some : 1 ≤ l.counter;
  within : l.counter - 1 ≤ l.count - 1;
  bars : (figure : List ℤ) → after_whole_bars l.span.place.0 (l.counter - 1) (view_of l.fn.self figure) ≡ Ok (view_of l.self figure);
}
