use Rattle.std.proofs.Common.{◌≡◌, IsTrue, length}
use Rattle.rules.specs.Text.{every}
use Rattle.rules.specs.Cut.{is_duration}
use Rattle.rules.specs.Values.{capped, dots_at, pattern_of}
use Rattle.tokens.proofs.rhythm.three_dots.Given as goal

abbrev pub invariant-loop-few : goal.invariant-loop-few
invariant-loop-few l = record {
  whole : IsTrue (every is_duration l.few);
  dots : capped (dots_at l.few) ≡ capped (dots_at l.rest);
  lengths : pattern_of l.few ≡ pattern_of l.rest;
}

abbrev pub decreases-loop-few : goal.decreases-loop-few
decreases-loop-few l = length l.few
