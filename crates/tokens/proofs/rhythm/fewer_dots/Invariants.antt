use Rattle.std.proofs.Common.{◌≡◌, IsTrue, length}
use Rattle.rules.specs.Text.{every}
use Rattle.rules.specs.Cut.{is_duration}
use Rattle.rules.specs.Values.{capped, dots_at, pattern_of}
use Rattle.tokens.proofs.rhythm.fewer_dots.Given as goal

abbrev pub invariant-loop-fewer : goal.invariant-loop-fewer
invariant-loop-fewer l = record {
  whole : IsTrue (every is_duration l.fewer);
  dots : capped (dots_at l.fewer) ≡ capped (dots_at l.rest);
  lengths : pattern_of l.fewer ≡ pattern_of l.rest;
}

abbrev pub decreases-loop-fewer : goal.decreases-loop-fewer
decreases-loop-fewer l = length l.fewer
