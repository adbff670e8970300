use Rattle.std.specs.Prelude.{◌≡◌, length, take}
use Rattle.tokens.specs.Rhythm.{lengths_of, lengths_with}
use Rattle.tokens.proofs.rhythm.Kept.of_more.Given as goal

abbrev pub invariant-loop-count : goal.invariant-loop-count
invariant-loop-count l = record {
  size : length l.lengths ≡ 256;
  lengths : lengths_with (take l.count l.lengths) l.rest ≡ lengths_of l.pattern;
}
