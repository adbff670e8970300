use Rattle.std.proofs.Common.{◌≡◌, length, take}
use Rattle.stores.proofs.copy.copy_words.Given as goal

abbrev pub invariant-loop-k : goal.invariant-loop-k
invariant-loop-k l = record {
  size : length l.target ≡ length l.source;
  copied : take l.k l.target ≡ take l.k l.source;
}
