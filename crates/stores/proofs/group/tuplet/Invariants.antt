use Rattle.std.proofs.Common.{◌≡◌, length}
use Rattle.stores.specs.Groups.{walked, tupled_words}
use Rattle.stores.proofs.group.tuplet.Given as goal

abbrev pub invariant-loop-k : goal.invariant-loop-k
invariant-loop-k l = record {
  size : length l.part ≡ length l.initial.part;
  walked : l.part ≡ (walked (tupled_words l.actual l.normal) l.initial.part l.k).0;
}
