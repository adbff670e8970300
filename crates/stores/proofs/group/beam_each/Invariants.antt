use Rattle.std.proofs.Common.{◌≡◌, ◌≤◌, length}
use Rattle.stores.specs.Groups.{walked, beamed_words}
use Rattle.stores.proofs.group.beam_each.Given as goal

abbrev pub invariant-loop-k : goal.invariant-loop-k
invariant-loop-k l = record {
  within : l.earlier ≤ l.k;
  size : length l.part ≡ length l.initial.part;
  part : l.part ≡ (walked (beamed_words l.total) l.initial.part l.k).0;
  earlier : l.earlier ≡ (walked (beamed_words l.total) l.initial.part l.k).1;
}
