use Rattle.std.proofs.Common.{◌≡◌, length}
use Rattle.stores.specs.Cells.{written}
use Rattle.stores.specs.Copies.{copies}
use Rattle.stores.proofs.copy.copy_records.Given as goal

abbrev pub invariant-loop-k : goal.invariant-loop-k
invariant-loop-k l = record {
  size : length l.target ≡ length l.initial.target;
  copied : l.target ≡ written l.initial.target 0 (copies l.place.0 l.bar l.source l.k);
}
