use Prim.Native.Nat.{◌+◌, ◌-◌, ◌*◌}
use native.Mathlib.Omega.{arith}
use Rattle.stores.proofs.CopyLaws.{copied_behind}
use Rattle.stores.proofs.copy.copy_behind.Goals as goal

pub returns : goal.returns
returns c =
    let a = c.args in
    let s = c.split_at_mut-front.ensures in
    rw (c.copy_records.ensures, s.front, s.back) (copied_behind a.place.0 a.bar a.cells.now (a.from * 44) (a.to * 44) ((a.from + a.count) * 44 - a.from * 44) a.count (omega arith) (omega arith) (omega arith))
