use Prim.Native.Nat.{◌-◌, ◌*◌}
use native.Mathlib.Omega.{arith}
use mathlib.Core.Path.{refl, ap, ◌∙◌}
use lib.ListN.{length}
use Rattle.stores.specs.Cells.{written}
use Rattle.stores.specs.Copies.{copies}
use Rattle.stores.proofs.CopyLaws.{put_behind, copies_part}
use Rattle.stores.proofs.copy.Records+NOTE.repeat_figure.Goals as goal

pub returns-clause-copied : goal.returns-clause-copied
returns-clause-copied c =
    let a = c.args in
    let s = a.self.now in
    put_behind (s.count * 44) (length s.cells.now - s.count * 44) s.cells.now c.copy_records.new.target (copies a.place.0 a.bar a.figure.now a.count) refl
    (c.copy_records.ensures ∙ ap (written _ 0) (copies_part a.place.0 a.bar a.figure.now (a.count * 44) a.count refl (omega arith)))
