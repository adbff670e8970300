use Prim.Native.Nat.{◌+◌, ◌-◌, ◌*◌}
use native.Mathlib.Omega.{arith}
use mathlib.Core.Path.{ap, ◌∙◌}
use mathlib.Core.List.{List}
use lib.IntN.{ℤ}
use borrow.Rule.Slice.PartMut.{same_len_mid}
use Rattle.stores.specs.Cells.{record_at, with_record}
use Rattle.stores.specs.Copies.{copy_of}
use Rattle.stores.proofs.Parts.{put_other}
use Rattle.stores.proofs.CopyLaws.{copies-more}
use Rattle.stores.proofs.copy.copy_records.Goals as goal

pub loop-k-preserved : goal.loop-k-preserved
loop-k-preserved c =
    let a = c.args in
    let h = c.loop-k.invariant in
    let k = c.loop-k.k in
    let n = k * 44 + 44 - k * 44 in
    let copy = c.copy_record.new.target in
    let len = c.copy_record.auto.target in
    record {
      size = same_len_mid (k * 44) n c.loop-k.target copy len ∙ h.size;
      copied =
          put_other 44 k n k n (copy_of a.place.0 a.bar) c.loop-k.target a.source.now copy (omega arith) (omega arith) (omega (arith, h.size)) c.copy_record.ensures len
          ∙ ap (λ (m : List ℤ). with_record 44 m k (copy_of a.place.0 a.bar (record_at 44 a.source.now k))) h.copied
          ∙ copies-more a.place.0 a.bar a.target.now a.source.now k (omega arith) (omega arith);
    }
