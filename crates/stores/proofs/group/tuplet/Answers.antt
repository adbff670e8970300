use Prim.Native.Nat.{◌+◌, ◌-◌, ◌*◌}
use native.Mathlib.Omega.{arith}
use mathlib.Core.Path.{refl, sym, ◌∙◌}
use mathlib.Core.Bool.{true, false}
use Rattle.stores.specs.Groups.{walked, tupled_words}
use Rattle.stores.proofs.Parts.{put_record}
use Rattle.stores.proofs.GroupLaws.{timed_record, walked-part}
use Rattle.stores.proofs.group.tuplet.Goals.{then-is_timed, else-is_timed}
use Rattle.stores.proofs.group.tuplet.Goals as goal

pub loop-k-preserved : goal.loop-k-preserved
loop-k-preserved c =
    let h = c.loop-k.invariant in
    let l = c.args.part.now in
    let p = c.loop-k.part in
    let f = tupled_words c.args.actual c.args.normal in
    let k = c.loop-k.k in
    let n = k * 44 + 44 - k * 44 in
    let e = (walked f l k).1 in
    let t = sym (timed_record p k n (omega arith)) ∙ sym c.is_timed.ensures in
    record {
      size = c.if-is_timed.auto.part ∙ h.size;
      walked = elim c.if-is_timed.branch [
        | then-is_timed w ↦ w.part-is ∙ put_record k (f e) p w.set_tuplet.new.words (omega arith) w.set_tuplet.ensures w.set_tuplet.auto.words ∙ walked-part f l k p e true h.walked refl (t ∙ w.if-is_timed.true)
        | else-is_timed w ↦ w.part-is ∙ walked-part f l k p e false h.walked refl (t ∙ w.if-is_timed.false)
      ];
    }
