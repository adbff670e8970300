use Prim.Native.Nat.{◌+◌, ◌-◌, ◌*◌}
use native.Mathlib.Omega.{arith}
use mathlib.Core.Path.{sym, ◌∙◌}
use mathlib.Core.Bool.{true, false}
use Rattle.stores.specs.Groups.{beamed_words}
use Rattle.stores.proofs.Parts.{put_record}
use Rattle.stores.proofs.GroupLaws.{timed_record, walked-part, walked-count}
use Rattle.stores.proofs.group.beam_each.Goals.{then-is_timed, else-is_timed}
use Rattle.stores.proofs.group.beam_each.Goals as goal

pub loop-k-preserved : goal.loop-k-preserved
loop-k-preserved c =
    let h = c.loop-k.invariant in
    let l = c.args.part.now in
    let p = c.loop-k.part in
    let f = beamed_words c.args.total in
    let k = c.loop-k.k in
    let n = k * 44 + 44 - k * 44 in
    let t = sym (timed_record p k n (omega arith)) ∙ sym c.is_timed.ensures in
    elim c.if-is_timed.branch [
      | then-is_timed w ↦ record {
        within = omega (arith, w.earlier-is, h.within);
        size = c.if-is_timed.auto.part ∙ h.size;
        part = w.part-is ∙ put_record k (f c.loop-k.earlier) p w.set_beam.new.words (omega arith) w.set_beam.ensures w.set_beam.auto.words ∙ walked-part f l k p c.loop-k.earlier true h.part h.earlier (t ∙ w.if-is_timed.true);
        earlier = w.earlier-is ∙ walked-count f l k p c.loop-k.earlier true h.part h.earlier (t ∙ w.if-is_timed.true);
      }
      | else-is_timed w ↦ record {
        within = omega (arith, w.earlier-is, h.within);
        size = c.if-is_timed.auto.part ∙ h.size;
        part = w.part-is ∙ walked-part f l k p c.loop-k.earlier false h.part h.earlier (t ∙ w.if-is_timed.false);
        earlier = w.earlier-is ∙ walked-count f l k p c.loop-k.earlier false h.part h.earlier (t ∙ w.if-is_timed.false);
      }
    ]
