use Prim.Native.Nat.{◌+◌, ◌-◌, ◌*◌}
use native.Mathlib.Omega.{arith}
use mathlib.Core.Bool.{true, false}
use mathlib.Core.Path.{◌≡◌, sym, ◌∙◌}
use Rattle.std.proofs.Common.{rules}
use Rattle.stores.specs.Groups.{timed_at}
use Rattle.stores.proofs.GroupLaws.{timed_record}
use Rattle.stores.proofs.group.timed_in.Goals.{then-is_timed, else-is_timed}
use Rattle.stores.proofs.group.timed_in.Goals as goal

pub loop-k-preserved : goal.loop-k-preserved
loop-k-preserved c =
    let l = c.args.part.now in
    let k = c.loop-k.k in
    let t = sym (timed_record l k (k * 44 + 44 - k * 44) (omega arith)) ∙ sym c.is_timed.ensures in
    elim c.if-is_timed.branch [
      | then-is_timed w ↦ let e : timed_at l k ≡ true = t ∙ w.if-is_timed.true in search rules
      | else-is_timed w ↦ let e : timed_at l k ≡ false = t ∙ w.if-is_timed.false in search rules
    ]
