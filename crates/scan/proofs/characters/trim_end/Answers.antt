use Rattle.std.proofs.Common.{◌≡◌, ◌-◌, ◌+◌, true, drop, get_or, subst, rules, arith, ap, sym, ◌∙◌}
use Rattle.rules.specs.Characters.{in_blank, continues}
use Rattle.scan.proofs.Trims.{TrimmedFrom, more_tail, ends_stop, ends_start, part_to_end}
use Rattle.scan.proofs.characters.trim_end.Goals.{then-loop-at-test+else-in_blank, else-loop-at-test}
use Rattle.scan.proofs.characters.trim_end.Goals as goal

pub loop-at-preserved : goal.loop-at-preserved
loop-at-preserved c =
    let at = c.loop-at.at - 1 in
    let same : c.loop-at.at ≡ at + 1 = omega (arith, c.loop-at-test.true) in
    let blank : in_blank (drop at c.args.part.now) ≡ true = sym (c.in_blank.ensures ∙ ap in_blank (part_to_end c.args.part.now at)) ∙ c.if-in_blank.true in
    let tail : continues (get_or c.args.part.now at 0) ≡ true = search rules in
    more_tail c.args.part.now at c.loop-at.end (omega (arith, c.loop-at-test.true, c.loop-at.invariant.order, c.loop-at.invariant.within)) blank (subst (λ k. TrimmedFrom c.args.part.now k c.loop-at.end) same c.loop-at.invariant) tail

pub returns-clause-trimmed : goal.returns-clause-trimmed
returns-clause-trimmed c = elim c.loop-at-test.branch [
  | then-loop-at-test+else-in_blank w ↦ ends_stop c.args.part.now c.loop-at.at c.loop-at.end c.loop-at.invariant w.loop-at-test.true (sym (w.in_blank.ensures ∙ ap in_blank (part_to_end c.args.part.now (c.loop-at.at - 1))) ∙ w.if-in_blank.false)
  | else-loop-at-test w ↦ ends_start c.args.part.now c.loop-at.at c.loop-at.end c.loop-at.invariant (omega (arith, w.loop-at-test.false))
]
