use Rattle.std.proofs.Common.{rules, arith, ◌≡◌, ◌-◌, refl, ap, length, take}
use Rattle.rows.specs.Shown.{beginning_size}
use Rattle.rows.proofs.ShownLaws.{beginning_step, beginning_none, beginning_done}
use Rattle.rows.proofs.characters.beginning.Goals as goal
use Rattle.rows.proofs.characters.beginning.Goals.{else-loop-test, then-loop-test+then-is_empty}

pub loop-preserved : goal.loop-preserved
loop-preserved c = record {
  within = search rules;
  size = beginning_step c.args.most c.loop.counter c.args.text.now c.loop.rest.now c.shown_size.result _
      (search rules) (search rules) c.loop.invariant.within (search rules) c.shown_size.ensures.size refl c.loop.invariant.size;
}

pub returns : goal.returns
returns c =
    let size : length c.args.text.now - length c.loop.rest.now ≡ beginning_size c.args.most c.args.text.now
    = elim c.loop-test.branch [
      | else-loop-test w ↦ beginning_done c.args.most c.loop.counter c.args.text.now c.loop.rest.now (search rules) c.loop.invariant.size
      | then-loop-test+then-is_empty w ↦ omega (arith, c.loop.invariant.size, beginning_none (c.args.most - c.loop.counter) c.loop.rest.now (search rules))
    ] in
    ap (λ n. take n c.args.text.now) size
