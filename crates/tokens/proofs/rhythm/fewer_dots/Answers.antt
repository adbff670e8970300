use Rattle.std.proofs.Common.{◌≡◌, ◌-◌, ◌+◌, ◌≤◌, length, drop, ap, sym, ◌∙◌, arith}
use Rattle.rules.specs.Values.{dots_at}
use Rattle.scan.proofs.Trims.{part_to_end}
use Rattle.tokens.proofs.DotLaws.{cut_whole, cut_dots, cut_lengths}
use Rattle.tokens.proofs.rhythm.fewer_dots.Goals as goal

pub loop-fewer-preserved : goal.loop-fewer-preserved
loop-fewer-preserved c =
    let xs = c.loop-fewer.fewer.now in
    let within : 96 ≤ length xs = c.loop-fewer-test.true in
    let e : dots_at (drop (length xs - 96) xs) ≡ 96 = ap dots_at (sym (part_to_end xs (length xs - 96))) ∙ sym c.run.ensures.size ∙ omega (arith, c.if-run-eq-DOTS.true) in
    let three_of : 3 ≤ 96 = omega arith in
    let few : length xs - 93 ≡ length xs - 96 + 3 = omega (arith, within) in
    record {
      whole = cut_whole xs 96 (length xs - 93) three_of within few e c.loop-fewer.invariant.whole;
      dots = cut_dots xs 96 (length xs - 93) three_of within few e ∙ c.loop-fewer.invariant.dots;
      lengths = cut_lengths xs 96 (length xs - 93) three_of within few e ∙ c.loop-fewer.invariant.lengths;
    }
