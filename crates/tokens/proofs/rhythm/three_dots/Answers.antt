use Rattle.std.proofs.Common.{◌≡◌, ◌-◌, ℕ, List, length, take, drop, ap, sym, ◌∙◌}
use Rattle.rules.specs.Text.{every}
use Rattle.rules.specs.Cut.{is_duration}
use Rattle.rules.specs.Values.{capped, dots_at, pattern_of}
use Rattle.tokens.proofs.DotLaws.{four, ends_in, with_four, with_three, dots_fewer, lengths_fewer, whole_fewer}
use Rattle.tokens.proofs.rhythm.three_dots.Goals as goal

pub loop-few-preserved : goal.loop-few-preserved
loop-few-preserved c =
    let xs = c.loop-few.few.now in
    let zs = take (length xs - 4) xs in
    let e : drop (length xs - 4) xs ≡ four = ends_in four (drop (length xs - 4) xs) (sym c.ends_with.ensures.value ∙ c.loop-few-test.true) in
    record {
      whole = ap (every is_duration) (with_three xs e) ∙ whole_fewer zs (ap (every is_duration) (sym (with_four xs e)) ∙ c.loop-few.invariant.whole);
      dots = ap (λ (l : List ℕ). capped (dots_at l)) (with_three xs e) ∙ sym (dots_fewer zs) ∙ ap (λ (l : List ℕ). capped (dots_at l)) (sym (with_four xs e)) ∙ c.loop-few.invariant.dots;
      lengths = ap pattern_of (with_three xs e) ∙ sym (lengths_fewer zs) ∙ ap pattern_of (sym (with_four xs e)) ∙ c.loop-few.invariant.lengths;
    }
