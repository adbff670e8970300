use Rattle.std.proofs.Common.{◌∷◌, ℕ, sym, ap, ◌∙◌}
use Rattle.rules.specs.Values.{Length, duration_of, pattern_of, capped, dots_at}
use Rattle.tokens.proofs.PatternLaws.{pattern_digit}
use Rattle.tokens.proofs.rhythm.Pattern.of_token.Goals as goal

pub returns : goal.returns
returns c =
    let few = c.few_dots.result.now in
    ap (λ (n : ℕ). let l : Length = record { duration = n; dots = capped (dots_at few) } in l ∷ pattern_of few) c.of_digit.ensures
    ∙ (λ i. record { duration = duration_of c.args.digit; dots = c.few_dots.ensures.dots i } ∷ c.few_dots.ensures.lengths i)
    ∙ sym (pattern_digit c.args.digit c.args.rest.now c.requires.digit)
