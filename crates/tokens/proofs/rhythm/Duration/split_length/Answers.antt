use Rattle.std.proofs.Common.{◌≡◌, ◌∷◌, List, drop, ap, sym, ◌∙◌, arith}
use Rattle.rules.specs.Values.{Length, duration_of, capped, dots_at, pattern_of}
use Rattle.tokens.specs.Steps.{number_in}
use Rattle.tokens.proofs.PatternLaws.{length_next, numbered}
use Rattle.tokens.proofs.rhythm.Duration.split_length.Goals as goal

pub returns : goal.returns
returns c =
    let b = c.in-Some.byte.now in
    let bs = c.in-Some.rest.now in
    let e : drop (dots_at c.args.text.now) c.args.text.now ≡ b ∷ bs = sym c.behind_dots.ensures.behind ∙ c.in-Some.ensures.cases.0 in
    let duration : number_in c.of_byte.result ≡ duration_of b = numbered c.of_byte.result (duration_of b) c.of_byte.ensures in
    let dots : c.min-most.result ≡ capped (dots_at bs) = grind (arith, c.min-most.ensures, c.behind_dots-behind.ensures.size) in
    length_next c.args.text.now b bs e
    ∙ (λ i. record { duration = sym duration i; dots = sym dots i } ∷ pattern_of (sym c.behind_dots-behind.ensures.behind i))
