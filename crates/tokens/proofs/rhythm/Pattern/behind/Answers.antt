use Rattle.std.proofs.Common.{ℕ, drop, ap, sym, ◌∙◌}
use Rattle.rules.specs.Values.{pattern_of}
use Rattle.tokens.specs.Whole.{is_rest}
use Rattle.scan.proofs.Trims.{part_to_end}
use Rattle.tokens.proofs.PatternLaws.{pattern_dots, rest_after_dots}
use Rattle.tokens.proofs.rhythm.Pattern.behind.Goals as goal

pub invariant_of-result : goal.invariant_of-result
invariant_of-result c =
    let xs = c.args.self.rest.now in
    record { whole = ap is_rest (part_to_end xs c.run-dots.result ∙ ap (λ (k : ℕ). drop k xs) c.run-dots.ensures.size) ∙ rest_after_dots xs c.args.self.whole }

pub returns : goal.returns
returns c =
    let xs = c.args.self.rest.now in
    ap pattern_of (part_to_end xs c.run-dots.result ∙ ap (λ (k : ℕ). drop k xs) c.run-dots.ensures.size) ∙ sym (pattern_dots xs)
