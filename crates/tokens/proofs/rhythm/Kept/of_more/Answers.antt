use Rattle.std.proofs.Common.{◌≡◌, ◌∙◌, ℕ, take, ap, rules, arith}
use Rattle.tokens.specs.Rhythm.{lengths_of, lengths_with}
use Rattle.tokens.proofs.CycleLaws.{kept_step}
use Rattle.tokens.proofs.rhythm.Kept.of_more.Goals as goal

pub loop-count-preserved : goal.loop-count-preserved
loop-count-preserved c = record {
  size = search rules;
  lengths =
      let p = c.in-Some.next in
      let x = c.length-in-loop-count in
      let r = c.behind-rest-in-loop-count in
      kept_step c.loop-count.lengths c.loop-count.count x.result p c.loop-count.rest r.result (lengths_of c.args.pattern) (omega arith) x.ensures c.in-Some.ensures r.ensures (search rules);
}

pub returns : goal.returns
returns c =
    let l = c.loop-count in
    let end : 256 ≡ l.count = omega arith in
    ap (λ (k : ℕ). lengths_with (take k l.lengths) l.rest) end ∙ l.invariant.lengths
