use Rattle.std.proofs.Common.{◌≡◌, ◌+◌, ◌∷◌, ◌<◌, ℕ, min, length, drop, ap, ◌∙◌, sym, arith, rules, length-drop}
use Rattle.rules.specs.Text.{Part}
use Rattle.rules.specs.Fields.{lines_after, line_at, Line}
use Rattle.scan.specs.Parts.{part_of}
use Rattle.scan.proofs.LineLaws.{line_past, line_at_part, lines_nil}
use Rattle.scan.proofs.lines.LinesIterator.next.Goals as goal

pub returns-then-is_empty-clause-steps : goal.returns-then-is_empty-clause-steps
returns-then-is_empty-clause-steps c = λ before. lines_nil _ _ _ before (search rules)

pub returns-clause-steps : goal.returns-clause-steps
returns-clause-steps c =
    let lines = c.args.self.now in
    let xs = lines.rest.bytes.now in
    let n = lines.number.0 in
    let o = lines.rest.start.0 in
    let past = c.min.result in
    let some_bytes : 0 < length xs = search rules in
    let bytes_is : c.without-self.result.bytes.now ≡ drop past xs = ap (λ (q : Part). q.bytes) c.without-self.ensures in
    let start_is : c.without-self.result.start.0 ≡ o + past = ap (λ (q : Part). q.start) c.without-self.ensures in
    let line_of_part : Part → Line = λ q. record { number = n; content = q } in
    let line_is : line_of_part (part_of c.trim.result) ≡ line_at n o xs =
    ap line_of_part c.trim.ensures ∙ line_at_part n o c.run-size.result xs c.run-size.ensures.size in
    record {
      shorter = omega (arith, ap length bytes_is, length-drop past xs, some_bytes, c.min.ensures);
      left = λ before. line_past n o past xs before some_bytes (c.min.ensures ∙ ap (λ (k : ℕ). min (k + 1) (length xs)) c.run-size.ensures.size)
          ∙ (λ i. lines_after 0 (n + 1) (sym start_is i) (sym bytes_is i) (sym line_is i ∷ before));
    }
