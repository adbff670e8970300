use Rattle.std.proofs.Common.{◌≡◌, ◌+◌, ◌-◌, ℕ, Bool, true, take, drop, ap, sym, ◌∙◌, arith, rules}
use Rattle.std.specs.Prelude.{if◌then◌else◌}
use Rattle.std.proofs.Math.Option.{some, none}
use Rattle.rules.specs.Text.{without}
use Rattle.rules.specs.Characters.{trim}
use Rattle.rules.specs.Fields.{is_field, key_size, Field}
use Rattle.scan.specs.Parts.{part_of}
use Rattle.scan.proofs.lines.TextLine.field.Goals as goal

pub returns : goal.returns
returns c =
    let xs = c.args.self.content.bytes.now in
    let part = part_of c.args.self.content in
    let end : c.in-Some.end ≡ 1 + key_size xs = search rules in
    let some_field : is_field xs ≡ true = search rules in
    let key : key_size xs ≡ c.in-Some.end - 1 = omega (arith, end) in
    let rest : key_size xs + 2 ≡ c.in-Some.end + 1 = omega (arith, end) in
    let value : trim (without (key_size xs + 2) part) ≡ part_of c.trim.result = ap trim (ap (λ (n : ℕ). without n part) rest ∙ sym c.without.ensures) ∙ sym c.trim.ensures in
    ap (λ (t : Bool). let f : Field = record { key = take (key_size xs) (drop 1 xs); value = trim (without (key_size xs + 2) part) } in if t then some f else none) some_field
    ∙ (λ i. let f : Field = record { key = take (key i) (drop 1 xs); value = value i } in some f)
