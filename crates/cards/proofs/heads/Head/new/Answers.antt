use Rattle.std.proofs.Common.{arith, ap, sym, ◌∙◌, rules, w32, pos, ◌≡◌, ◌≤◌}
use mathlib.Core.Bool.{true, false, false≢true}
use mathlib.Core.Option.{get_or}
use mir.Val.{SFits}
use lib.Dec.{leb}
use borrow.Author.Tests.{le-leb}
use Rattle.std.proofs.lemmas.Int.{to_z-of_z}
use Rattle.std.proofs.lemmas.Result.{MatchResult-from_err}
use Rattle.tokens.specs.Steps.{edge_number}
use Rattle.cards.specs.Judged.{natural}
use Rattle.cards.specs.Card as card
use Rattle.cards.specs.Values.{clef_value, key_value, key_numbered, numerator_of, denominator_of, symbol_of, such_meter, head_numbered}
use Rattle.cards.proofs.NumberLaws.{edges, edge_most, unnumbered}
use Rattle.cards.proofs.JudgeLaws.{head_not, head_such}
use Rattle.cards.proofs.heads.Head.new.Goals as goal

pub returns-in_err-clef : goal.returns-in_err-clef
returns-in_err-clef c =
    let e : leb (natural c.args.numbers.clef) 8 ≡ false = search (rules, c.in_err-clef.ensures) in
    MatchResult-from_err _ _ _ c.from_residual.ensures.0 (λ _. head_not _ (λ f. false≢true (sym e ∙ le-leb (natural c.args.numbers.clef) 8 f.clef)))

pub returns-in_err-key : goal.returns-in_err-key
returns-in_err-key c =
    let e = c.in_err-key.ensures in
    MatchResult-from_err _ _ _ c.from_residual-in_err-key.ensures.0 (λ _. head_not _ (λ f. false≢true (sym e ∙ le-leb (get_or (key_numbered c.args.numbers.fifths) 0) 14 f.key)))

pub returns-in_err-meter : goal.returns-in_err-meter
returns-in_err-meter c =
    let n = c.args.numbers in
    let e : such_meter (natural n.numerator) (natural n.denominator) (natural n.symbol) ≡ false = search (rules, c.in_err-meter.ensures) in
    MatchResult-from_err _ _ _ c.from_residual-in_err-meter.ensures.0 (λ _. head_not _ (λ f. false≢true (sym e ∙ f.meter)))

pub returns-in_err-left : goal.returns-in_err-left
returns-in_err-left c =
    let fits : SFits w32 c.args.numbers.left = search rules in
    let none = simp to_z-of_z at c.in_err-left.ensures in
    MatchResult-from_err _ _ _ c.from_residual-in_err-left.ensures.0 (λ _. head_not _ (λ f. unnumbered edge_number c.args.numbers.left none.1 (omega (arith, f.left)) (edges (natural c.args.numbers.left) f.left)))

pub returns-in_err-right : goal.returns-in_err-right
returns-in_err-right c =
    let fits : SFits w32 c.args.numbers.right = search rules in
    let none = simp to_z-of_z at c.in_err-right.ensures in
    MatchResult-from_err _ _ _ c.from_residual-in_err-right.ensures.0 (λ _. head_not _ (λ f. unnumbered edge_number c.args.numbers.right none.1 (omega (arith, f.right)) (edges (natural c.args.numbers.right) f.right)))

pub returns : goal.returns
returns c =
    let n = c.args.numbers in
    let clef : (clef_value c.in_ok-clef.clef ≡ natural n.clef) × (natural n.clef ≤ 8) = search (rules, c.in_ok-clef.ensures) in
    let key = c.in_ok-key.ensures in
    let m = c.in_ok-meter.meter in
    let meter : (numerator_of m ≡ natural n.numerator) × (denominator_of m ≡ natural n.denominator) × (symbol_of m ≡ natural n.symbol) × (such_meter (natural n.numerator) (natural n.denominator) (natural n.symbol) ≡ true) = search (rules, c.in_ok-meter.ensures) in
    let left : pos (edge_number c.in_ok-left.left) ≡ n.left = search (rules, c.in_ok-left.ensures) in
    let right : pos (edge_number c.in_ok-right.right) ≡ n.right = search (rules, c.in_ok-right.ensures) in
    let h : card.Head = record {
      clef = clef_value c.in_ok-clef.clef;
      key = key_value c.in_ok-key.key;
      numerator = numerator_of c.in_ok-meter.meter;
      denominator = denominator_of c.in_ok-meter.meter;
      symbol = symbol_of c.in_ok-meter.meter;
      left = edge_number c.in_ok-left.left;
      right = edge_number c.in_ok-right.right;
    } in
    let is : h ≡ head_numbered c.args.numbers = λ i. record {
      clef = clef.0 i;
      key = key.0 i;
      numerator = meter.0 i;
      denominator = meter.1 i;
      symbol = meter.2 i;
      left = natural (left i);
      right = natural (right i);
    } in (
      is,
      head_such _ (record {
        clef = clef.1;
        key = key.1;
        meter = meter.3;
        left = omega (arith, ap natural left, edge_most c.in_ok-left.left);
        right = omega (arith, ap natural right, edge_most c.in_ok-right.right);
      }),
    )
