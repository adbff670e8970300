use Rattle.std.proofs.Common.{ap, sym, ◌∙◌, ◌≡◌, rules}
use mathlib.Core.Bool.{true}
use Rattle.cards.specs.Judged.{natural}
use Rattle.cards.specs.Card.{such_head}
use Rattle.cards.specs.Taken.{head_in}
use Rattle.cards.specs.Values.{key_value, card_head, head_numbered}
use Rattle.cards.proofs.CardTaken.{head_of_fields}
use Rattle.cards.proofs.reading.CardReader.head.Goals as goal

pub returns : goal.returns
returns c =
    let k = head_numbered (record { clef = c.from.result; fifths = c.fifths_of.result; numerator = c.from-2.result; denominator = c.from-3.result; symbol = c.from-4.result; left = c.from-5.result; right = c.from-6.result }) in
    let n : (card_head c.in_ok-head.head ≡ k) × (such_head k ≡ true) = search (rules, c.in_ok-head.ensures) in
    let is : head_in c.in_ok-clef.clef (key_value c.in_ok-key.key) c.in_ok-numerator.numerator c.in_ok-denominator.denominator c.in_ok-symbol.symbol c.in_ok-left.left c.in_ok-right.right ≡ card_head c.in_ok-head.head =
    sym (n.0 ∙ (λ i. record {
      clef = natural (c.from.ensures i);
      key = c.fifths_of.ensures i;
      numerator = natural (c.from-2.ensures i);
      denominator = natural (c.from-3.ensures i);
      symbol = natural (c.from-4.ensures i);
      left = natural (c.from-5.ensures i);
      right = natural (c.from-6.ensures i);
    })) in
    head_of_fields _ _ _ _ _ _ _ _ _ _ _ _ _ _ _ _ _ _ _ (card_head c.in_ok-head.head)
    c.in_ok-map.ensures
    c.in_ok-count.ensures
    (rw c.has_bit.ensures at c.in_ok-clef.ensures)
    (rw c.has_bit-2.ensures at c.in_ok-key.ensures)
    (rw c.has_bit-3.ensures at c.in_ok-numerator.ensures)
    (rw c.has_bit-4.ensures at c.in_ok-denominator.ensures)
    (rw c.has_bit-5.ensures at c.in_ok-symbol.ensures)
    (rw c.has_bit-6.ensures at c.in_ok-left.ensures)
    (rw c.has_bit-7.ensures at c.in_ok-right.ensures)
    is
    (ap such_head n.0 ∙ n.1)
    (sym c.map.ensures ∙ c.if-map.false)
