use Rattle.std.proofs.Common.{rules}
use Rattle.marks.proofs.records.bar_of.Goals as goal

pub returns-in_err-meter_of : goal.returns-in_err-meter_of
returns-in_err-meter_of c = rw c.from_residual-in_err-meter_of.ensures (λ b h. c.in_err-meter_of.ensures b.meter (search (rules, h.meter)))

pub returns-in_err-ok-3 : goal.returns-in_err-ok-3
returns-in_err-ok-3 c = rw c.from_residual-in_err-ok-3.ensures (λ b h. search (rules, h.left, c.try_from-3.ensures, c.in_err-ok-3.ensures.value))

pub returns-in_err-ok-4 : goal.returns-in_err-ok-4
returns-in_err-ok-4 c = rw c.from_residual-in_err-ok-4.ensures (λ b h. search (rules, h.right, c.try_from-4.ensures, c.in_err-ok-4.ensures.value))

pub returns : goal.returns
returns c = record {
  first = search rules;
  count = search rules;
  clef = search (rules, c.in_ok-clef_of.ensures);
  key = search (rules, c.in_ok-key_of.ensures);
  meter = search (rules, c.in_ok-meter_of.ensures);
  left = search rules;
  right = search rules;
}
