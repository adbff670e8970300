use Rattle.std.proofs.Common.{◌≡◌, ◌<◌, true, false, length, drop, arith, ap, sym, ◌∙◌}
use Rattle.rules.specs.Characters.{in_blank}
use Rattle.scan.proofs.Trims.{blank_within, blanks_more, blanks_stop, part_to_end}
use Rattle.scan.proofs.characters.blanks_size.Goals as goal

pub loop-size-preserved : goal.loop-size-preserved
loop-size-preserved c =
    let xs = c.args.rest.now in
    let size = c.loop-size.size in
    let blank : in_blank (drop size xs) ≡ true = sym (c.in_blank.ensures ∙ ap in_blank (part_to_end xs size)) ∙ c.loop-size-test.true in
    let within : size < length xs = blank_within xs size blank in
    let more = blanks_more xs size within blank in
    record { within = omega (arith, within); rest = omega (arith, more, c.loop-size.invariant.rest) }

pub returns-clause-size : goal.returns-clause-size
returns-clause-size c =
    let xs = c.args.rest.now in
    let size = c.loop-size.size in
    let none : in_blank (drop size xs) ≡ false = sym (c.in_blank.ensures ∙ ap in_blank (part_to_end xs size)) ∙ c.loop-size-test.false in
    omega (arith, blanks_stop (drop size xs) none, c.loop-size.invariant.rest)
