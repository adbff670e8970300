use Rattle.std.proofs.Common.{◌≡◌, ◌+◌, ◌<◌, true, get_or, ap, sym, ◌∙◌, arith, rules}
use Rattle.rules.specs.Text.{bytes, begins, run_length, is_alphabetic}
use Rattle.rules.specs.Fields.{key_size}
use Rattle.scan.proofs.Trims.{part_to_end}
use Rattle.scan.proofs.LineLaws.{field_some}
use Rattle.scan.proofs.lines.key_end.Goals as goal

pub returns-clause-field : goal.returns-clause-field
returns-clause-field c =
    let xs = c.args.bytes.now in
    let size : c.run-end.result ≡ key_size xs = c.run-end.ensures.size ∙ ap (run_length is_alphabetic) (part_to_end xs 1) in
    let at_sign : begins (bytes "@") xs ≡ true = search rules in
    let letters : 0 < key_size xs = omega (arith, size, c.if-end-eq1.false) in
    let colon : get_or xs (1 + key_size xs) 0 ≡ 58 = rw (sym size) (search rules) in
    sym (field_some xs at_sign letters colon)

pub returns-clause-key : goal.returns-clause-key
returns-clause-key c =
    let xs = c.args.bytes.now in
    let size : c.run-end.result ≡ key_size xs = c.run-end.ensures.size ∙ ap (run_length is_alphabetic) (part_to_end xs 1) in
    omega (arith, size)
