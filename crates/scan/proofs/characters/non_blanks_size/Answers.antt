use Rattle.std.proofs.Common.{◌≡◌, ◌+◌, ◌-◌, ◌∷◌, ℕ, false, length, take, drop, arith, ap, sym, ◌∙◌, length-drop}
use Rattle.rules.specs.Characters.{is_blank, non_blanks_size}
use Rattle.scan.proofs.Trims.{part_to_end, non_blanks_more, non_blanks_stop, non_blanks_end, non_blanks_all}
use Rattle.scan.proofs.characters.non_blanks_size.Goals.{else-loop-test, then-loop-test+in_default, then-loop-test+in-Some+then-is_blank}
use Rattle.scan.proofs.characters.non_blanks_size.Goals as goal

pub loop-preserved : goal.loop-preserved
loop-preserved c =
    let xs = c.loop.left.now in
    let b = c.in-Some.first.now in
    let bs = c.in-Some.more.now in
    let size = c.character_size-size.result in
    let left : ℕ = c.args.most - (c.loop.counter + 1) in
    let is : xs ≡ b ∷ bs = c.in-Some.ensures.cases.0 in
    let rest : take (length xs - size) (drop size xs) ≡ drop size xs = part_to_end xs size in
    let found : is_blank (b ∷ bs) ≡ false = sym c.is_blank.ensures ∙ c.if-is_blank.false in
    let more : non_blanks_size (c.args.most - c.loop.counter) xs ≡ size + non_blanks_size left (drop size xs) =
    ap (non_blanks_size (c.args.most - c.loop.counter)) is ∙ non_blanks_more c.args.most c.loop.counter b bs (omega arith) found
    ∙ (λ i. sym c.character_size-size.ensures.size i + non_blanks_size left (drop (sym c.character_size-size.ensures.size i) (sym is i))) in
    record {
      within = omega (arith, ap length rest, length-drop size xs, c.loop.invariant.within);
      size = omega (arith, ap length rest, ap (non_blanks_size left) rest, length-drop size xs, c.loop.invariant.size, more, ap length is, c.character_size-size.ensures.within);
    }

pub returns-clause-size : goal.returns-clause-size
returns-clause-size c = elim c.loop-test.branch [
  | else-loop-test w ↦ omega (arith, c.loop.invariant.size, non_blanks_all c.args.most c.loop.counter c.loop.left.now (omega (arith, w.loop-test.false)))
  | then-loop-test+in_default w ↦ omega (arith, c.loop.invariant.size, non_blanks_end (c.args.most - c.loop.counter) c.loop.left.now w.in_default.ensures.cases)
  | then-loop-test+in-Some+then-is_blank w ↦ omega (arith, c.loop.invariant.size, ap (non_blanks_size (c.args.most - c.loop.counter)) w.in-Some.ensures.cases.0, non_blanks_stop (c.args.most - c.loop.counter) w.in-Some.first.now w.in-Some.more.now (sym w.is_blank.ensures ∙ w.if-is_blank.true))
]
