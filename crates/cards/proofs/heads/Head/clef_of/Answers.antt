use Rattle.std.proofs.Common.{of_z, w32, ◌<◌, arith, ap, ◌∙◌, pos, sym}
use Rattle.std.proofs.lemmas.Int.{to_z-of_z}
use Rattle.std.proofs.lemmas.Result.{MatchResult-from_err}
use borrow.Author.Tests.{leb-true}
use Rattle.tokens.specs.Clefs.{clef_number}
use Rattle.cards.specs.Judged.{natural}
use Rattle.cards.proofs.NumberLaws.{clefs, unnumbered, refused}
use Rattle.cards.proofs.SuchLaws.{natural-back}
use Rattle.cards.proofs.heads.Head.clef_of.Goals as goal

pub returns-in_err-try_from : goal.returns-in_err-try_from
returns-in_err-try_from c =
    let fits = c.ranges.number in
    let none = simp to_z-of_z at c.in_err-try_from.ensures in
    MatchResult-from_err _ _ _ c.from_residual.ensures.0 (λ _. refused _ (λ h.
    let most = leb-true (natural c.args.number) 8 h in
    let small : natural c.args.number < 4294967295 = omega arith in
    unnumbered clef_number c.args.number none.1 small (clefs (natural c.args.number) (λ z. c.if-number-eq0.false (ap (of_z w32) (sym (natural-back c.args.number small) ∙ ap pos z))) most)))
