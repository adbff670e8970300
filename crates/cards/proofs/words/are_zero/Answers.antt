use Rattle.std.proofs.Common.{eqb, refl, rules, pos}
use Rattle.std.proofs.lemmas.List.Recursion.{and_is}
use Rattle.cards.specs.Judged.{natural, all_zero}
use Rattle.cards.proofs.words.are_zero.Goals as goal

pub returns : goal.returns
unfolding all_zero
returns c = and_is all_zero (λ z. eqb (natural z) 0) refl (λ _ _. refl) c.args.words.now (pos 0) _ (search rules) (search rules)
