use Rattle.std.proofs.Common.{rules, ℕ, suc, ◌≡◌, ◌∙◌, ◌-◌, ◌≤◌, List, ◌∷◌, sym, ap, subst, arith, length, take, drop, slice_set, length-drop, length-take-le}
use Rattle.std.proofs.lemmas.List.{set_past}
use Rattle.std.specs.Prelude.{IsTrue}
use Rattle.tokens.proofs.CutLaws.{whole_cut}
use Rattle.marks.specs.Short.{is_token}
use Rattle.marks.proofs.MarksLaws.{none_so_far, more_so_far, enters_all, counts_all, takes_all, enters_held, all_held}
use Rattle.marks.proofs.lookback.enter_marks.Goals as goal
use Rattle.marks.proofs.lookback.enter_marks.Goals.{then-count-list, else-count-list}

pub loop-first-init : goal.loop-first-init
loop-first-init c = record { state = none_so_far _ _ _; within = search rules; bound = search rules; characters = search rules }

pub of_text-mark-requires-clause-whole : goal.of_text-mark-requires-clause-whole
of_text-mark-requires-clause-whole c =
    let b = c.in-Some.first.now in
    let bs = c.in-Some.behind.now in
    let n = c.token_size-size.result - 1 in
    let one : suc n ≡ c.token_size-size.result = omega (arith, c.token_size-size.ensures.some) in
    let text_is : c.split_at.result.0.now ≡ b ∷ take n bs = c.split_at.ensures.front ∙ (λ i. take (sym one i) (c.in-Some.ensures.cases.0 i)) in
    subst (λ (ys : List ℕ). IsTrue (is_token ys)) (sym text_is) (whole_cut b bs n (one ∙ c.token_size-size.ensures.size))

pub loop-first-preserved : goal.loop-first-preserved
loop-first-preserved c =
    let b = c.in-Some.first.now in
    let bs = c.in-Some.behind.now in
    let n = c.token_size-size.result - 1 in
    let one : suc n ≡ c.token_size-size.result = omega (arith, c.token_size-size.ensures.some) in
    let cut : c.loop-first.rest.now ≡ b ∷ bs = c.in-Some.ensures.cases.0 in
    let within : n ≤ length bs = omega (arith, one, c.token_size-size.ensures.within) in
    let text_is : c.split_at.result.0.now ≡ b ∷ take n bs = c.split_at.ensures.front ∙ (λ i. take (sym one i) (cut i)) in
    let left_is : c.split_at.result.1.now ≡ drop n bs = c.split_at.ensures.back ∙ (λ i. drop (sym one i) (cut i)) in
    let fewer : c.count_characters.result ≤ n = omega (arith, c.count_characters.ensures.within, length-take-le n bs within) in
    let written : c.if-count-list.list ≡ slice_set c.loop-first.list c.loop-first.count c.of_text-mark.result = elim c.if-count-list.branch [
      | then-count-list w ↦ w.list-is
      | else-count-list w ↦ w.list-is ∙ sym (set_past _ _ _ (search rules))
    ] in
    record {
      state = more_so_far _ _ _ _ _ _ _ n b bs _ _ _ _ _ c.of_text-mark.result c.loop-first.invariant.state cut (one ∙ c.token_size-size.ensures.size) within
          c.count_characters.ensures.count left_is (omega (arith, c.loop-first.invariant.bound)) c.of_text-mark.ensures.mark (search rules) (search rules)
          (c.of_text-mark.ensures.text ∙ text_is) (search rules) written;
      within = search rules;
      bound = omega (arith, c.loop-first.invariant.bound, ap length left_is, length-drop n bs, ap length cut);
      characters = omega (arith, fewer, c.loop-first.invariant.characters, ap length left_is, length-drop n bs, ap length cut);
    }

pub returns-clause-count : goal.returns-clause-count
returns-clause-count c = counts_all _ _ _ _ _ _ _ _ c.loop-first.invariant.state c.in_default.ensures.cases

pub returns-clause-marks : goal.returns-clause-marks
returns-clause-marks c = enters_all _ _ _ _ _ _ _ _ c.loop-first.invariant.state c.in_default.ensures.cases

pub returns-clause-all : goal.returns-clause-all
returns-clause-all c = takes_all _ _ _ _ _ _ _ _ c.loop-first.invariant.state c.in_default.ensures.cases

pub returns-clause-marks_held : goal.returns-clause-marks_held
returns-clause-marks_held c = λ room. enters_held _ _ _ _ room (enters_all _ _ _ _ _ _ _ _ c.loop-first.invariant.state c.in_default.ensures.cases)

pub returns-clause-all_held : goal.returns-clause-all_held
returns-clause-all_held c = λ room fits. all_held _ _ _ room (takes_all _ _ _ _ _ _ _ _ c.loop-first.invariant.state c.in_default.ensures.cases fits)
