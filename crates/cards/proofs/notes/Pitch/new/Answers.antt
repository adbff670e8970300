use Rattle.std.proofs.Common.{arith, ap, sym, ◌∙◌}
use mathlib.Core.Bool.{false≢true}
use borrow.Author.Tests.{le-leb}
use Rattle.std.proofs.lemmas.Int.{to_z-of_z}
use Rattle.std.proofs.lemmas.Result.{MatchResult-from_err}
use Rattle.tokens.specs.Steps.{step_number}
use Rattle.cards.specs.Judged.{natural, raised}
use Rattle.cards.proofs.NumberLaws.{steps, octaves, unnumbered, step_most}
use Rattle.cards.proofs.JudgeLaws.{pitch_not, pitch_such}
use Rattle.cards.proofs.notes.Pitch.new.Goals as goal

pub returns-in_err-place : goal.returns-in_err-place
returns-in_err-place g c =
    let form = g.W.PlaceWidth.form in
    let e = c.in_err-place.ensures in
    MatchResult-from_err _ _ _ c.from_residual.ensures.0 (λ _. pitch_not form _ (λ f. false≢true (sym e ∙ rw (le-leb 1 c.args.place f.low, le-leb c.args.place form.greatest f.high))))

pub returns-in_err-step : goal.returns-in_err-step
returns-in_err-step g c =
    let fits = c.ranges.step in
    let none = simp to_z-of_z at c.in_err-step.ensures in
    MatchResult-from_err _ _ _ c.from_residual-in_err-step.ensures.0 (λ _. pitch_not g.W.PlaceWidth.form _ (λ f. unnumbered step_number c.args.step none.1 (omega (arith, f.step)) (steps (natural c.args.step) f.step)))

pub returns-in_err-octave : goal.returns-in_err-octave
returns-in_err-octave g c =
    let fits = c.ranges.octave in
    let none = simp to_z-of_z at c.in_err-octave.ensures in
    MatchResult-from_err _ _ _ c.from_residual-in_err-octave.ensures.0 (λ _. pitch_not g.W.PlaceWidth.form _ (λ f. unnumbered (λ o. o.number) c.args.octave none.1 (omega (arith, f.octave)) (octaves (natural c.args.octave) f.octave)))

pub returns-in_err-alter : goal.returns-in_err-alter
returns-in_err-alter g c =
    let fits = c.ranges.alter in
    let e = simp to_z-of_z at c.in_err-alter.ensures in
    MatchResult-from_err _ _ _ c.from_residual-in_err-alter.ensures.0 (λ _. pitch_not g.W.PlaceWidth.form _ (λ f. false≢true (sym e ∙ le-leb (raised 2 c.args.alter) 4 f.alter)))

pub returns : goal.returns
returns g c =
    let s = c.ranges.step in
    let o = c.ranges.octave in
    let a = c.ranges.alter in
    let step = ap natural (simp to_z-of_z at c.in_ok-step.ensures) in
    let octave = ap natural (simp to_z-of_z at c.in_ok-octave.ensures) in
    let alter = simp to_z-of_z at c.in_ok-alter.ensures in
    let place = c.in_ok-place.ensures in
    let few = c.in_ok-octave.octave.in_range in (
      (λ i. record { place = place.0 i; step = step i; octave = octave i; alter = alter.0 i }),
      pitch_such g.W.PlaceWidth.form _ (record { low = place.1; high = place.2; step = omega (arith, step, step_most c.in_ok-step.step); octave = omega (arith, octave, few); alter = omega (arith, alter.0, alter.1) }),
    )
