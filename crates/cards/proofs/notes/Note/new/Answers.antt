use Rattle.std.proofs.Common.{arith, ◌≡◌, ap, sym, ◌∙◌, rules, w32, pos}
use mathlib.Core.Bool.{false, false≢true}
use mir.Val.{SFits}
use lib.Dec.{leb}
use borrow.Author.Tests.{le-leb}
use Rattle.std.proofs.lemmas.Int.{to_z-of_z}
use Rattle.std.proofs.lemmas.Result.{MatchResult-from_err}
use Rattle.stores.specs.Notes.{kind_number}
use Rattle.tokens.specs.Steps.{duration_number}
use Rattle.cards.specs.Judged.{natural}
use Rattle.cards.specs.Card as card
use Rattle.cards.specs.Card.{such_note}
use Rattle.cards.specs.Values.{card_pitches, numbered}
use Rattle.cards.proofs.ValueLaws.{length_pitches}
use Rattle.cards.proofs.NumberLaws.{kinds, durations, unnumbered, kind_most, duration_most}
use Rattle.cards.proofs.JudgeLaws.{note_not, note_such, marks_small}
use Rattle.cards.proofs.notes.Note.new.Goals as goal

pub returns-in_err-place : goal.returns-in_err-place
returns-in_err-place g c =
    let form = g.W.PlaceWidth.form in
    let e = c.in_err-place.ensures in
    MatchResult-from_err _ _ _ c.from_residual.ensures.0 (λ _. note_not form _ (λ f. false≢true (sym e ∙ rw (le-leb 1 c.args.numbers.place f.low, le-leb c.args.numbers.place form.greatest f.high))))

pub returns-in_err-kind : goal.returns-in_err-kind
returns-in_err-kind g c =
    let fits : SFits w32 c.args.numbers.kind = search rules in
    let none = simp to_z-of_z at c.in_err-kind.ensures in
    MatchResult-from_err _ _ _ c.from_residual-in_err-kind.ensures.0 (λ _. note_not g.W.PlaceWidth.form _ (λ f. unnumbered kind_number c.args.numbers.kind none.1 (omega (arith, f.kind)) (kinds (natural c.args.numbers.kind) f.kind)))

pub returns-in_err-duration : goal.returns-in_err-duration
returns-in_err-duration g c =
    let fits : SFits w32 c.args.numbers.duration = search rules in
    let none = simp to_z-of_z at c.in_err-duration.ensures in
    MatchResult-from_err _ _ _ c.from_residual-in_err-duration.ensures.0 (λ _. note_not g.W.PlaceWidth.form _ (λ f. unnumbered duration_number c.args.numbers.duration none.1 (omega (arith, f.duration)) (durations (natural c.args.numbers.duration) f.duration)))

pub returns-in_err-dots : goal.returns-in_err-dots
returns-in_err-dots g c =
    let e : leb (natural c.args.numbers.dots) 3 ≡ false = search (rules, c.in_err-dots.ensures) in
    MatchResult-from_err _ _ _ c.from_residual-in_err-dots.ensures.0 (λ _. note_not g.W.PlaceWidth.form _ (λ f. false≢true (sym e ∙ le-leb (natural c.args.numbers.dots) 3 f.dots)))

pub returns-in_err-ties : goal.returns-in_err-ties
returns-in_err-ties g c =
    let e : leb (natural c.args.numbers.ties) 3 ≡ false = search (rules, c.in_err-ties.ensures) in
    MatchResult-from_err _ _ _ c.from_residual-in_err-ties.ensures.0 (λ _. note_not g.W.PlaceWidth.form _ (λ f. false≢true (sym e ∙ le-leb (natural c.args.numbers.ties) 3 f.ties)))

pub returns-in_err-beam : goal.returns-in_err-beam
returns-in_err-beam g c =
    let e : leb (natural c.args.numbers.beam) 3 ≡ false = search (rules, c.in_err-beam.ensures) in
    MatchResult-from_err _ _ _ c.from_residual-in_err-beam.ensures.0 (λ _. note_not g.W.PlaceWidth.form _ (λ f. false≢true (sym e ∙ le-leb (natural c.args.numbers.beam) 3 f.beam)))

pub returns-in_err-actual : goal.returns-in_err-actual
returns-in_err-actual g c =
    let e : leb (natural c.args.numbers.actual) 255 ≡ false = search (rules, c.in_err-actual.ensures) in
    MatchResult-from_err _ _ _ c.from_residual-in_err-actual.ensures.0 (λ _. note_not g.W.PlaceWidth.form _ (λ f. false≢true (sym e ∙ le-leb (natural c.args.numbers.actual) 255 f.actual)))

pub returns-in_err-mark_count : goal.returns-in_err-mark_count
returns-in_err-mark_count g c =
    let e : leb (natural c.args.numbers.mark_count) 8 ≡ false = search (rules, c.in_err-mark_count.ensures) in
    MatchResult-from_err _ _ _ c.from_residual-in_err-mark_count.ensures.0 (λ _. note_not g.W.PlaceWidth.form _ (λ f. false≢true (sym e ∙ le-leb (natural c.args.numbers.mark_count) 8 f.mark_count)))

pub returns-in_err-marks : goal.returns-in_err-marks
returns-in_err-marks g c =
    let e : leb (natural c.args.numbers.marks) 255 ≡ false = search (rules, c.in_err-marks.ensures) in
    MatchResult-from_err _ _ _ c.from_residual-in_err-marks.ensures.0 (λ _. note_not g.W.PlaceWidth.form _ (λ f. false≢true (sym e ∙ le-leb (natural c.args.numbers.marks) 255 (marks_small (natural c.args.numbers.mark_count) (natural c.args.numbers.marks) f.mark_count f.marks))))

pub returns-then-not-is_tuplet : goal.returns-then-not-is_tuplet
returns-then-not-is_tuplet g c =
    let is : pos c.in_ok-actual.actual ≡ c.args.numbers.actual = search (rules, c.in_ok-actual.ensures) in
    note_not g.W.PlaceWidth.form _ (λ f. false≢true (sym c.if-not-is_tuplet.true ∙ c.is_tuplet.ensures ∙ rw (ap natural is) f.tuplet))

pub returns-then-not-are_marks : goal.returns-then-not-are_marks
returns-then-not-are_marks g c =
    let is : pos c.in_ok-mark_count.mark_count ≡ c.args.numbers.mark_count = search (rules, c.in_ok-mark_count.ensures) in
    let is₁ : pos c.in_ok-marks.marks ≡ c.args.numbers.marks = search (rules, c.in_ok-marks.ensures) in
    note_not g.W.PlaceWidth.form _ (λ f. false≢true (sym c.if-not-are_marks.true ∙ c.are_marks.ensures ∙ rw (ap natural is, ap natural is₁) f.marks))

pub returns-then-not-are_of : goal.returns-then-not-are_of
returns-then-not-are_of g c =
    let is : pos (kind_number c.in_ok-kind.kind) ≡ c.args.numbers.kind = search (rules, c.in_ok-kind.ensures) in
    note_not g.W.PlaceWidth.form _ (λ f. false≢true (sym c.if-not-are_of.true ∙ c.are_of.ensures ∙ rw (ap natural is) f.rest))

pub returns : goal.returns
returns g c =
    let place = c.in_ok-place.ensures in
    let kind : pos (kind_number c.in_ok-kind.kind) ≡ c.args.numbers.kind = search (rules, c.in_ok-kind.ensures) in
    let duration : pos (duration_number c.in_ok-duration.duration) ≡ c.args.numbers.duration = search (rules, c.in_ok-duration.ensures) in
    let dots : pos c.in_ok-dots.dots ≡ c.args.numbers.dots = search (rules, c.in_ok-dots.ensures) in
    let ties : pos c.in_ok-ties.ties ≡ c.args.numbers.ties = search (rules, c.in_ok-ties.ensures) in
    let beam : pos c.in_ok-beam.beam ≡ c.args.numbers.beam = search (rules, c.in_ok-beam.ensures) in
    let actual : pos c.in_ok-actual.actual ≡ c.args.numbers.actual = search (rules, c.in_ok-actual.ensures) in
    let mark_count : pos c.in_ok-mark_count.mark_count ≡ c.args.numbers.mark_count = search (rules, c.in_ok-mark_count.ensures) in
    let marks : pos c.in_ok-marks.marks ≡ c.args.numbers.marks = search (rules, c.in_ok-marks.ensures) in
    let n : card.Note = record {
      place = c.in_ok-place.place;
      duration = duration_number c.in_ok-duration.duration;
      dots = c.in_ok-dots.dots;
      kind = kind_number c.in_ok-kind.kind;
      ties = c.in_ok-ties.ties;
      beam = c.in_ok-beam.beam;
      actual = c.in_ok-actual.actual;
      mark_count = c.in_ok-mark_count.mark_count;
      marks = c.in_ok-marks.marks;
      pitches = card_pitches c.args.pitches;
    } in
    let is : n ≡ numbered c.args.numbers (card_pitches c.args.pitches) = λ i. record {
      place = place.0 i;
      duration = natural (duration i);
      dots = natural (dots i);
      kind = natural (kind i);
      ties = natural (ties i);
      beam = natural (beam i);
      actual = natural (actual i);
      mark_count = natural (mark_count i);
      marks = natural (marks i);
      pitches = card_pitches c.args.pitches;
    } in (
      is,
      ap (such_note g.W.PlaceWidth.form) (sym is) ∙ note_such g.W.PlaceWidth.form n (record {
        low = omega (arith, place.0, place.1);
        high = omega (arith, place.0, place.2);
        duration = duration_most c.in_ok-duration.duration;
        dots = c.in_ok-dots.ensures.1;
        kind = kind_most c.in_ok-kind.kind;
        ties = c.in_ok-ties.ensures.1;
        beam = c.in_ok-beam.ensures.1;
        actual = c.in_ok-actual.ensures.1;
        tuplet = sym c.is_tuplet.ensures ∙ c.if-not-is_tuplet.false;
        mark_count = c.in_ok-mark_count.ensures.1;
        marks = sym c.are_marks.ensures ∙ c.if-not-are_marks.false;
        pitches = omega (arith, length_pitches c.args.pitches, c.args.pitches.few);
        rest = sym c.are_of.ensures ∙ c.if-not-are_of.false;
        all = c.requires;
      }),
    )
