use Rattle.std.proofs.Common.{sym, ap, ◌∙◌, ◌≡◌, ◌*◌, ◌+◌, rules}
use mathlib.Core.Bool.{true, false, false≢true}
use Rattle.std.proofs.lemmas.Result.{MatchResult-from_err}
use Rattle.cards.specs.Words.{normal_word}
use Rattle.cards.specs.Judged.{number_at, note_of}
use Rattle.cards.specs.Card as card
use Rattle.cards.specs.Card.{such_note}
use Rattle.cards.specs.Values.{card_note, card_pitches, numbered}
use Rattle.cards.proofs.JudgeLaws.{words_not, fit_words, note_fits, note_pitches, numbers_in, note_like}
use Rattle.cards.proofs.ValueLaws.{rest_of}
use Rattle.cards.proofs.notes.Note.of_words.Goals as goal

pub returns-in_err-pitches : goal.returns-in_err-pitches
returns-in_err-pitches g c =
    let w = c.args.words.now in
    let form = g.W.PlaceWidth.form in
    MatchResult-from_err _ _ _ c.from_residual.ensures.0 (λ _. words_not form c.args.bar w (λ f.
    c.in_err-pitches.ensures f.few (let all = (note_fits form (note_of w) f.such).all in rw (note_pitches form c.args.bar w f.few) at all)))

pub returns-then-not-are_zero : goal.returns-then-not-are_zero
returns-then-not-are_zero g c =
    let w = c.args.words.now in
    let n = c.in_ok-pitches.ensures in
    let z = rw (rest_of w (12 + 4 * c.in_ok-pitches.pitches.count), n.count) at c.are_zero.ensures in
    words_not g.W.PlaceWidth.form c.args.bar w (λ f. false≢true (sym c.if-not-are_zero.true ∙ z ∙ f.zero))

pub returns-in_err-note : goal.returns-in_err-note
returns-in_err-note g c =
    let w = c.args.words.now in
    let form = g.W.PlaceWidth.form in
    let place : c.natural.result ≡ number_at w 0 = search (rules, c.natural.ensures) in
    let k = numbered (numbers_in c.natural.result w) (card_pitches c.in_ok-pitches.pitches) in
    let e : such_note form k ≡ false = search (rules, c.in_err-note.ensures) in
    let like = note_like form c.args.bar w c.natural.result c.in_ok-pitches.pitches place c.in_ok-pitches.ensures in
    MatchResult-from_err _ _ _ c.from_residual-in_err-note.ensures.0 (λ _. words_not form c.args.bar w (λ f. false≢true (sym e ∙ ap (such_note form) like ∙ f.such)))

pub returns-then-natural-from : goal.returns-then-natural-from
unfolding note_of
returns-then-natural-from g c =
    let w = c.args.words.now in
    let form = g.W.PlaceWidth.form in
    let place : c.natural.result ≡ number_at w 0 = search (rules, c.natural.ensures) in
    let k = numbered (numbers_in c.natural.result w) (card_pitches c.in_ok-pitches.pitches) in
    let e : (card_note c.in_ok-note.note ≡ k) × (such_note form k ≡ true) = search (rules, c.in_ok-note.ensures) in
    let e7 : c.natural-2.result ≡ number_at w 7 = search (rules, c.natural-2.ensures) in
    let like = note_like form c.args.bar w c.natural.result c.in_ok-pitches.pitches place c.in_ok-pitches.ensures in
    let is : card_note c.in_ok-note.note ≡ note_of w = e.0 ∙ like in
    let actual : c.in_ok-note.note.actual ≡ number_at w 6 = ap (λ (x : card.Note). x.actual) is in
    words_not form c.args.bar w (λ f. c.if-natural-from.true (e7 ∙ f.normal ∙ ap normal_word (sym actual) ∙ sym c.normal.ensures ∙ sym c.from.ensures))

pub returns-then-natural-bar : goal.returns-then-natural-bar
returns-then-natural-bar g c =
    let w = c.args.words.now in
    let e : c.natural-3.result ≡ number_at w 11 = search (rules, c.natural-3.ensures) in
    words_not g.W.PlaceWidth.form c.args.bar w (λ f. c.if-natural-bar.true (e ∙ f.number))

pub returns : goal.returns
unfolding note_of
returns g c =
    let w = c.args.words.now in
    let form = g.W.PlaceWidth.form in
    let n = c.in_ok-pitches.ensures in
    let place : c.natural.result ≡ number_at w 0 = search (rules, c.natural.ensures) in
    let k = numbered (numbers_in c.natural.result w) (card_pitches c.in_ok-pitches.pitches) in
    let e : (card_note c.in_ok-note.note ≡ k) × (such_note form k ≡ true) = search (rules, c.in_ok-note.ensures) in
    let e7 : c.natural-2.result ≡ number_at w 7 = search (rules, c.natural-2.ensures) in
    let e11 : c.natural-3.result ≡ number_at w 11 = search (rules, c.natural-3.ensures) in
    let like = note_like form c.args.bar w c.natural.result c.in_ok-pitches.pitches place n in
    let is : card_note c.in_ok-note.note ≡ note_of w = e.0 ∙ like in
    let actual : c.in_ok-note.note.actual ≡ number_at w 6 = ap (λ (x : card.Note). x.actual) is in
    let z = rw (rest_of w (12 + 4 * c.in_ok-pitches.pitches.count), n.count) at c.are_zero.ensures in (
      is,
      fit_words form c.args.bar w (record {
        few = n.few;
        normal = sym e7 ∙ c.if-natural-from.false ∙ c.from.ensures ∙ c.normal.ensures ∙ ap normal_word actual;
        number = sym e11 ∙ c.if-natural-bar.false;
        zero = sym z ∙ c.if-not-are_zero.false;
        such = ap (such_note form) (sym like) ∙ e.1;
      }),
    )
