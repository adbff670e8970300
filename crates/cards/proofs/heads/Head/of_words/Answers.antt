use Rattle.std.proofs.Common.{sym, ap, ◌∙◌, ◌≡◌, rules, pos, get_or}
use mathlib.Core.Bool.{true, false, false≢true}
use Rattle.std.proofs.lemmas.Result.{MatchResult-from_err, MatchResult-weaker}
use Rattle.cards.specs.Judged.{number_at, key_of, such_key, head_of}
use Rattle.cards.specs.Card.{such_head}
use Rattle.cards.specs.Values.{key_numbered, card_head, head_numbered}
use Rattle.cards.specs.Places.{Judges}
use Rattle.cards.proofs.JudgeLaws.{head_words_not, fit_head_words}
use Rattle.cards.proofs.heads.Head.of_words.Goals as goal

pub returns-then-natural-first : goal.returns-then-natural-first
returns-then-natural-first c =
    let w = c.args.words.now in
    let e : c.natural.result ≡ number_at w 0 = search (rules, c.natural.ensures) in
    head_words_not c.args.first w (λ f. c.if-natural-first.true (e ∙ f.first_note))

pub returns-in_err-fifths : goal.returns-in_err-fifths
returns-in_err-fifths c =
    let w = c.args.words.now in
    let e : such_key (get_or w 3 (pos 0)) (get_or w 4 (pos 0)) ≡ false = search (rules, c.in_err-fifths.ensures) in
    MatchResult-from_err _ _ _ c.from_residual.ensures.0 (λ _. head_words_not c.args.first w (λ f. false≢true (sym e ∙ f.key)))

pub returns : goal.returns
unfolding head_of
returns c =
    let w = c.args.words.now in
    let e0 : c.natural.result ≡ number_at w 0 = search (rules, c.natural.ensures) in
    let key : (key_numbered c.in_ok-fifths.fifths ≡ key_of (get_or w 3 (pos 0)) (get_or w 4 (pos 0))) × (such_key (get_or w 3 (pos 0)) (get_or w 4 (pos 0)) ≡ true) = search (rules, c.in_ok-fifths.ensures) in
    let n = head_numbered (record { clef = get_or w 2 (pos 0); fifths = c.in_ok-fifths.fifths; numerator = get_or w 5 (pos 0); denominator = get_or w 6 (pos 0); symbol = get_or w 7 (pos 0); left = get_or w 8 (pos 0); right = get_or w 9 (pos 0) }) in
    let new : Judges such_head card_head n c.new.result = search (rules, c.new.ensures) in
    let like : n ≡ head_of w = λ i. record {
      clef = number_at w 2;
      key = key.0 i;
      numerator = number_at w 5;
      denominator = number_at w 6;
      symbol = number_at w 7;
      left = number_at w 8;
      right = number_at w 9;
    } in
    MatchResult-weaker c.new.result new
    (λ a p. (p.0 ∙ like, fit_head_words c.args.first w (record { first_note = sym e0 ∙ c.if-natural-first.false; key = key.1; such = ap such_head (sym like) ∙ p.1 })))
    (λ _ no. head_words_not c.args.first w (λ f. false≢true (sym no ∙ ap such_head like ∙ f.such)))
