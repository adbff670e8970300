use Rattle.std.proofs.Common.{arith, sym, ◌∙◌, ◌*◌}
use Rattle.std.specs.Slice.Iter.{chunks_exact_rest}
use Rattle.std.proofs.lemmas.List.{take_rest, length-drop}
use Rattle.std.proofs.lemmas.Result.{MatchResult-from_err}
use Rattle.rules.specs.Limits.{note_size}
use Rattle.cards.proofs.WriteLaws.{bars_end, bars_left, bars_one, bars_not}
use Rattle.cards.proofs.writing.CardWriter.bars.Goals as goal

pub returns-in_err-count : goal.returns-in_err-count
returns-in_err-count g c =
    let l = c.loop-words in
    let s = c.in-Some.ensures.steps in
    let no = bars_not g.W.PlaceWidth.form l.number l.first l.rest.now _ _ _ s.1.0 (s.1.1 ∙ l.invariant.size) c.in_err-count.ensures.wrote in
    l.invariant.left c.from_residual.result c.bar.new.self (record { same = c.in_err-count.ensures.same; wrote = MatchResult-from_err _ _ _ c.from_residual.ensures.0 (λ _. no) })

pub loop-words-preserved : goal.loop-words-preserved
loop-words-preserved g c =
    let l = c.loop-words in
    let s = c.in-Some.ensures.steps in
    let q = c.in_ok-count.ensures.wrote in
    let rest = take_rest l.rest.now (c.in_ok-count.count * note_size) in
    record {
      size = s.0 ∙ l.invariant.size;
      few = omega (arith, q.some, l.invariant.few);
      within = rw rest (omega (arith, q.room, l.invariant.within, length-drop (c.in_ok-count.count * note_size) l.rest.now));
      left = λ r u n. l.invariant.left r u (bars_one g.W.PlaceWidth.form l.number l.first l.rest.now _ _ _ s.1.0 (s.1.1 ∙ l.invariant.size) q.such q.put q.counted rest r u n);
    }

pub returns-then-not-is_empty : goal.returns-then-not-is_empty
returns-then-not-is_empty g c =
    let l = c.loop-words in
    let s = c.in-None.ensures.steps in
    l.invariant.left _ l.self (bars_left g.W.PlaceWidth.form l.number l.first l.rest.now (chunks_exact_rest l.words-iterator) l.self _ (omega (arith, s.1.0, l.invariant.size)) (sym c.if-not-is_empty.ensures))

pub returns : goal.returns
returns g c =
    let l = c.loop-words in
    let s = c.in-None.ensures.steps in
    l.invariant.left _ l.self (bars_end g.W.PlaceWidth.form l.number l.first l.rest.now (chunks_exact_rest l.words-iterator) l.self (omega (arith, s.1.0, l.invariant.size)) (sym c.if-not-is_empty.ensures))
