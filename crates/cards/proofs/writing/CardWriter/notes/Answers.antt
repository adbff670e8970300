use Rattle.std.proofs.Common.{arith, ap, ◌∙◌}
use Rattle.std.specs.Slice.Iter.{chunks_exact_rest}
use Rattle.std.proofs.lemmas.Result.{MatchResult-from_err}
use Rattle.cards.specs.Card.{such_note, note_bytes}
use Rattle.cards.proofs.JudgeLaws.{words_fit}
use Rattle.cards.proofs.PutLaws.{wrote_as}
use Rattle.cards.proofs.WriteLaws.{same_none, notes_end, notes_one, notes_not}
use Rattle.cards.proofs.writing.CardWriter.notes.Goals as goal

pub note-requires : goal.note-requires
note-requires g c =
    let form = g.W.PlaceWidth.form in
    let q = c.in_ok-note.ensures in
    ap (such_note form) q.0 ∙ (words_fit form c.args.number c.in-Some.own.now q.1).such

pub returns-in_err-note : goal.returns-in_err-note
returns-in_err-note g c =
    let form = g.W.PlaceWidth.form in
    let s = c.in-Some.ensures.steps in
    let no = notes_not form c.args.number _ _ _ s.1.0 (s.1.1 ∙ c.loop-own.invariant.size) c.in_err-note.ensures in
    c.loop-own.invariant.left c.from_residual.result c.loop-own.self (record { same = same_none c.loop-own.self; wrote = MatchResult-from_err _ _ _ c.from_residual.ensures.0 (λ _. no) })

pub loop-own-preserved : goal.loop-own-preserved
loop-own-preserved g c =
    let form = g.W.PlaceWidth.form in
    let s = c.in-Some.ensures.steps in
    let q = c.in_ok-note.ensures in
    let put = wrote_as (ap (note_bytes form) q.0) c.note.ensures in
    record {
      size = s.0 ∙ c.loop-own.invariant.size;
      left = λ r u n. c.loop-own.invariant.left r u (notes_one form c.args.number _ _ _ s.1.0 (s.1.1 ∙ c.loop-own.invariant.size) q.1 put r u n);
    }

pub returns : goal.returns
returns g c =
    let l = c.loop-own in
    let s = c.in-None.ensures.steps in
    l.invariant.left _ l.self (notes_end g.W.PlaceWidth.form c.args.number (chunks_exact_rest l.own-iterator) l.self (omega (arith, s.1.0, l.invariant.size)))
