use Rattle.std.proofs.Common.{rules, arith, ap, sym, ◌∙◌, ◌≡◌, ◌*◌, ◌++◌, length}
use Rattle.std.proofs.lemmas.Result.{MatchResult-from_err}
use borrow.Author.Tests.{lt-ltb, le-ltb, le-leb, lt-leb}
use Rattle.rules.specs.Limits.{note_size}
use Rattle.cards.specs.Fields.{every, each}
use Rattle.cards.specs.Card.{note_bytes, head_bytes}
use Rattle.cards.specs.Judged.{number_at, note_of, such_words}
use Rattle.cards.specs.Records.{notes_of}
use Rattle.cards.proofs.PutLaws.{wrote_then, wrote_as}
use Rattle.cards.proofs.WriteLaws.{same_none, same_then, same_wrote, first_is, front_notes}
use Rattle.cards.proofs.writing.CardWriter.bar.Goals as goal

pub returns-in_err-head : goal.returns-in_err-head
returns-in_err-head g c =
    let a = c.args in
    let no = first_is g.W.PlaceWidth.form a.number a.first a.notes.now a.words.now c.requires ∙ rw c.in_err-head.ensures in
    record { same = same_none a.self.now; wrote = MatchResult-from_err _ _ _ c.from_residual.ensures.0 (λ _. no) }

pub returns-then-count-eq0 : goal.returns-then-count-eq0
returns-then-count-eq0 g c =
    let a = c.args in
    let e : c.natural-count.result ≡ number_at a.words.now 1 = search (rules, c.natural-count.ensures) in
    let n = le-ltb 0 (number_at a.words.now 1) (omega (arith, e)) in
    record { same = same_none a.self.now; wrote = rw (first_is g.W.PlaceWidth.form a.number a.first a.notes.now a.words.now c.requires, c.in_ok-head.ensures.1, n) }

pub returns-then-notes-size : goal.returns-then-notes-size
returns-then-notes-size g c =
    let a = c.args in
    let e : c.natural-count.result ≡ number_at a.words.now 1 = search (rules, c.natural-count.ensures) in
    let n = lt-ltb 0 (number_at a.words.now 1) (omega (arith, e)) in
    let m = lt-leb (number_at a.words.now 1 * note_size) (length a.notes.now) (omega (arith, e)) in
    record { same = same_none a.self.now; wrote = rw (first_is g.W.PlaceWidth.form a.number a.first a.notes.now a.words.now c.requires, c.in_ok-head.ensures.1, n, m) }

pub returns-in_err-notes : goal.returns-in_err-notes
returns-in_err-notes g c =
    let a = c.args in
    let form = g.W.PlaceWidth.form in
    let e : c.natural-count.result ≡ number_at a.words.now 1 = search (rules, c.natural-count.ensures) in
    let n = lt-ltb 0 (number_at a.words.now 1) (omega (arith, e)) in
    let m = le-leb (number_at a.words.now 1 * note_size) (length a.notes.now) (omega (arith, e)) in
    let r = c.in_err-notes.ensures in
    let all = ap (every (such_words form a.number)) (sym (front_notes (λ v. v) c.natural-count.result a.notes.now (omega arith))) ∙ r.wrote in
    let no = first_is form a.number a.first a.notes.now a.words.now c.requires ∙ rw (c.in_ok-head.ensures.1, n, m, ← e) all in
    record { same = same_then (same_wrote c.head.ensures) r.same; wrote = MatchResult-from_err _ _ _ c.from_residual-in_err-notes.ensures.0 (λ _. no) }

pub returns : goal.returns
returns g c =
    let a = c.args in
    let form = g.W.PlaceWidth.form in
    let e : c.natural-count.result ≡ number_at a.words.now 1 = search (rules, c.natural-count.ensures) in
    let n = lt-ltb 0 (number_at a.words.now 1) (omega (arith, e)) in
    let m = le-leb (number_at a.words.now 1 * note_size) (length a.notes.now) (omega (arith, e)) in
    let h = c.in_ok-head.ensures in
    let r = c.in_ok-notes.ensures in
    let all = ap (every (such_words form a.number)) (sym (front_notes (λ v. v) c.natural-count.result a.notes.now (omega arith))) ∙ r.wrote.0 in
    let own = front_notes note_of c.natural-count.result a.notes.now (omega arith) ∙ ap (λ k. notes_of k a.notes.now) e in
    record {
      same = same_then (same_wrote c.head.ensures) r.same;
      wrote = record {
        counted = e;
        some = omega arith;
        room = omega arith;
        such = first_is form a.number a.first a.notes.now a.words.now c.requires ∙ rw (h.1, n, m, ← e) all;
        put = wrote_as (λ i. head_bytes (e i) (h.0 i) ++ each (note_bytes form) (own i)) (wrote_then c.head.ensures r.wrote.1);
      };
    }
