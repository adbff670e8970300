use Rattle.std.proofs.Common.{arith, sym, ◌∙◌, ◌/◌, ◌∷◌, ◌++◌, length}
use Rattle.std.proofs.lemmas.Result.{MatchResult-weaker}
use Rattle.rules.specs.Limits.{bar_size}
use Rattle.cards.specs.Fields.{number, each}
use Rattle.cards.specs.Card.{bar_bytes, card_of}
use Rattle.cards.specs.Written.{records_in}
use Rattle.cards.proofs.PutLaws.{wrote_then, wrote_as}
use Rattle.cards.proofs.WriteLaws.{same_none, same_then, same_wrote, length_bars, cells_not, cells_judged}
use Rattle.cards.proofs.writing.CardWriter.records.Goals as goal
use Rattle.cards.proofs.writing.CardWriter.records.Goals.{then-count-eq0-via-then-count-eq0, then-count-eq0-via-else-count-eq0+then-bars-count, then-notes-via-then-notes, then-notes-via-else-notes+then-notes-count}

pub returns-then-count-eq0 : goal.returns-then-count-eq0
returns-then-count-eq0 g c =
    let a = c.args in
    record {
      same = same_none a.self.now;
      wrote = cells_not g.W.PlaceWidth.form a.notes.now a.bars.now (λ f. elim c.then-count-eq0.branch [
        | then-count-eq0-via-then-count-eq0 w ↦ omega (arith, f.some)
        | then-count-eq0-via-else-count-eq0+then-bars-count w ↦ w.if-bars-count.true f.whole
      ]);
    }

pub returns-then-notes : goal.returns-then-notes
returns-then-notes g c =
    let a = c.args in
    record {
      same = same_none a.self.now;
      wrote = cells_not g.W.PlaceWidth.form a.notes.now a.bars.now (λ f. elim c.then-notes.branch [
        | then-notes-via-then-notes w ↦ omega (arith, f.few)
        | then-notes-via-else-notes+then-notes-count w ↦ omega (arith, f.noted)
      ]);
    }

pub returns : goal.returns
unfolding card_of
returns g c =
    let a = c.args in
    let form = g.W.PlaceWidth.form in
    let b = c.bars.ensures in
    let judged = cells_judged form a.notes.now a.bars.now (omega arith) (omega arith) (omega arith) in
    let front = wrote_then c.append.ensures c.four.ensures in
    let count = sym (length_bars (length a.bars.now / bar_size) a.notes.now a.bars.now) in
    record {
      same = same_then (same_wrote front) b.same;
      wrote = MatchResult-weaker c.bars.result b.wrote
          (λ _ m. (judged ∙ m.0, wrote_as (λ i. c.first.ensures i ∷ number 4 (count i) ++ each (bar_bytes form) (records_in a.notes.now a.bars.now)) (wrote_then front m.1)))
          (λ _ m. judged ∙ m);
    }
