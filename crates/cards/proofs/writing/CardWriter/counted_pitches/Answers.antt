use borrow.Author.Tests.{ne_eqb}
use Rattle.cards.proofs.PutLaws.{wrote_none, wrote_then}
use Rattle.cards.proofs.ValueLaws.{length_pitches}
use Rattle.cards.proofs.writing.CardWriter.counted_pitches.Goals as goal

pub returns-else-pitches-ne0 : goal.returns-else-pitches-ne0
returns-else-pitches-ne0 g c = rw (length_pitches c.args.pitches.now, c.if-pitches-ne0.false) (wrote_none c.args.self.now)

pub returns-then-pitches-ne0 : goal.returns-then-pitches-ne0
returns-then-pitches-ne0 g c =
    let qs = c.args.pitches.now in
    rw (length_pitches qs, ne_eqb qs.count 0 c.if-pitches-ne0.true) (wrote_then c.append.ensures c.pitches.ensures)
