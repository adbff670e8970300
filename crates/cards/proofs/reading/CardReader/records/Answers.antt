use Rattle.std.proofs.Common.{rules, arith, sym, ◌∙◌, ◌≡◌}
use borrow.Author.Tests.{eq-eqb, lt-ltb}
use Rattle.cards.specs.Taken.{card_taken, front_taken}
use Rattle.cards.proofs.CardTaken.{bars_sound}
use Rattle.cards.proofs.reading.CardReader.records.Goals as goal

pub returns-clause-read : goal.returns-clause-read
unfolding card_taken front_taken
returns-clause-read g c =
    let v = c.in_ok-counts.ensures.read in
    let form = g.W.PlaceWidth.form in
    let same : c.in_ok-byte.field-0 ≡ form.first = search rules in
    let done = sym c.is_done.ensures ∙ c.if-not-is_done.false in
    record {
      list = v.list;
      taken = rw (c.in_ok-byte.ensures, eq-eqb c.in_ok-byte.field-0 form.first same, c.in_ok-count.ensures, lt-ltb 0 c.in_ok-count.count (omega arith), v.taken, done);
      notes_are = v.notes_are;
      bars_are = v.bars_are ∙ sym (bars_sound form c.in_ok-count.count c.four.new.self.left.now (v.list, c.bars.new.self.left.now) v.taken).0;
      notes_stored = v.notes_stored;
      bars_stored = v.bars_stored;
    }
