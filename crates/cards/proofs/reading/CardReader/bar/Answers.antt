use Rattle.std.proofs.Common.{arith, ap, sym, ◌∙◌, ◌≡◌, length}
use Rattle.std.proofs.lemmas.Result.{on_ok_weaker}
use Rattle.stores.specs.Cells.{with_record}
use Rattle.rules.specs.Limits.{bar_size}
use Rattle.cards.specs.Values.{card_head}
use Rattle.cards.specs.Words.{head_words}
use Rattle.cards.proofs.CardTaken.{head_sound, notes_sound}
use Rattle.cards.proofs.HeadLaws.{length-head-words}
use Rattle.cards.specs.Taken.{bar_behind}
use Rattle.cards.proofs.ReadLaws.{head_key, begun, within}
use Rattle.cards.proofs.reading.CardReader.bar.Goals as goal

pub bar-requires : goal.bar-requires
bar-requires g c = head_key (card_head c.in_ok-count.head) (head_sound c.args.self.now.left.now ((c.in_ok-count.count, card_head c.in_ok-count.head), c.head.new.self.left.now) c.in_ok-count.ensures).1

pub returns-clause-read : goal.returns-clause-read
unfolding bar_behind
returns-clause-read g c =
    let form = g.W.PlaceWidth.form in
    let counts = c.args.counts in
    let count = c.in_ok-count.count in
    let h = card_head c.in_ok-count.head in
    let v = c.in_ok-notes.ensures.read in
    let size = (notes_sound form count c.head.new.self.left.now (v.list, c.notes.new.self.left.now) v.taken).0 in
    let b = c.store.ensures in
    let words = head_words counts.notes count h in
    let old = c.args.bars.now in
    let stored = on_ok_weaker c.store.result (λ e. e ∙ ap (with_record bar_size old.cells.now old.count) c.bar.ensures.numbers) b.stored in
    let own = begun c.store.result bar_size words old c.store.new.self (length-head-words counts.notes count h) b.full b.err stored b.counted in
    record {
      bar = record { head = h; notes = v.list };
      taken = rw (c.in_ok-count.ensures, within counts.notes count (omega arith) (omega arith), v.taken);
      notes_are = omega (arith, size);
      bars_are = omega arith;
      notes_stored = v.stored;
      bars_stored = (let e : count ≡ length v.list = sym size in rw e at own);
    }
