use Rattle.std.proofs.Common.{arith, refl, ◌+◌, ◌-◌, length}
use Rattle.cards.specs.Writer.{with_more}
use Rattle.cards.proofs.PutLaws.{put_fits, put_not, mid_length}
use Rattle.cards.proofs.writing.CardWriter.append.Goals as goal

pub returns-then-self : goal.returns-then-self
unfolding with_more
returns-then-self c = record { same_card = refl; same_room = refl; put = rw c.if-self.true }

pub returns-then-self-bytes : goal.returns-then-self-bytes
returns-then-self-bytes c =
    let w = c.args.self.now in
    record { same_card = refl; same_room = refl; put = rw c.if-self.false (put_not w.card.now c.args.bytes.now w.at 0 (omega arith) w.within) }

pub returns : goal.returns
returns c =
    let w = c.args.self.now in
    let k = w.at + length c.args.bytes.now - w.at in
    record {
      same_card = refl;
      same_room = rw c.copy_from_slice.ensures.after (mid_length w.card.now c.args.bytes.now w.at k (omega arith) (omega arith));
      put = rw (c.if-self.false, c.copy_from_slice.ensures.after) (put_fits w.card.now c.args.bytes.now w.at k (omega arith) (omega arith));
    }
