use Rattle.std.proofs.Common.{arith, sym}
use Rattle.tokens.specs.Rhythm.{all_lengths}
use Rattle.tokens.proofs.CycleLaws.{next_kept, left_kept}
use Rattle.tokens.proofs.rhythm.Cycle.take.Goals as goal

pub returns-then-self-clause-taken : goal.returns-then-self-clause-taken
returns-then-self-clause-taken c =
    let s = c.args.self.now in
    sym (next_kept s.lengths s.kept.count s.index c.index-self-self.result (omega arith) (all_lengths s) s.next c.if-self.true)

pub returns-then-self-clause-left : goal.returns-then-self-clause-left
returns-then-self-clause-left c =
    let s = c.args.self.now in
    sym (left_kept s.lengths s.kept.count s.index c.index-self-self.result (omega arith) (all_lengths s) s.next c.if-self.true)
