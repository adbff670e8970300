use Rattle.std.proofs.Common.{arith, sym}
use Rattle.tokens.specs.Rhythm.{all_lengths}
use Rattle.tokens.proofs.CycleLaws.{next_kept}
use Rattle.tokens.proofs.rhythm.Cycle.peek.Goals as goal

pub returns-then-self : goal.returns-then-self
returns-then-self c =
    let s = c.args.self.now in
    sym (next_kept s.lengths s.kept.count s.index c.index-self-self.result (omega arith) (all_lengths s) s.next c.if-self.true)
