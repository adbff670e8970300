use Rattle.std.proofs.Common.{arith}
use Rattle.std.proofs.lemmas.Int.{ints}
use Rattle.cards.proofs.NumberLaws.{raised_sum}
use Rattle.cards.proofs.numbers.raised.Goals as goal

pub returns : goal.returns
returns c =
    let e = raised_sum c.args.k c.args.number (omega (arith, ints, c.from-2.ensures, c.from-3.ensures)) in
    (omega (arith, ints, e), omega (arith, ints, e))
