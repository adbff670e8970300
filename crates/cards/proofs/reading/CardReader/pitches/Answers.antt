use Rattle.std.proofs.Common.{rules, arith, ◌≡◌}
use mathlib.Core.Option.{none}
use borrow.Author.Tests.{le-leb}
use Rattle.cards.specs.Taken.{pitches_taken, pitch_taken}
use Rattle.cards.proofs.TakenLaws.{stopped}
use Rattle.cards.proofs.reading.CardReader.pitches.Goals as goal

pub returns-in_err-pitch : goal.returns-in_err-pitch
unfolding pitches_taken
returns-in_err-pitch g c =
    let form = g.W.PlaceWidth.form in
    let no : pitches_taken form c.args.count c.args.self.now.left.now ≡ none = rw (le-leb c.args.count 8 (omega arith)) (stopped (λ _. pitch_taken form) c.args.count c.loop.counter c.args.self.now.left.now (omega arith) c.loop.invariant.taken c.in_err-pitch.ensures) in
    search rules
