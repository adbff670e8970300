use native.Mathlib.Omega.{arith}
use mathlib.Core.Bool.{false}
use Rattle.stores.specs.Notes.{marked}
use Rattle.stores.proofs.Parts.{put_record}
use Rattle.stores.proofs.group.fermata.Goals as goal

pub returns-clause-marked : goal.returns-clause-marked
returns-clause-marked c =
    let t = c.timed_in-at.result.last in
    rw (← c.timed_in-at.ensures.last) (put_record t (marked false) c.args.part.now c.add_mark.new.words (omega (arith, c.requires.room, c.requires.some, c.timed_in-at.ensures.last_within)) c.add_mark.ensures c.add_mark.auto.words)
