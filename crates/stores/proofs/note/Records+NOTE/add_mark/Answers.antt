use Prim.Native.Nat.{◌-◌}
use native.Mathlib.Omega.{arith}
use Rattle.stores.proofs.Parts.{put_record}
use Rattle.stores.specs.Notes.{marked}
use Rattle.stores.proofs.note.Records+NOTE.add_mark.Goals as goal

pub returns-clause-marked : goal.returns-clause-marked
returns-clause-marked c =
    let s = c.args.self.now in
    put_record (s.count - 1) (marked c.args.trill) s.cells.now c.add_mark.new.words (omega (arith, s.within)) c.add_mark.ensures c.add_mark.auto.words
