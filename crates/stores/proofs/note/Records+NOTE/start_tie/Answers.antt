use Prim.Native.Nat.{◌-◌}
use native.Mathlib.Omega.{arith}
use Rattle.stores.proofs.Parts.{put_record}
use Rattle.stores.specs.Notes.{tie_started}
use Rattle.stores.proofs.note.Records+NOTE.start_tie.Goals as goal

pub returns-clause-started : goal.returns-clause-started
returns-clause-started c =
    let s = c.args.self.now in
    put_record (s.count - 1) tie_started s.cells.now c.start_tie.new.words (omega (arith, s.within)) c.start_tie.ensures c.start_tie.auto.words
