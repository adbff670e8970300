use Prim.Native.Nat.{◌-◌}
use native.Mathlib.Omega.{arith}
use Rattle.stores.proofs.Parts.{put_record}
use Rattle.stores.specs.Notes.{pitched, pitch_of}
use Rattle.stores.proofs.note.Records+NOTE.add_pitch.Goals as goal

pub returns-clause-pitched : goal.returns-clause-pitched
returns-clause-pitched c =
    let s = c.args.self.now in
    put_record (s.count - 1) (pitched (pitch_of c.args.pitch)) s.cells.now c.add_pitch.new.words (omega (arith, s.within)) c.add_pitch.ensures c.add_pitch.auto.words
