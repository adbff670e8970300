use Rattle.std.proofs.Common.{rules, arith, ◌-◌, length, take, drop, take_all, length-drop}
use Rattle.marks.proofs.RecordLaws.{pitch_at}
use Rattle.marks.proofs.records.Note.pitch.Goals as goal

pub returns : goal.returns
returns c =
    let words = c.args.self.0.now in
    pitch_at words c.args.which (take (length words - 12) (drop 12 words)) c.as_chunks.result.0.now c.in_ok-get.field-0.now c.pitch_of.result
    (take_all _ _ (omega (arith, length-drop 12 words))) c.as_chunks.ensures.front (search rules) (search rules) c.pitch_of.ensures
