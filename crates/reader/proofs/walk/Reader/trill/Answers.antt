use Rattle.std.proofs.Common.{rules, ◌≡◌, true, false, nat_le}
use Rattle.rules.specs.Limits.{mark_capacity}
use Rattle.stores.specs.declared.note.TheConstants.{MARK_COUNT}
use Rattle.reader.specs.Reader.{view_of}
use Rattle.view.specs.View.{has_note, last_number}
use Rattle.reader.proofs.MarkLaws.{last-marks}
use Rattle.reader.proofs.walk.Reader.trill.Goals as goal

pub returns-in_err-map_err-clause-marked : goal.returns-in_err-map_err-clause-marked
returns-in_err-map_err-clause-marked c = λ figure.
    let v = view_of c.args.self.now figure in
    let h : has_note v ≡ true = search rules in
    let m : nat_le mark_capacity (last_number MARK_COUNT v) ≡ true = search (rules, last-marks v) in
    rw (h, m) (search rules)

pub returns-clause-marked : goal.returns-clause-marked
returns-clause-marked c = λ figure.
    let v = view_of c.args.self.now figure in
    let h : has_note v ≡ true = search rules in
    let m : nat_le mark_capacity (last_number MARK_COUNT v) ≡ false = search (rules, last-marks v) in
    rw (h, m) (search rules)
