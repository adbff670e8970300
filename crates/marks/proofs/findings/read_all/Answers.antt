use Rattle.std.proofs.Common.{rules}
use Rattle.std.specs.Prelude.{None, Some}
use Rattle.marks.proofs.RecordLaws.{findings_more}
use Rattle.marks.proofs.findings.read_all.Goals as goal
use Rattle.marks.proofs.findings.read_all.Goals.{in-Some+in_ok-push, in_default}

pub loop-diagnostic-preserved : goal.loop-diagnostic-preserved
loop-diagnostic-preserved c =
    let more = findings_more c.args.diagnostics.now c.loop-diagnostic.diagnostic-index c.loop-diagnostic.findings.items c.match-read.findings.items in
    elim c.match-read.branch [
      | in-Some+in_ok-push w ↦ more _ (Some w.in-Some.finding) (search rules) c.loop-diagnostic.invariant w.in-Some.ensures (search rules)
      | in_default w ↦ more _ None (search rules) c.loop-diagnostic.invariant w.in_default.ensures (search rules)
    ]
