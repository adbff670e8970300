use Rattle.std.proofs.Common.{take}
use Rattle.marks.specs.Findings.{AreFindings}
use Rattle.marks.proofs.findings.read_all.Given as goal

abbrev pub invariant-loop-diagnostic : goal.invariant-loop-diagnostic
invariant-loop-diagnostic l = AreFindings (take l.diagnostic-index l.diagnostics) l.findings.items
