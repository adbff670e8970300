use Rattle.std.proofs.Common.{◌≡◌, drop}
use Rattle.std.specs.Prelude.{◌&&◌}
use Rattle.rules.specs.Text.{every}
use Rattle.scan.specs.Classes.{in_class}
use Rattle.scan.proofs.classes.Class.holds.Given as goal

abbrev pub invariant-loop-byte : goal.invariant-loop-byte
invariant-loop-byte l = every (in_class l.self) l.part ≡ (l.holds && every (in_class l.self) (drop l.byte-index l.part))
