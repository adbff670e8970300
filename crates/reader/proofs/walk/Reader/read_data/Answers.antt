use Rattle.std.proofs.Common.{rules, [], refl}
use Rattle.scan.specs.Parts.{part_of}
use Rattle.reader.specs.Reader.{view_of}
use Rattle.reader.proofs.ReadLaws.{ready_behind, run_refused, data_reads}
use Rattle.reader.proofs.walk.Reader.read_data.Goals as goal

pub returns-in_err-walk-clause-read : goal.returns-in_err-walk-clause-read
returns-in_err-walk-clause-read c = let h = run_refused c.requires (part_of c.args.data) c.in_err-walk.ensures.run in search rules

pub finish-requires : goal.finish-requires
finish-requires c = let h = (ready_behind c.requires (part_of c.args.data) c.in_ok-walk.ensures.run).sound in record { first = h.first; capped = h.capped; few = h.few; blank = h.blank }

pub returns-clause-read : goal.returns-clause-read
returns-clause-read c =
    data_reads c.requires (part_of c.args.data) c.in_ok-walk.ensures.run c.finish.result (view_of c.finish.new.self c.walk.new.figure) (view_of c.finish.new.self []) (c.finish.ensures.finished c.walk.new.figure) c.finish.ensures.counts refl refl refl
