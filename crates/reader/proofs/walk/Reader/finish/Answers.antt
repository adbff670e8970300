use Rattle.std.proofs.Common.{rules, ◌≡◌, [], Ok}
use Rattle.reader.specs.Reader.{view_of}
use Rattle.view.specs.Steps.{stored_bar}
use Rattle.reader.proofs.ReadLaws.{counts_fit}
use Rattle.reader.proofs.walk.Reader.finish.Goals as goal

pub returns-in_err-map_err-clause-finished : goal.returns-in_err-map_err-clause-finished
returns-in_err-map_err-clause-finished c = λ figure. let h = c.store_bar.ensures.stored figure in search rules

pub returns-then-self-eq0-clause-finished : goal.returns-then-self-eq0-clause-finished
returns-then-self-eq0-clause-finished c = λ figure. let h = c.store_bar.ensures.stored figure in search rules

pub returns-clause-finished : goal.returns-clause-finished
returns-clause-finished c = λ figure. let h = c.store_bar.ensures.stored figure in search rules

pub overflow_cast-result : goal.overflow_cast-result
overflow_cast-result c =
    let s = c.store_bar.ensures.stored [] in
    let h : stored_bar 0 (view_of c.args.self.now []) ≡ Ok (view_of c.store_bar.new.self []) = search rules in
    let m = counts_fit (view_of c.args.self.now []) (view_of c.store_bar.new.self []) c.requires 0 h in search rules

pub overflow_cast-result-2 : goal.overflow_cast-result-2
overflow_cast-result-2 c =
    let s = c.store_bar.ensures.stored [] in
    let h : stored_bar 0 (view_of c.args.self.now []) ≡ Ok (view_of c.store_bar.new.self []) = search rules in
    let m = counts_fit (view_of c.args.self.now []) (view_of c.store_bar.new.self []) c.requires 0 h in search rules
