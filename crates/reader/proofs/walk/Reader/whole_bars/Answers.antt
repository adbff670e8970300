use Rattle.std.proofs.Common.{rules, arith, ◌≡◌, ◌-◌, ◌+◌, suc}
use Rattle.reader.specs.Reader.{view_of}
use Rattle.reader.proofs.BarLaws.{refused, further, barred, unrested}
use Rattle.rules.specs.Limits.{note_size}
use Rattle.stores.proofs.Blank.{blank-record}
use Rattle.reader.proofs.walk.Reader.whole_bars.Goals as goal

pub whole_bar-requires-clause-blank : goal.whole_bar-requires-clause-blank
whole_bar-requires-clause-blank c = blank-record note_size _ _ c.requires.blank

pub whole_bar-requires-in-loop-clause-blank : goal.whole_bar-requires-in-loop-clause-blank
whole_bar-requires-in-loop-clause-blank c = blank-record note_size _ _ c.in_ok-barline.ensures.sound.blank

pub returns-in_err-whole_bar-clause-whole_bars : goal.returns-in_err-whole_bar-clause-whole_bars
returns-in_err-whole_bar-clause-whole_bars c = λ figure.
    let h = refused c.args.span.place.0 0 (c.in-Some.count - 1) (view_of c.args.self.now figure) c.in_err-whole_bar.field-0.0 (omega arith) (c.in_err-whole_bar.ensures.whole_bar figure) in
    search rules

pub returns-in_err-barline-clause-whole_bars : goal.returns-in_err-barline-clause-whole_bars
returns-in_err-barline-clause-whole_bars c = λ figure.
    let h = barred c.args.span.place.0 (c.loop.counter - 1) (c.in-Some.count - 1) (view_of c.args.self.now figure) (view_of c.loop.self figure) c.in_err-barline.field-0.0 (omega arith) (c.loop.invariant.bars figure) (c.in_err-barline.ensures.barline figure) in
    search rules

pub returns-in_err-whole_bar-2-clause-whole_bars :
    goal.returns-in_err-whole_bar-2-clause-whole_bars
returns-in_err-whole_bar-2-clause-whole_bars c = λ figure.
    let h = unrested c.args.span.place.0 (c.loop.counter - 1) (c.in-Some.count - 1) (view_of c.args.self.now figure) (view_of c.loop.self figure) (view_of c.barline.new.self figure) c.in_err-whole_bar-2.field-0.0 (omega arith) (c.loop.invariant.bars figure) (c.in_ok-barline.ensures.barline figure) (c.in_err-whole_bar-2.ensures.whole_bar figure) in
    search rules

pub loop-init : goal.loop-init
loop-init c = record {
  same = c.in_ok-whole_bar.ensures.same;
  sound = c.in_ok-whole_bar.ensures.sound c.requires;
  some = omega arith;
  within = omega arith;
  bars = c.in_ok-whole_bar.ensures.whole_bar;
}

pub loop-preserved : goal.loop-preserved
loop-preserved c = record {
  same = search rules;
  sound = c.in_ok-whole_bar-2.ensures.sound c.in_ok-barline.ensures.sound;
  some = omega arith;
  within = omega arith;
  bars = λ figure.
      let h = further c.args.span.place.0 (c.loop.counter - 1) (view_of c.args.self.now figure) (view_of c.loop.self figure) (view_of c.barline.new.self figure) (view_of c.whole_bar-in-loop.new.self figure) (c.loop.invariant.bars figure) (c.in_ok-barline.ensures.barline figure) (c.in_ok-whole_bar-2.ensures.whole_bar figure) in
      let k : c.loop.counter + 1 - 1 ≡ suc (c.loop.counter - 1) = omega arith in
      rw k h;
}

pub returns-clause-whole_bars : goal.returns-clause-whole_bars
returns-clause-whole_bars c = λ figure.
    let k : c.in-Some.count - 1 ≡ c.loop.counter - 1 = omega arith in
    let h = c.loop.invariant.bars figure in
    rw (c.in-Some.is, k) h
