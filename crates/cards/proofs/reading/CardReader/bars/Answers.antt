use Rattle.std.proofs.Common.{rules, arith, refl, ap, ◌∙◌, ◌≡◌, ◌*◌, [], sym}
use mathlib.Core.Option.{none}
use Rattle.rules.specs.Limits.{note_size, bar_size}
use Rattle.cards.specs.Card.{note_count}
use Rattle.cards.specs.Words.{note_cells, bar_cells}
use Rattle.cards.specs.Taken.{bar_behind, bar_taken, bars_taken, repeated}
use Rattle.cards.proofs.CardTaken.{bars_sound}
use Rattle.cards.proofs.TakenLaws.{stopped}
use Rattle.cards.proofs.ReadLaws.{append_none, bars_more}
use Rattle.cards.proofs.reading.CardReader.bars.Goals as goal

pub loop-init : goal.loop-init
unfolding bars_taken repeated note_count note_cells bar_cells
loop-init g c = let n = c.args.notes.now in let b = c.args.bars.now in record {
  same_notes = record { same_cells = refl; same_room = refl };
  same_bars = record { same_cells = refl; same_room = refl };
  read = record { list = []; taken = refl; notes_are = refl; bars_are = refl; notes_stored = append_none n.cells.now (n.count * note_size); bars_stored = append_none b.cells.now (b.count * bar_size) };
}

pub bar-requires : goal.bar-requires
bar-requires g c =
    let v = c.loop.invariant.read in
    let s = bars_sound g.W.PlaceWidth.form c.loop.counter c.args.self.now.left.now (v.list, c.loop.self.left.now) v.taken in
    (omega (arith, v.bars_are, v.notes_are, s.0, s.2.some_each), omega (arith, v.notes_are, s.2.few))

pub returns-in_err-counts-clause-read : goal.returns-in_err-counts-clause-read
unfolding bars_taken
returns-in_err-counts-clause-read g c =
    let form = g.W.PlaceWidth.form in
    let v = c.loop.invariant.read in
    let one : bar_behind form (note_count v.list) c.loop.self.left.now ≡ none = ap (λ k. bar_behind form k c.loop.self.left.now) (sym v.notes_are) ∙ c.in_err-counts.ensures.read in
    let no : bars_taken form c.args.count c.args.self.now.left.now ≡ none = stopped (bar_taken form) c.args.count c.loop.counter c.args.self.now.left.now (omega arith) v.taken one in
    search rules

pub loop-preserved : goal.loop-preserved
loop-preserved g c = let v = c.loop.invariant in let b = c.in_ok-counts.ensures in record {
  same_notes = search rules;
  same_bars = search rules;
  read = bars_more v.read b.read;
}
