use Rattle.std.proofs.Common.{arith, ap, ◌∙◌, ◌≡◌, ◌+◌, ◌-◌, ◌*◌, ◌++◌, List, ℤ, take}
use Rattle.rules.specs.Limits.{first_pitch}
use Rattle.rules.specs.Words.{zeros}
use Rattle.cards.specs.Fields.{each}
use Rattle.cards.specs.Words.{note_words}
use Rattle.cards.specs.Values.{card_note}
use Rattle.cards.proofs.ReadLaws.{note_place, pitch_place, pitches_so_far, one_more_pitch, all_pitches}
use Rattle.cards.proofs.notes.Note.words.Goals as goal

pub first_words-requires : goal.first_words-requires
first_words-requires g c =
    let low = note_place g.W.PlaceWidth.form (card_note c.args.self.now) c.requires.0 in
    let few = g.met.W.PlaceWidth.worded in
    (omega (arith, low, few), c.requires.1)

pub loop-i-init : goal.loop-i-init
unfolding each
loop-i-init g c = ap (λ (l : List ℤ). l ++ zeros 32) (c.copy_from_slice.ensures.after ∙ c.first_words.ensures)

pub words-requires : goal.words-requires
words-requires g c =
    let low = pitch_place g.W.PlaceWidth.form c.args.self.now c.index-self-i.result c.loop-i.i c.requires.0 (omega arith) in
    let few = g.met.W.PlaceWidth.worded in
    omega (arith, low, few)

pub loop-i-preserved : goal.loop-i-preserved
loop-i-preserved g c =
    let i = c.loop-i.i in
    one_more_pitch c.args.bar i (12 + i * 4) (12 + i * 4 + 4 - (12 + i * 4)) c.args.self.now c.index-self-i.result c.loop-i.words c.copy_from_slice-in-loop-i.new.self (omega arith) (omega arith) (omega arith)
    (c.copy_from_slice-in-loop-i.ensures.after ∙ c.words.ensures) c.loop-i.invariant

pub returns : goal.returns
returns g c =
    let n = c.args.self.now in
    let e : c.loop-i.i ≡ n.pitches.count = omega arith in
    c.loop-i.invariant ∙ ap (λ k. take first_pitch (note_words c.args.bar (card_note n)) ++ pitches_so_far n k) e ∙ all_pitches c.args.bar n
