use Rattle.std.proofs.Common.{arith, ap, sym, ◌∙◌, ◌++◌, List, length, map, take}
use lib.Seq.{take-length, take_all}
use Rattle.cards.specs.Fields.{each, every}
use Rattle.cards.specs.Card.{pitch_bytes, such_pitch}
use Rattle.cards.specs.Values.{card_pitch}
use Rattle.cards.specs.declared.notes.Pitch.{Pitch}
use Rattle.cards.proofs.PutLaws.{wrote_none, wrote_then, wrote_as}
use Rattle.cards.proofs.ValueLaws.{each_taken, every_taken}
use Rattle.cards.proofs.writing.CardWriter.pitches.Goals as goal

pub loop-pitch-init : goal.loop-pitch-init
unfolding each
loop-pitch-init g c = wrote_none c.args.self.now

pub pitch-requires : goal.pitch-requires
pitch-requires g c =
    let such = such_pitch g.W.PlaceWidth.form in
    let qs : List Pitch = take c.args.pitches.now.count c.args.pitches.now.list in
    let all = ap (λ (l : List Pitch). every such (map card_pitch l)) (take-length qs) ∙ c.requires in
    ap (λ (q : Pitch). such (card_pitch q)) c.pitch-item.is ∙ every_taken card_pitch such c.pitch-item.result qs (length qs) c.loop-pitch.pitch-index (omega arith) (omega arith) all

pub loop-pitch-preserved : goal.loop-pitch-preserved
loop-pitch-preserved g c =
    let bytes = pitch_bytes g.W.PlaceWidth.form in
    let qs : List Pitch = take c.args.pitches.now.count c.args.pitches.now.list in
    let i = c.loop-pitch.pitch-index in
    let more = each_taken card_pitch bytes c.pitch-item.result qs i (omega arith) ∙ (λ j. each bytes (map card_pitch (take i qs)) ++ bytes (card_pitch (sym c.pitch-item.is j))) in
    wrote_as (sym more) (wrote_then c.loop-pitch.invariant c.pitch.ensures)

pub returns : goal.returns
returns g c =
    let qs : List Pitch = take c.args.pitches.now.count c.args.pitches.now.list in
    wrote_as (ap (λ (l : List Pitch). each (pitch_bytes g.W.PlaceWidth.form) (map card_pitch l)) (take_all c.loop-pitch.pitch-index qs (omega arith))) c.loop-pitch.invariant
