use Rattle.std.proofs.Common.{ap, sym, ◌∙◌, ◌≡◌, rules}
use mathlib.Core.Bool.{true}
use Rattle.cards.specs.Judged.{natural}
use Rattle.cards.specs.Card.{such_note}
use Rattle.cards.specs.Taken.{note_in}
use Rattle.cards.specs.Values.{card_pitches, card_note, numbered}
use Rattle.cards.proofs.NoteTaken.{pitches_sound, note_of_fields}
use Rattle.cards.proofs.reading.CardReader.note.Goals as goal

pub new-requires : goal.new-requires
new-requires g c = (pitches_sound g.W.PlaceWidth.form _ _ _ c.in_ok-pitches.ensures).2

pub returns : goal.returns
returns g c =
    let form = g.W.PlaceWidth.form in
    let k = numbered (record { place = c.in_ok-place.place; kind = c.from.result; duration = c.from-2.result; dots = c.from-3.result; ties = c.from-4.result; beam = c.from-5.result; actual = c.from-6.result; mark_count = c.from-7.result; marks = c.from-8.result }) (card_pitches c.in_ok-pitches.pitches) in
    let n : (card_note c.in_ok-note.note ≡ k) × (such_note form k ≡ true) = search (rules, c.in_ok-note.ensures) in
    let is : note_in c.in_ok-place.place c.in_ok-size.size c.in_ok-kind.kind c.in_ok-ties.ties c.in_ok-beam.beam c.in_ok-actual.actual c.in_ok-mark_count.mark_count c.in_ok-marks.marks (card_pitches c.in_ok-pitches.pitches) ≡ card_note c.in_ok-note.note =
    sym (n.0 ∙ (λ i. record {
      place = c.in_ok-place.place;
      duration = natural (c.from-2.ensures i);
      dots = natural (c.from-3.ensures i);
      kind = natural (c.from.ensures i);
      ties = natural (c.from-4.ensures i);
      beam = natural (c.from-5.ensures i);
      actual = natural (c.from-6.ensures i);
      mark_count = natural (c.from-7.ensures i);
      marks = natural (c.from-8.ensures i);
      pitches = card_pitches c.in_ok-pitches.pitches;
    })) in
    note_of_fields form _ _ _ _ _ _ _ _ _ _ _ _ _ _ _ _ _ _ _ _ _ _ _ (card_note c.in_ok-note.note)
    c.in_ok-map.ensures
    c.in_ok-place.ensures
    c.in_ok-size.ensures
    (rw c.has_bit.ensures at c.in_ok-kind.ensures)
    (rw c.has_bit-2.ensures at c.in_ok-ties.ensures)
    (rw c.has_bit-3.ensures at c.in_ok-beam.ensures)
    (rw c.has_bit-4.ensures at c.in_ok-actual.ensures)
    (rw c.has_bit-5.ensures at c.in_ok-mark_count.ensures)
    (rw c.has_bit-6.ensures at c.in_ok-marks.ensures)
    (rw c.has_bit-7.ensures at c.in_ok-count.ensures)
    c.in_ok-pitches.ensures
    is
    (ap (such_note form) n.0 ∙ n.1)
    (sym c.map.ensures ∙ c.if-map.false)
