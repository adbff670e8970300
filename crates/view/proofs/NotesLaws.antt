-- Letters, rests, ties and trills: the notes after them hold the open bar after them (specification, 6, 7 and 9). Assumes nothing.
use Prim.Native.Nat.{ℕ, suc, ◌+◌, ◌-◌, ◌*◌, ◌<◌, ◌≤◌}
use native.Mathlib.Omega.{arith}
use native.Mathlib.Numerals.{add-one}
use mathlib.Core.Path.{◌≡◌, refl, ap, ◌∙◌}
use mathlib.Core.Bool.{true, false, and-false, false≢true}
use mathlib.Core.List.{List, [], ◌∷◌}
use lib.IntN.{ℤ}
use lib.ListN.{length}
use lib.Dec.{eqb}
use borrow.Author.Tests.{ne_eqb}
use Rattle.rules.specs.Limits.{note_size, note_limit, pitch_capacity}
use Rattle.rules.specs.Tokens.{tie, trill}
use Rattle.rules.specs.Records.{Pitch, Notations, Note, Bar, notes_of}
use Rattle.rules.specs.Rules.{State, ends_in_note, add_pitch, with_tie_start, with_mark, marked, with_notations}
use Rattle.stores.specs.Cells.{with_record, changed}
use Rattle.stores.specs.declared.note.TheConstants.{PITCH_COUNT}
use Rattle.stores.specs.Notes as words
use Rattle.view.specs.View.{View, last_number}
use Rattle.view.specs.Holds.{Stored}
use Rattle.view.proofs.NoteLaws.{pitched-note, tie-started-note, marked-note}
use Rattle.view.proofs.GroupLaws.{words_in, renoted}
use Rattle.view.proofs.StoredLaws.{note-stored, last-changed}
use Rattle.view.proofs.RenotedLaws.{with_notations-same}
use Rattle.view.proofs.Facts as facts
use Rattle.view.proofs.Facts.{stored-padded, renewed, last-index}

-- ---- records that change and are counted the same

-- a token that changes no record
pub unmarked : (l : List Note) → with_notations (λ later n. n.notations) 0 l ≡ l
unmarked l = with_notations-same (λ later n. n.notations) (λ i n. refl) 0 l

module _ {bs : List Bar} {v : View} where
  -- the last record replaced
  last-replaced : {x : Note} {o : List Note} → Stored (x ∷ o) bs v → (f : List ℤ → List ℤ) (y : Note) → f (words_in (suc (length bs)) x) ≡ words_in (suc (length bs)) y
      → let l = changed note_size f v.notes (v.note_count - 1) in Stored (y ∷ o) bs (record v { notes = l }) × (length l ≡ length v.notes)
  last-replaced {x} {o} r f y e = renewed r (y ∷ o) (changed note_size f v.notes (v.note_count - 1)) refl (rw (last-index r) (ap (λ (l : List ℤ). changed note_size f l (length o + length (notes_of bs))) r.written ∙ last-changed (length v.notes) o bs x f y e))

  -- a record added
  pub added : {o : List Note} → Stored o bs v → (x : Note) → v.note_count + 1 ≤ note_limit → (v.note_count + 1) * note_size ≤ length v.notes
      → let l = with_record note_size v.notes v.note_count (words_in (v.bar_count + 1) x) in Stored (x ∷ o) bs (record v { notes = l; note_count = v.note_count + 1 }) × (length l ≡ length v.notes)
  added {o} r x few fits =
      let l = with_record note_size v.notes v.note_count (words_in (v.bar_count + 1) x) in
      stored-padded (x ∷ o) bs (record v { notes = l; note_count = v.note_count + 1 }) (length v.notes)
      (rw (r.count, r.bars, add-one) (ap (λ (l : List ℤ). with_record note_size l (length o + length (notes_of bs)) (words_in (suc (length bs)) x)) r.written ∙ note-stored (length v.notes) o bs x (omega (arith, r.count, fits))))
      (omega (arith, r.count)) r.first r.last r.bars fits few

  -- 'the next letter joins the open bar's last record as a pitch'
  pub joined : (o : List Note) → Stored o bs v → ends_in_note o ≡ true → (q : Pitch) → last_number PITCH_COUNT v < pitch_capacity
      → let l = changed note_size (words.pitched q) v.notes (v.note_count - 1) in Stored (add_pitch q o) bs (record v { notes = l }) × (length l ≡ length v.notes)
  joined [] r j q h = absurd (false≢true j)
  joined (x ∷ o) r j q h =
      last-replaced r (words.pitched q) (record { heading = x.heading; pitches = q ∷ x.pitches; notations = x.notations }) (pitched-note q (record { bar = suc (length bs); note = x }) (rw (facts.last-number r PITCH_COUNT (omega arith)) at h))

-- ---- ties and trills

last-only : (h : ℕ → Note → Notations) → ((i : ℕ) (x : Note) → h (suc i) x ≡ x.notations) → (x : Note) (l : List Note) → with_notations h 0 (x ∷ l) ≡ renoted (h 0 x) x ∷ l
last-only h same x l = ap (λ (k : List Note). renoted (h 0 x) x ∷ k) (go 0 l)
  where
    go : (i : ℕ) (l : List Note) → with_notations h (suc i) l ≡ l
    go i [] = refl
    go i (y ∷ l) = rw (same i y, go (suc i) l)

-- without a note at its end nothing changes
pub untied : (s : State) → ends_in_note s.open_bar ≡ false → with_notations (marked tie s) 0 s.open_bar ≡ s.open_bar
untied s e = with_notations-same (marked tie s) (λ i n. rw (e, and-false (eqb i 0))) 0 s.open_bar

module _ (s : State) {v : View} where
  -- '`+`, if the open bar's last record is a note or grace, starts its tie'
  pub tied : (o : List Note) → s.open_bar ≡ o → Stored o s.bars v → ends_in_note o ≡ true
      → let l = changed note_size words.tie_started v.notes (v.note_count - 1) in Stored (with_notations (marked tie s) 0 s.open_bar) s.bars (record v { notes = l }) × (length l ≡ length v.notes)
  tied [] e r h = absurd (false≢true h)
  tied (x ∷ o) e r h =
      let new : with_notations (marked tie s) 0 s.open_bar ≡ renoted (with_tie_start x.notations) x ∷ o = ap (with_notations (marked tie s) 0) e ∙ last-only (marked tie s) (λ i y. rw (ne_eqb (suc i) 0 (λ z. omega arith))) x o ∙ rw (e, h) in
      rw new (last-replaced r words.tie_started (renoted (with_tie_start x.notations) x) (tie-started-note (record { bar = suc (length s.bars); note = x })))

  -- '`t` marks the bar's last record, rests too'
  pub trilled : (x : Note) (o : List Note) → s.open_bar ≡ x ∷ o → Stored (x ∷ o) s.bars v
      → let l = changed note_size (words.marked true) v.notes (v.note_count - 1) in Stored (with_notations (marked trill s) 0 s.open_bar) s.bars (record v { notes = l }) × (length l ≡ length v.notes)
  trilled x o e r =
      let new : with_notations (marked trill s) 0 s.open_bar ≡ renoted (with_mark true x.notations) x ∷ o = ap (with_notations (marked trill s) 0) e ∙ last-only (marked trill s) (λ i y. rw (ne_eqb (suc i) 0 (λ z. omega arith))) x o in
      rw new (last-replaced r (words.marked true) (renoted (with_mark true x.notations) x) (marked-note true (record { bar = suc (length s.bars); note = x })))
