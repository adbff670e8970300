-- `f` and `i` follow the rules (specification, 11). Assumes nothing.
use Prim.Native.Nat.{ℕ, suc, ◌+◌, ◌*◌, ◌≤◌}
use native.Mathlib.Omega.{arith}
use native.Mathlib.Numerals.{add-one}
use mathlib.Core.Path.{◌≡◌, refl, sym, ap, ◌∙◌}
use mathlib.Core.Bool.{Bool, false, cond, not, ◌&&◌}
use mathlib.Core.Option.{none, some}
use mathlib.Core.List.{List, [], ◌∷◌, ◌++◌, map}
use lib.IntN.{ℤ}
use lib.ListN.{length, drop, length-append, length-map}
use lib.Dec.{eqb}
use borrow.Author.Tests.{eq-eqb, ne_eqb}
use Rattle.rules.specs.Limits.{note_limit, note_size}
use Rattle.rules.specs.Tokens.{Figure, figure_mark, figure_repeat, bar_repeat, figure}
use Rattle.rules.specs.Records.{is_empty, given, Note, Bar, notes_of, Diagnostic}
use Rattle.rules.specs.Rules.{State, copied, repeated, repeated_bar, figure_next, step}
use Rattle.rules.specs.Diagnostics.{diagnostic, unless, here, all_of_it, figure_diagnosed}
use Rattle.rules.specs.Refusals.{LentRecords, over_figure, passes, refusal}
use Rattle.rules.specs.Words.{Numbered, cells, note_words, in_bar}
use Rattle.stores.specs.Cells.{written}
use Rattle.stores.specs.Copies.{copies}
use Rattle.stores.proofs.CopyLaws.{written_none}
use Rattle.view.specs.View.{View}
use Rattle.view.specs.Steps.{diagnosed, with_room, after_figure, after_repeat, after_bar, repeats_bar, repeated_count}
use Rattle.view.specs.Ready.{IsReady}
use Rattle.view.specs.Holds.{SameValues, Stored, Holds, Follows}
use Rattle.view.proofs.Same.{item, same_figured}
use Rattle.view.proofs.StoredLaws.{notes_in, notes-added}
use Rattle.view.proofs.StoredLaws as stored
use Rattle.view.proofs.CopyLaws.{copies-records}
use Rattle.view.proofs.Facts.{has-note, open-empty, no-bar, stored-padded, room-follows}
use Rattle.view.proofs.Values.{repeat_same, bar_repeat_same}
use Rattle.view.proofs.Figures.{figure-token, follows_mark}

-- a list is empty where it has 0 elements
none-there : {A : Type 0} (n : ℕ) (l : List A) → n ≡ length l → eqb n 0 ≡ is_empty l
none-there n [] e = eq-eqb n 0 e
none-there n (x ∷ l) e = ne_eqb n 0 (λ z. omega (arith, e))

module _ (lent : LentRecords) (p o z : ℕ) {s : State} {v : View} (h : Holds lent s v) where
  -- the view with these cells, in which n notes more stand
  abbrev with_notes : List ℤ → ℕ → View
  with_notes l n = record v { notes = l; note_count = v.note_count + n }

  -- a token that copies n notes into the open bar
  copied-follows : (f : Figure) (n : ℕ) (l : List ℤ) (ds : List Diagnostic) → let x = item p o z (figure f) in
      over_figure lent.figure f s ≡ false → SameValues (step x s) (with_notes l n) → figure_next f s ≡ s.figure → n ≡ length (repeated f s)
      → ((v.note_count + n) * note_size ≤ length v.notes → l ≡ notes_in (length v.notes) (map (copied p) (repeated f s) ++ s.open_bar) s.bars)
      → figure_diagnosed x s f ≡ ds → Follows lent x s v (with_room n v (diagnosed ds (with_notes l n)))
  copied-follows f n l ds over values figures many notes diagnostics =
      room-follows lent (item p o z (figure f)) s h.stored h.lends n (diagnosed ds (with_notes l n))
      (λ i. given (cond (passes note_limit (added i) s) (some 7) (cond (passes lent.notes (added i) s) (some 8) (cond (over i) (some 11) none))) none (λ k. some (refusal k p)))
      (λ fine few fits.
      let r = stored-padded (map (copied p) (repeated f s) ++ s.open_bar) s.bars (with_notes l n) (length v.notes) (notes fits) count h.stored.first h.stored.last h.stored.bars fits few in
      figure-token lent p o z h f v.figure_start v.figure v.figure_count l (v.note_count + n) ds fine values (same_figured figures refl refl h.figured) refl r.0 r.1 diagnostics)
    where
      added : length (map (copied 0) (repeated f s)) ≡ n
      added = length-map (repeated f s) (copied 0) ∙ sym many

      count : v.note_count + n ≡ length (map (copied p) (repeated f s) ++ s.open_bar) + length (notes_of s.bars)
      count = rw (length-append, length-map) (omega (arith, many, h.stored.count))

  -- ---- `f`

  figure-many : v.figure_count ≡ length s.figure
  figure-many = h.figured.counted ∙ sym (length-map h.figured.records (λ (r : Numbered). r.note)) ∙ ap length (sym h.figured.notes)

  -- the copies of the figure
  abbrev figure_copies : List ℤ
  figure_copies = copies p (v.bar_count + 1) v.figure v.figure_count

  figure-words : figure_copies ≡ cells note_words (in_bar (suc (length s.bars)) (map (copied p) s.figure))
  figure-words =
      let b = suc (length s.bars) in
      (λ i. copies p ((add-one v.bar_count ∙ ap suc h.stored.bars) i) v.figure (h.figured.counted i))
      ∙ copies-records p b v.figure h.figured.rest [] h.figured.records h.figured.written
      ∙ ap (λ (l : List Note). cells note_words (in_bar b (map (copied p) l))) (sym h.figured.notes)

  figure-cells : (v.note_count + v.figure_count) * note_size ≤ length v.notes → written v.notes (v.note_count * note_size) figure_copies ≡ notes_in (length v.notes) (map (copied p) s.figure ++ s.open_bar) s.bars
  figure-cells fits =
      (λ i. written (h.stored.written i) (h.stored.count i * note_size) (figure-words i))
      ∙ notes-added (length v.notes) s.open_bar s.bars (map (copied p) s.figure) (rw length-map (omega (arith, fits, figure-many, h.stored.count)))

  follows_repeat : let x = item p o z (figure figure_repeat) in Follows lent x s v (after_repeat x v)
  follows_repeat =
      let x = item p o z (figure figure_repeat) in
      let d18 = diagnostic 18 (here x) (all_of_it x) in
      copied-follows figure_repeat v.figure_count (written v.notes (v.note_count * note_size) figure_copies) (unless (not (eqb v.figure_count 0)) d18) refl (repeat_same p o z h.values refl refl) refl figure-many figure-cells
      (ap (λ (b : Bool). unless (not b) d18) (sym (none-there v.figure_count s.figure figure-many)))

  -- ---- `i`

  -- 'in an empty bar after a stored one': how many notes that bar has
  bar-many : (o : List Note) (bs : List Bar) → Stored o bs v → repeated_count v ≡ length (repeated_bar o bs)
  bar-many (x ∷ o) bs r = rw (has-note (x ∷ o) r)
  bar-many [] [] r = rw (has-note [] r, no-bar [] r)
  bar-many [] (b ∷ bs) r = rw (has-note [] r, no-bar (b ∷ bs) r) (omega (arith, r.first, r.last, length-append b.notes (notes_of bs)))

  -- the first n notes of the last stored bar, copied behind the others
  abbrev bar_copied : ℕ → List ℤ
  bar_copied n = written v.notes (v.note_count * note_size) (copies p (v.bar_count + 1) (drop (v.last * note_size) v.notes) n)

  bar-cells : (o : List Note) (bs : List Bar) → Stored o bs v → (n : ℕ) → n ≡ length (repeated_bar o bs) → (v.note_count + n) * note_size ≤ length v.notes → bar_copied n ≡ notes_in (length v.notes) (map (copied p) (repeated_bar o bs) ++ o) bs
  bar-cells (x ∷ o) bs r n e fits = ap bar_copied e ∙ sym (written_none v.notes (v.note_count * note_size)) ∙ r.written
  bar-cells [] [] r n e fits = ap bar_copied e ∙ sym (written_none v.notes (v.note_count * note_size)) ∙ r.written
  bar-cells [] (b ∷ bs) r n e fits =
      (λ i. written (r.written i) (r.count i * note_size) (copies p ((add-one v.bar_count ∙ ap suc r.bars) i) (drop (r.last i * note_size) (r.written i)) (e i)))
      ∙ stored.bar-repeated (length v.notes) p b bs (omega (arith, fits, e, r.count))

  follows_bar : let x = item p o z (figure bar_repeat) in Follows lent x s v (after_bar x v)
  follows_bar =
      let x = item p o z (figure bar_repeat) in
      let d19 = diagnostic 19 (here x) (all_of_it x) in
      let many = bar-many s.open_bar s.bars h.stored in
      copied-follows bar_repeat (repeated_count v) (bar_copied (repeated_count v)) (unless (repeats_bar v) d19) refl (bar_repeat_same p o z h.values refl refl) refl many (bar-cells s.open_bar s.bars h.stored (repeated_count v) many)
      (λ i. unless (open-empty s.open_bar h.stored i && not (sym (no-bar s.bars h.stored) i)) d19)

  -- `!`, `f`, `i`
  pub follows_figure : IsReady v → (f : Figure) → let x = item p o z (figure f) in Follows lent x s v (after_figure x f v)
  follows_figure ready figure_mark = follows_mark lent p o z h ready
  follows_figure ready figure_repeat = follows_repeat
  follows_figure ready bar_repeat = follows_bar
