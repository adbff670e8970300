-- The data's end: the open bar is stored, or refused, as the rules say, and the cells are those of their bars. Assumes nothing.
use Prim.Native.Nat.{ℕ, ◌+◌, ◌*◌, ◌≤◌}
use native.Mathlib.Omega.{arith}
use mathlib.Core.Path.{◌≡◌, refl, sym, ap, ◌∙◌}
use mathlib.Core.Bool.{Bool, true, false, not, cond}
use mathlib.Core.Option.{none, some}
use mathlib.Core.List.{List, [], ◌∷◌}
use lib.ListN.{length, length-append}
use lib.Dec.{eqb}
use borrow.Author.Tests.{eq-eqb, ne_eqb}
use Rattle.std.specs.Prelude.{Ok, Err}
use Rattle.rules.specs.Limits.{bar_size}
use Rattle.rules.specs.Records.{is_empty, notes_of}
use Rattle.rules.specs.Rules.{State, close, stored, bars_at_end}
use Rattle.rules.specs.Refusals.{LentRecords, refusal, end_refusal}
use Rattle.rules.specs.Words.{padded, note_cells, bar_cells}
use Rattle.view.specs.View.{View, has_note}
use Rattle.view.specs.Steps.{begun_bar}
use Rattle.view.specs.Holds.{Stored, Barred, Holds}
use Rattle.view.specs.End.{at_end, after_end, Ended, Ends}
use Rattle.view.proofs.Same.{same_stored, same_barred}
use Rattle.view.proofs.Facts.{open-empty}
use Rattle.view.proofs.BarLaws.{bar-ind, with_bar, length-stored_bar, bar_barred, bar_records}
use Rattle.view.proofs.Barlines.{no_notes}

none-stored : {A : Type 0} (l : List A) (n : ℕ) → n ≡ length l → eqb n 0 ≡ is_empty l
none-stored [] n e = eq-eqb n 0 e
none-stored (x ∷ l) n e = ne_eqb n 0 (λ z. omega (arith, e))

module _ (lent : LentRecords) (size : ℕ) {s : State} {v : View} (h : Holds lent s v) where
  -- 13, of a view with the notes counted
  counted : (w : View) → w.note_count ≡ v.note_count → end_refusal lent size s ≡ cond (is_empty (stored s)) (some (refusal 13 0)) none → (end_refusal lent size s ≡ none → Ended lent size s v w) → Ends lent size s v (at_end size (Ok w))
  counted w c f ends = rw (none-stored (stored s) w.note_count (c ∙ h.stored.count ∙ sym (length-append s.open_bar (notes_of s.bars)))) (go (is_empty (stored s)) f)
    where
      go : (b : Bool) → end_refusal lent size s ≡ cond b (some (refusal 13 0)) none → Ends lent size s v (cond b (Err (refusal 13 0)) (Ok w))
      go true f = f
      go false f = ends f

  -- the cells of u and their counts are those of w
  cells : (w u : View) → Stored [] (close 0 s) u → Barred (close 0 s) u → u.notes ≡ w.notes → u.note_count ≡ w.note_count → u.bars ≡ w.bars → u.bar_count ≡ w.bar_count → length u.notes ≡ length v.notes → length u.bars ≡ length v.bars
      → w.diagnostics ≡ v.diagnostics → w.diagnostic_count ≡ v.diagnostic_count → end_refusal lent size s ≡ none → Ended lent size s v w
  cells w u r b en ec eb ed ln lb list count fine = record {
    fine = fine;
    notes = sym en ∙ r.written ∙ ap (λ (n : ℕ). padded n (note_cells (bars_at_end s))) ln;
    note_count = omega (arith, ec, r.count);
    bars = sym eb ∙ b.written ∙ ap (λ (n : ℕ). padded n (bar_cells (bars_at_end s))) lb;
    bar_count = sym ed ∙ r.bars;
    same_notes = ap length (sym en) ∙ ln;
    same_bars = ap length (sym eb) ∙ lb;
    diagnostics = list;
    diagnostic_count = count;
  }

  -- an empty bar isn't stored
  empty : has_note v ≡ false → end_refusal lent size s ≡ none → Ended lent size s v v
  empty e fine =
      let none' : is_empty s.open_bar ≡ true = open-empty s.open_bar h.stored ∙ ap not e in
      let same : close 0 s ≡ s.bars = rw none' in
      cells v v (same_stored (no_notes s.open_bar none') same refl h.stored) (same_barred same refl h.barred) refl refl refl refl refl refl refl refl fine

  closed : has_note v ≡ true → (v.bar_count + 1) * bar_size ≤ length v.bars → end_refusal lent size s ≡ none → Ended lent size s v (with_bar lent s 0 h.stored h.lends)
  closed e fits fine =
      let w = with_bar lent s 0 h.stored h.lends in
      cells w (begun_bar true 0 w)
      (bar_records 0 h.values h.stored e (begun_bar true 0 w) refl refl refl refl refl)
      (bar_barred 0 h.values h.stored e h.barred (begun_bar true 0 w) refl fits)
      refl refl refl refl refl (length-stored_bar 0 h.values h.stored e h.barred fits) refl refl fine

  -- 'the end closes a non-empty bar'
  pub ends : Ends lent size s v (after_end size v)
  ends = bar-ind lent s 0 h.stored h.lends
      (λ b r. end_refusal lent size s ≡ cond b (some (refusal 12 (size + 1))) (cond (is_empty (stored s)) (some (refusal 13 0)) none) → Ends lent size s v (at_end size r))
      (λ e f. counted v refl f (empty e)) (λ e f. f) (λ e fits f. counted (with_bar lent s 0 h.stored h.lends) refl f (closed e fits)) refl
