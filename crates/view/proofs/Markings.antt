-- A marking that changes notations of the open bar. Assumes nothing.
use Prim.Native.Nat.{ℕ}
use mathlib.Core.Path.{◌≡◌, refl, sym, ap}
use mathlib.Core.Option.{Option, none}
use mathlib.Core.List.{List}
use lib.IntN.{ℤ}
use lib.ListN.{length}
use Rattle.rules.specs.Tokens.{Marking, marking}
use Rattle.rules.specs.Records.{Diagnostic}
use Rattle.rules.specs.Rules.{State, Start, Group, marked, with_notations, step}
use Rattle.rules.specs.Diagnostics.{marking_diagnosed}
use Rattle.rules.specs.Refusals.{LentRecords, refusal_at}
use Rattle.stores.specs.Diagnostics.{list_after_all, count_after_all}
use Rattle.view.specs.View.{View}
use Rattle.view.specs.Steps.{diagnosed}
use Rattle.view.specs.Holds.{SameValues, Holds, Taken}
use Rattle.view.proofs.Same.{item, same_entered, same_turn, same_stored, same_barred, same_figured, same_lends, holds_diagnosed}
use Rattle.view.proofs.StoredLaws.{notes_in}
use Rattle.view.proofs.Facts.{renewed}
use Rattle.view.proofs.RenotedLaws.{length-with_notations}

module _ (lent : LentRecords) (p o z : ℕ) {s : State} {v : View} (h : Holds lent s v) where
  pub marking-taken : (m : Marking) (beam : Option Start) (group : Option Group) (l : List ℤ) (ds : List Diagnostic) → let x = item p o z (marking m) in let w = record v { beam_start = beam; group = group; notes = l } in
      refusal_at lent x s ≡ none → SameValues (step x s) w → l ≡ notes_in (length v.notes) (with_notations (marked m s) 0 s.open_bar) s.bars → marking_diagnosed x s m ≡ ds → Taken lent x s v (diagnosed ds w)
  unfolding step
  marking-taken m beam group l ds fine values notes diagnostics =
      let new = renewed h.stored (with_notations (marked m s) 0 s.open_bar) l (length-with_notations (marked m s) 0 s.open_bar) notes in
      record {
        fine = fine;
        holds = holds_diagnosed ds (record {
          values = values;
          entered = same_entered refl refl h.entered.low h.entered.waits h.entered;
          in_turn = same_turn refl refl refl refl h.in_turn;
          stored = same_stored refl refl refl new.0;
          barred = same_barred refl refl h.barred;
          figured = same_figured refl refl refl h.figured;
          lends = same_lends (sym new.1) refl refl h.lends;
        });
        list = ap (list_after_all v.diagnostics v.diagnostic_count) (sym diagnostics);
        count = ap (count_after_all v.diagnostic_count) (sym diagnostics);
      }
