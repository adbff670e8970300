-- `}` follows the rules (specification, 10). Assumes nothing.
use Prim.Native.Nat.{ℕ, ◌+◌}
use native.Mathlib.Omega.{arith}
use mathlib.Core.Path.{◌≡◌, refl, sym, ap, ◌∙◌}
use mathlib.Core.Bool.{Bool, true, false, cond}
use mathlib.Core.Option.{Option, none, some}
use mathlib.Core.List.{List, []}
use lib.IntN.{ℤ}
use lib.ListN.{length}
use Rattle.std.specs.Prelude.{Ok}
use Rattle.rules.specs.Limits.{note_size}
use Rattle.rules.specs.Tokens.{marking, beam_close}
use Rattle.rules.specs.Records.{given, Note}
use Rattle.rules.specs.Rules.{Start, State, in_its_bar, beam_closed, with_notations}
use Rattle.rules.specs.Refusals.{LentRecords}
use Rattle.stores.specs.Cells.{on_part}
use Rattle.stores.specs.Groups.{beamed}
use Rattle.view.specs.View.{View, number_from}
use Rattle.view.specs.View as view
use Rattle.view.specs.Steps.{beamed_from, after_beam_close}
use Rattle.view.specs.Ready.{Reached, IsReady}
use Rattle.view.specs.Holds.{Holds, Follows}
use Rattle.view.proofs.Same.{item}
use Rattle.view.proofs.StoredLaws.{notes_in}
use Rattle.view.proofs.NotesLaws.{unmarked}
use Rattle.view.proofs.RenotedLaws.{with_notations-few}
use Rattle.view.proofs.MarkingLaws.{beam-stored}
use Rattle.view.proofs.Starts.{in-bar, count-same, all-from}
use Rattle.view.proofs.Values.{beam_close_set}
use Rattle.view.proofs.Markings.{marking-taken}

module _ (lent : LentRecords) (p o z : ℕ) {s : State} {v : View} (h : Holds lent s v) where
  -- the cells, with these notes in the open bar
  abbrev cells_of : List Note → List ℤ
  cells_of ns = notes_in (length v.notes) ns s.bars

  beam-cells : (start : Start) → Reached (some start) v → beamed_from start v ≡ cells_of (with_notations (beam_closed start s) 0 s.open_bar)
  beam-cells start reached = go (in_its_bar start s) refl
    where
      part : List ℤ
      part = on_part note_size (number_from start v) (λ part. beamed part (view.count_from start v)) v.notes

      go : (b : Bool) → in_its_bar start s ≡ b → beamed_from start v ≡ cells_of (with_notations (beam_closed start s) 0 s.open_bar)
      go true e =
          ap (λ (b : Bool). cond b part v.notes) (in-bar s v h.stored start ∙ e)
          ∙ (λ i. on_part note_size (h.stored.first i + start.from) (λ part. beamed part (count-same s v h.stored start i)) (h.stored.written i))
          ∙ beam-stored (length v.notes) s start (all-from s v h.stored start reached e)
      -- 'Closed in a later bar .. a beam is dropped silently'
      go false e = ap (λ (b : Bool). cond b part v.notes) (in-bar s v h.stored start ∙ e) ∙ h.stored.written ∙ ap cells_of (sym (with_notations-few start s (rw e (omega arith))))

  closed : (b : Option Start) → Reached b v → given b v.notes (λ start. beamed_from start v) ≡ cells_of (with_notations (λ later n. given b n.notations (λ start. beam_closed start s later n)) 0 s.open_bar)
  closed none reached = h.stored.written ∙ ap cells_of (sym (unmarked s.open_bar))
  closed (some start) reached = beam-cells start reached

  pub follows_beam_close : IsReady v → Follows lent (item p o z (marking beam_close)) s v (Ok (after_beam_close v))
  follows_beam_close ready =
      marking-taken lent p o z h beam_close none v.group (after_beam_close v).notes [] refl (beam_close_set p o z h.values refl refl)
      (closed v.beam_start ready.beam_start ∙ (λ i. cells_of (with_notations (λ later n. given (sym h.values.beam_start i) n.notations (λ start. beam_closed start s later n)) 0 s.open_bar))) refl
