-- `)` follows the rules (specification, 10). Assumes nothing.
use Prim.Native.Nat.{ℕ, ◌+◌}
use mathlib.Core.Path.{◌≡◌, refl, sym, ap, subst, ◌∙◌}
use mathlib.Core.Bool.{Bool, true, false, cond, ◌&&◌}
use mathlib.Core.Option.{Option, none, some}
use mathlib.Core.List.{List, [], ◌∷◌}
use lib.IntN.{ℤ}
use lib.ListN.{length}
use lib.Dec.{leb}
use Rattle.std.specs.Prelude.{Result, Ok, Err}
use Rattle.rules.specs.Limits.{note_size, mark_capacity}
use Rattle.rules.specs.Values.{normal_of}
use Rattle.rules.specs.Tokens.{Item, marking, group_close}
use Rattle.rules.specs.Records.{given, parentheses, Note, Notations, notes_of, Diagnostic}
use Rattle.rules.specs.Rules.{State, Group, Closing, nothing, fermata, tuplet, too_few, closed, closing_of, in_its_bar, count_from, group_closed, with_notations}
use Rattle.rules.specs.Diagnostics.{diagnostic, here, all_of_it, closing_diagnosed, group_diagnosed}
use Rattle.rules.specs.Refusals.{LentRecords, is_fermata, is_marked_full, last_non_grace, over_marks, refusal, refusal_at}
use Rattle.stores.specs.declared.note.TheConstants.{MARK_COUNT}
use Rattle.stores.specs.Cells.{on_part}
use Rattle.stores.specs.Notes.{number_at}
use Rattle.stores.specs.Groups.{tupled, fermata_in, last_timed}
use Rattle.view.specs.declared.refusal.Refusal.{Refusal}
use Rattle.view.specs.declared.refusal.Refusal.TheVariants.{NoMark}
use Rattle.view.specs.View.{View, number_from, cells_from}
use Rattle.view.specs.View as view
use Rattle.view.specs.Steps.{diagnosed, after_closing, after_group_close}
use Rattle.view.specs.Steps as steps
use Rattle.view.specs.Ready.{Reached, start_of, IsReady}
use Rattle.view.specs.Holds.{Holds, Taken, Follows}
use Rattle.view.proofs.Same.{item}
use Rattle.view.proofs.StoredLaws.{notes_in}
use Rattle.view.proofs.NotesLaws.{unmarked}
use Rattle.view.proofs.MarkingLaws.{unclosed, tuplet-stored, fermata-stored}
use Rattle.view.proofs.Starts.{in-bar, count-same, all-from, closing-same, fermata-full}
use Rattle.view.proofs.Values.{group_close_set}
use Rattle.view.proofs.Markings.{marking-taken}

-- closed in a later bar it is nothing
closing-later : (g : Group) (s : State) → in_its_bar g.start s ≡ false → closing_of g s ≡ nothing
closing-later g s e = rw e

module _ (lent : LentRecords) (p o z : ℕ) {s : State} {v : View} (h : Holds lent s v) where
  abbrev x : Item
  x = item p o z (marking group_close)

  -- d10, d13
  abbrev late : Diagnostic
  late = diagnostic 10 (here x) parentheses

  abbrev alone : Diagnostic
  alone = diagnostic 13 (here x) (all_of_it x)

  -- the last non-grace note has 8 marks, and what closes is a fermata
  abbrev over : Closing → Bool
  over c = is_fermata c && is_marked_full (last_non_grace s.open_bar)

  -- no other check can fail
  refused : (full : Bool) → over_marks group_close s ≡ full → refusal_at lent x s ≡ given (cond full (some 10) none) none (λ n. some (refusal n p))
  refused full e = ap (λ (b : Bool). given (cond b (some 10) none) none (λ n. some (refusal n p))) e

  -- the cells after a `)` that closes b
  abbrev cells_after : Option Group → List ℤ
  cells_after b = notes_in (length v.notes) (with_notations (λ later n. given b n.notations (λ g. group_closed g s later n)) 0 s.open_bar) s.bars

  taken : (b : Option Group) → s.group ≡ b → (l : List ℤ) (ds : List Diagnostic) → given b false (λ g. over (closing_of g s)) ≡ false → l ≡ cells_after b → given b (alone ∷ []) (group_diagnosed x s) ≡ ds
      → Taken lent x s v (diagnosed ds (record v { group = none; notes = l }))
  taken b e l ds fine notes diagnostics =
      marking-taken lent p o z h group_close v.beam_start none l ds (refused false ((λ i. given (e i) false (λ g. over (closing_of g s))) ∙ fine)) (group_close_set p o z h.values refl refl)
      (notes ∙ (λ i. cells_after (sym e i))) ((λ i. given (e i) (alone ∷ []) (group_diagnosed x s)) ∙ diagnostics)

  -- without `(`
  without : s.group ≡ none → Taken lent x s v (diagnosed (alone ∷ []) (record v { group = none }))
  without e = taken none e v.notes (alone ∷ []) refl (h.stored.written ∙ ap (λ (l : List Note). notes_in (length v.notes) l s.bars) (sym (unmarked s.open_bar))) refl

  module _ (g : Group) (e : s.group ≡ some g) where
    -- no note is changed
    unchanged : (c : Closing) → closing_of g s ≡ c → ((d : Notations) → closed c d ≡ d) → v.notes ≡ cells_after (some g)
    unchanged c q same = h.stored.written ∙ ap (λ (l : List Note). notes_in (length v.notes) l s.bars) (sym (unclosed g s (λ d. ap (λ (c : Closing). closed c d) q ∙ same d)))

    -- in a later bar
    later : in_its_bar g.start s ≡ false → Taken lent x s v (diagnosed (late ∷ []) (record v { group = none }))
    later k =
        let q = closing-later g s k in
        taken (some g) e v.notes (late ∷ []) (ap over q) (unchanged nothing q (λ d. refl)) (ap (λ (b : Bool). cond b (closing_diagnosed x (closing_of g s)) (late ∷ [])) k)

    module _ (reached : Reached (some g.start) v) (k : in_its_bar g.start s ≡ true) where
      -- in its bar
      within : (c : Closing) → closing_of g s ≡ c → (l : List ℤ) → over c ≡ false → l ≡ cells_after (some g) → Taken lent x s v (diagnosed (closing_diagnosed x c) (record v { group = none; notes = l }))
      within c q l fine notes = taken (some g) e l (closing_diagnosed x c) (ap over q ∙ fine) notes (ap (λ (b : Bool). cond b (closing_diagnosed x (closing_of g s)) (late ∷ [])) k ∙ ap (closing_diagnosed x) q)

      -- its notes changed by f, in the rules' cells
      changed : (f : List ℤ → ℕ → List ℤ) → on_part note_size (number_from g.start v) (λ part. f part (view.count_from g.start v)) v.notes
          ≡ on_part note_size (length (notes_of s.bars) + g.start.from) (λ part. f part (count_from g.start s)) (notes_in (length v.notes) s.open_bar s.bars)
      changed f = λ i. on_part note_size (h.stored.first i + g.start.from) (λ part. f part (count-same s v h.stored g.start i)) (h.stored.written i)

      closes : (c : Closing) → closing_of g s ≡ c → Follows lent x s v (after_closing x g c v)
      closes nothing q = within nothing q v.notes refl (unchanged nothing q (λ d. refl))
      closes (too_few actual) q = within (too_few actual) q v.notes refl (unchanged (too_few actual) q (λ d. refl))
      closes (tuplet actual) q =
          within (tuplet actual) q (on_part note_size (number_from g.start v) (λ part. tupled actual (normal_of actual) part (view.count_from g.start v)) v.notes) refl
          (changed (tupled actual (normal_of actual)) ∙ tuplet-stored (length v.notes) s g (all-from s v h.stored g.start reached k) actual q)
      closes fermata q = by (leb mark_capacity (number_at MARK_COUNT (last_timed (cells_from g.start v) (view.count_from g.start v)))) (fermata-full s v h.stored g reached k q)
        where
          with_fermata : List ℤ
          with_fermata = on_part note_size (number_from g.start v) (λ part. fermata_in part (view.count_from g.start v)) v.notes

          by : (full : Bool) → is_marked_full (last_non_grace s.open_bar) ≡ full → Follows lent x s v (cond full (Err NoMark) (Ok (record v { group = none; notes = with_fermata })))
          by true f = refused true ((λ i. given (e i) false (λ g. over (closing_of g s))) ∙ (λ i. is_fermata (q i) && f i))
          by false f = within fermata q with_fermata f (changed fermata_in ∙ fermata-stored (length v.notes) s g (all-from s v h.stored g.start reached k) q)

  pub follows_group_close : IsReady v → Follows lent x s v (after_group_close x v)
  follows_group_close ready = go v.group refl h.values.group ready.group
    where
      -- what an open `(` makes of it
      opened : Group → Bool → Result View Refusal
      opened g b = cond b (after_closing x g (steps.closing_of g v) v) (Ok (diagnosed (late ∷ []) (record v { group = none })))

      inside : (g : Group) → s.group ≡ some g → Reached (some g.start) v → (b : Bool) → in_its_bar g.start s ≡ b → Follows lent x s v (opened g b)
      inside g e reached true k = subst (λ c. Follows lent x s v (after_closing x g c v)) (sym (closing-same s v h.stored g reached k)) (closes g e reached k (closing_of g s) refl)
      inside g e reached false k = later g e k

      go : (b : Option Group) → v.group ≡ b → s.group ≡ b → Reached (start_of b) v → Follows lent x s v (given b (Ok (diagnosed (alone ∷ []) v)) (λ g. opened g (view.in_its_bar g.start v)))
      go none w e reached = subst (λ (y : View). Follows lent x s v (Ok (diagnosed (alone ∷ []) y))) (λ i. record v { group = sym w i }) (without e)
      go (some g) w e reached = subst (λ b. Follows lent x s v (opened g b)) (sym (in-bar s v h.stored g.start)) (inside g e reached (in_its_bar g.start s) refl)
