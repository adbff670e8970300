-- `!` follows the rules; what `!`, `f` and `i` have in common (specification, 11). Assumes nothing.
use Prim.Native.Nat.{ℕ, suc, ◌+◌, ◌*◌}
use native.Mathlib.Omega.{arith}
use mathlib.Core.Path.{◌≡◌, refl, sym, ap, subst, ◌∙◌}
use mathlib.Core.Bool.{Bool, true, false, cond, not}
use mathlib.Core.Option.{Option, none, some}
use mathlib.Core.List.{List, [], ◌∷◌, ◌++◌, map}
use lib.IntN.{ℤ}
use lib.ListN.{length, take, drop, length-append, length-map, length-drop}
use lib.Dec.{ltb}
use borrow.Author.Tests.{lt-ltb, le-ltb, ltb-true, ltb-false}
use Rattle.std.specs.Prelude.{Ok, Err}
use Rattle.rules.specs.Limits.{note_size}
use Rattle.rules.specs.Tokens.{Figure, figure_mark, Item, figure}
use Rattle.rules.specs.Records.{given, Note, Diagnostic}
use Rattle.rules.specs.Rules.{State, Start, in_its_bar, count_from, notes_from, copied, repeated, figure_next, step}
use Rattle.rules.specs.Diagnostics.{diagnostic, unless, here, all_of_it, figure_diagnosed}
use Rattle.rules.specs.Refusals.{LentRecords, over_figure, refusal, refusal_at}
use Rattle.rules.specs.Words.{Numbered, cells, note_words, in_bar}
use Rattle.stores.specs.Cells.{written}
use Rattle.stores.specs.Diagnostics.{list_after_all, count_after_all}
use Rattle.view.specs.declared.refusal.Refusal.TheVariants.{NoFigure}
use Rattle.view.specs.View.{View, start_here, cells_from}
use Rattle.view.specs.View as view
use Rattle.view.specs.Steps.{diagnosed, after_second_mark, after_mark}
use Rattle.view.specs.Ready.{Reached, IsReady}
use Rattle.view.specs.Holds.{SameValues, Stored, Figured, Holds, Taken, Follows}
use Rattle.view.proofs.Same.{item, voice_in, same_entered, same_turn, same_stored, same_barred, same_figured, same_lends, holds_diagnosed}
use Rattle.view.proofs.CellLaws.{length-cells}
use Rattle.view.proofs.NoteLaws.{length-note}
use Rattle.view.proofs.StoredLaws.{length_part, figure-taken}
use Rattle.view.proofs.CopyLaws.{written-first}
use Rattle.view.proofs.Facts.{length-open}
use Rattle.view.proofs.NotesLaws.{unmarked}
use Rattle.view.proofs.Starts.{in-bar, count-same, all-from, cells-same}
use Rattle.view.proofs.Values.{mark_set}

notes-in-bar : (b : ℕ) (ns : List Note) → ns ≡ map (λ r. r.note) (in_bar b ns)
notes-in-bar b [] = refl
notes-in-bar b (n ∷ ns) = ap (λ (l : List Note). n ∷ l) (notes-in-bar b ns)

module _ (lent : LentRecords) (p o z : ℕ) {s : State} {v : View} (h : Holds lent s v) where
  pub figure-token : (f : Figure) (start : Option Start) (held : List ℤ) (count : ℕ) (l : List ℤ) (n : ℕ) (ds : List Diagnostic)
      → let x = item p o z (figure f) in let w : View = record v { figure_start = start; figure = held; figure_count = count; notes = l; note_count = n } in
      refusal_at lent x s ≡ none → SameValues (step x s) w → Figured (figure_next f s) w → length held ≡ length v.figure
      → Stored (map (copied p) (repeated f s) ++ s.open_bar) s.bars w → length l ≡ length v.notes → figure_diagnosed x s f ≡ ds → Taken lent x s v (diagnosed ds w)
  unfolding step
  figure-token f start held count l n ds fine values figured size records width diagnostics = record {
    fine = fine;
    holds = holds_diagnosed ds (record {
      values = values;
      entered = same_entered refl refl h.entered.low h.entered.waits h.entered;
      in_turn = same_turn refl refl refl refl h.in_turn;
      stored = same_stored (ap (λ (l : List Note). map (copied p) (repeated f s) ++ l) (unmarked s.open_bar)) refl refl records;
      barred = same_barred refl refl h.barred;
      figured = same_figured refl refl refl figured;
      lends = same_lends (sym width) refl (sym size) h.lends;
    });
    list = ap (list_after_all v.diagnostics v.diagnostic_count) (sym diagnostics);
    count = ap (count_after_all v.diagnostic_count) (sym diagnostics);
  }

  -- ---- `!`

  abbrev x : Item
  x = item p o z (figure figure_mark)

  abbrev d17 : Diagnostic
  d17 = diagnostic 17 (here x) (all_of_it x)

  -- no check but that of the figure can fail
  refused : (full : Bool) → over_figure lent.figure figure_mark s ≡ full → refusal_at lent x s ≡ given (cond full (some 11) none) none (λ n. some (refusal n p))
  refused full e = ap (λ (b : Bool). given (cond b (some 11) none) none (λ n. some (refusal n p))) e

  marked : (b : Option Start) → v.figure_start ≡ b → (start : Option Start) (held : List ℤ) (count : ℕ) (ds : List Diagnostic) → let w : View = record v { figure_start = start; figure = held; figure_count = count } in
      given b false (λ start. ltb lent.figure (count_from start s)) ≡ false → start ≡ given b (some (start_here v)) (λ start. none)
      → Figured (given b s.figure (λ start. cond (in_its_bar start s) (notes_from start s) s.figure)) w → length held ≡ length v.figure
      → given b [] (λ start. unless (in_its_bar start s) d17) ≡ ds → Taken lent x s v (diagnosed ds w)
  marked b e start held count ds fine starts figured size diagnostics =
      let q : s.figure_start ≡ b = h.values.figure_start ∙ e in
      let w : View = record v { figure_start = start; figure = held; figure_count = count } in
      figure-token figure_mark start held count v.notes v.note_count ds
      (refused false ((λ i. given (q i) false (λ start. ltb lent.figure (count_from start s))) ∙ fine))
      (mark_set p o z h.values {w = w} refl (λ i. record { bar = sym h.stored.bars i; from = sym (length-open h.stored) i })
      (λ i. record (voice_in v) { figure_start = (starts ∙ ap (λ (b : Option Start). given b (some (start_here v)) (λ start. none)) (sym e)) i }))
      (subst (λ (b : Option Start). Figured (given b s.figure (λ start. cond (in_its_bar start s) (notes_from start s) s.figure)) w) (sym q) figured)
      size (same_stored refl refl refl h.stored) refl
      ((λ i. given (q i) [] (λ start. unless (in_its_bar start s) d17)) ∙ diagnostics)

  -- whether n notes pass the figure's cells
  over : (n : ℕ) → ltb lent.figure n ≡ ltb (length v.figure) (n * note_size)
  over n = go (ltb (length v.figure) (n * note_size)) refl
    where
      go : (b : Bool) → ltb (length v.figure) (n * note_size) ≡ b → ltb lent.figure n ≡ b
      go true e = lt-ltb lent.figure n (omega (arith, h.lends.figure, ltb-true (length v.figure) (n * note_size) e))
      go false e = le-ltb lent.figure n (omega (arith, h.lends.figure, ltb-false (length v.figure) (n * note_size) e))

  -- 'the second copies the notes from there into the figure'
  module _ (start : Start) where
    -- how many, their words, and the view after it
    abbrev n : ℕ
    n = view.count_from start v

    abbrev words : List ℤ
    words = take (n * note_size) (cells_from start v)

    abbrev next : View
    next = record v { figure_start = none; figure = written v.figure 0 words; figure_count = n }

    -- the same in the rules
    abbrev part : List Note
    part = notes_from start s

    abbrev b : ℕ
    b = suc (length s.bars)

    -- in a later bar it doesn't
    later : v.figure_start ≡ some start → in_its_bar start s ≡ false → Taken lent x s v (diagnosed (d17 ∷ []) (record v { figure_start = none }))
    later e k =
        marked (some start) e none v.figure v.figure_count (d17 ∷ []) (rw k (le-ltb lent.figure 0 (omega arith))) refl
        (rw k (same_figured {w = record v { figure_start = none }} refl refl refl h.figured)) refl (rw k)

    within : v.figure_start ≡ some start → Reached (some start) v → in_its_bar start s ≡ true → Follows lent x s v (cond (ltb (length v.figure) (n * note_size)) (Err NoFigure) (Ok next))
    within e reached k = by (ltb (length v.figure) (n * note_size)) refl
      where
        inside : start.from + count_from start s ≡ length s.open_bar
        inside = all-from s v h.stored start reached k

        taken : words ≡ cells note_words (in_bar b part)
        taken = (λ i. take (count-same s v h.stored start i * note_size) (cells-same s v h.stored start i)) ∙ figure-taken (length v.notes) s.open_bar s.bars start.from (count_from start s) inside

        many : n ≡ length (in_bar b part)
        many = count-same s v h.stored start ∙ sym (length_part (length v.notes) s.open_bar s.bars start.from (count_from start s) inside) ∙ sym (length-map part (λ note. let r : Numbered = record { bar = b; note = note } in r))

        size : length words ≡ n * note_size
        size = ap length taken ∙ length-cells note_words note_size length-note (in_bar b part) ∙ ap (λ (n : ℕ). n * note_size) (sym many)

        passes : ltb lent.figure (count_from start s) ≡ ltb (length v.figure) (n * note_size)
        passes = ap (ltb lent.figure) (sym (count-same s v h.stored start)) ∙ over n

        by : (c : Bool) → ltb (length v.figure) (n * note_size) ≡ c → Follows lent x s v (cond c (Err NoFigure) (Ok next))
        by true q = refused true ((λ i. given ((h.values.figure_start ∙ e) i) false (λ start. ltb lent.figure (count_from start s))) ∙ passes ∙ q)
        by false q =
            marked (some start) e none next.figure n [] (passes ∙ q) refl
            (subst (λ (c : Bool). Figured (cond c part s.figure) next) (sym k) (record {
              records = in_bar b part;
              rest = drop (length words) v.figure;
              notes = notes-in-bar b part;
              counted = many;
              written = written-first v.figure words ∙ ap (λ (w : List ℤ). w ++ drop (length words) v.figure) taken;
            }))
            (ap length (written-first v.figure words) ∙ rw (length-append, length-drop, size) (omega (arith, ltb-false (length v.figure) (n * note_size) q)))
            (rw k)

    second : v.figure_start ≡ some start → Reached (some start) v → Follows lent x s v (after_second_mark x start v)
    second e reached = subst closed (sym (in-bar s v h.stored start)) (go (in_its_bar start s) refl)
      where
        closed : Bool → Type 0
        closed b = Follows lent x s v (cond (not b) (Ok (diagnosed (d17 ∷ []) (record v { figure_start = none }))) (cond (ltb (length v.figure) (n * note_size)) (Err NoFigure) (Ok next)))

        go : (b : Bool) → in_its_bar start s ≡ b → closed b
        go true k = within e reached k
        go false k = later e k

  pub follows_mark : IsReady v → Follows lent x s v (after_mark x v)
  follows_mark ready = go v.figure_start refl ready.figure_start
    where
      go : (b : Option Start) → v.figure_start ≡ b → Reached b v → Follows lent x s v (given b (Ok (record v { figure_start = some (start_here v) })) (λ start. after_second_mark x start v))
      go none e reached = marked none e (some (start_here v)) v.figure v.figure_count [] refl refl (same_figured {w = record v { figure_start = some (start_here v) }} refl refl refl h.figured) refl refl
      go (some start) e reached = second start e reached
