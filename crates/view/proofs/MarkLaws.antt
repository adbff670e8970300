-- Ties and trills: what the view makes of them is what the rules do; and the marks in the cells, which are 8 bits at most. Assumes nothing.
use Prim.Native.Nat.{ℕ, zero, suc, ◌+◌, ◌-◌, ◌*◌, ◌^◌, ◌<◌, ◌≤◌}
use native.Mathlib.Omega.{arith}
use native.Mathlib.Nat.{suc-mul, pow-le-pow_right}
use mathlib.Core.Path.{◌≡◌, refl, sym, ap, subst, ◌∙◌}
use mathlib.Core.Bool.{Bool, true, false, cond}
use mathlib.Core.Option.{none, some}
use mathlib.Core.List.{List, [], ◌∷◌, ◌++◌, append_assoc}
use lib.IntN.{ℤ, pos}
use lib.ListN.{length, get_or, take, drop}
use lib.Seq.{take_at, drop_at, drop-drop}
use lib.Dec.{leb}
use Rattle.std.specs.Prelude.{Ok, Err}
use Rattle.rules.specs.Limits.{note_size, mark_capacity}
use Rattle.rules.specs.Tokens.{Item, marking, tie, trill}
use Rattle.rules.specs.Records.{given, Note, Bar, notes_of}
use Rattle.rules.specs.Rules.{State, Attributes, ends_in_note, step, state_after}
use Rattle.rules.specs.Diagnostics.{diagnostic, here, all_of_it}
use Rattle.rules.specs.Refusals.{LentRecords, refusal, refusal_in_turn, is_marked_full, tokens_refusal}
use Rattle.rules.specs.Words.{cells, zeros, marks_word, Numbered, in_bar, numbered, note_words}
use Rattle.rules.specs.Agreement.{All}
use Rattle.theorems.proofs.Capacity.{marks-few}
use Rattle.stores.specs.Cells.{record_at, changed}
use Rattle.stores.specs.Notes.{number_at, mark_limit, tie_started, marked}
use Rattle.stores.specs.declared.note.TheConstants.{MARK_COUNT, MARKS}
use Rattle.view.specs.declared.refusal.Refusal.TheVariants.{NoMark}
use Rattle.view.specs.View.{View}
use Rattle.view.specs.Steps.{diagnosed, after_tie, after_trill}
use Rattle.view.specs.Holds.{Stored, Holds, Taken, Follows, records_in}
use Rattle.view.proofs.Same.{item, same_entered, same_stored, same_holds}
use Rattle.view.proofs.Values.{tie_set, trill_same}
use Rattle.view.proofs.Turns.{turn_kept}
use Rattle.view.proofs.CellLaws.{record-word}
use Rattle.view.proofs.NoteLaws.{length-note, power-of-two, marks-fit}
use Rattle.view.proofs.Facts.{has-note, last-number, ends-in-note}
use Rattle.view.proofs.NotesLaws.{tied, untied, trilled}
use Rattle.view.proofs.Letters.{notes_held}

module _ (lent : LentRecords) (p o z : ℕ) {s : State} {v : View} (h : Holds lent s v) where
  -- ---- `+`

  pub follows_tie : Follows lent (item p o z (marking tie)) s v (Ok (after_tie (item p o z (marking tie)) v))
  unfolding step
  follows_tie = rw (ends-in-note s.open_bar h.stored) (go (ends_in_note s.open_bar) refl)
    where
      go : (b : Bool) → ends_in_note s.open_bar ≡ b → Taken lent (item p o z (marking tie)) s v (cond b (record v { tie_pending = true; notes = changed note_size tie_started v.notes (v.note_count - 1) })
          (diagnosed (diagnostic 16 (here (item p o z (marking tie))) (all_of_it (item p o z (marking tie))) ∷ []) v))
      go true e = let new = tied s s.open_bar refl h.stored e in record {
        fine = refl;
        holds = notes_held h refl refl refl refl refl new.1 (same_stored refl refl refl new.0)
            (tie_set p o z h.values refl true e refl)
            (same_entered refl refl h.entered.low h.entered.waits h.entered)
            (turn_kept p o z h.values h.in_turn refl (marking tie) refl refl refl);
        list = rw e;
        count = rw e;
      }
      go false e = record {
        fine = refl;
        holds = same_holds (untied s e) refl refl refl refl refl refl h
            (tie_set p o z h.values refl false e refl)
            (same_entered refl refl h.entered.low h.entered.waits h.entered)
            (turn_kept p o z h.values h.in_turn refl (marking tie) refl refl refl);
        list = rw e;
        count = rw e;
      }

  -- ---- `t`

  pub follows_trill : Follows lent (item p o z (marking trill)) s v (after_trill (item p o z (marking trill)) v)
  unfolding step
  follows_trill = go s.open_bar refl h.stored
    where
      -- 10
      refused : (l : List Note) → s.open_bar ≡ l → refusal_in_turn lent (item p o z (marking trill)) 0 s ≡ given (cond (is_marked_full l) (some 10) none) none (λ k. some (refusal k p))
      refused l e = ap (λ (l : List Note). given (cond (is_marked_full l) (some 10) none) none (λ k. some (refusal k p))) e

      room : (n : Note) (l : List Note) → s.open_bar ≡ n ∷ l → Stored (n ∷ l) s.bars v → (b : Bool) → leb mark_capacity (length n.notations.marks) ≡ b
          → Follows lent (item p o z (marking trill)) s v (cond b (Err NoMark) (Ok (record v { notes = changed note_size (marked true) v.notes (v.note_count - 1) })))
      room n l e r true f = refused (n ∷ l) e ∙ ap (λ (b : Bool). given (cond b (some 10) none) none (λ k. some (refusal k p))) f
      room n l e r false f = let new = trilled s n l e r in record {
        fine = refused (n ∷ l) e ∙ ap (λ (b : Bool). given (cond b (some 10) none) none (λ k. some (refusal k p))) f;
        holds = notes_held h refl refl refl refl refl new.1 (same_stored refl refl refl new.0)
            (trill_same p o z h.values refl refl)
            (same_entered refl refl h.entered.low h.entered.waits h.entered)
            (turn_kept p o z h.values h.in_turn refl (marking trill) refl refl refl);
        list = rw e;
        count = rw e;
      }

      go : (l : List Note) → s.open_bar ≡ l → Stored l s.bars v → Follows lent (item p o z (marking trill)) s v (after_trill (item p o z (marking trill)) v)
      go [] e r = rw (has-note [] r) (record {
        fine = refused [] e;
        holds = same_holds (rw e) refl refl refl refl refl refl h
            (trill_same p o z h.values refl refl)
            (same_entered refl refl h.entered.low h.entered.waits h.entered)
            (turn_kept p o z h.values h.in_turn refl (marking trill) refl refl refl);
        list = rw e;
        count = rw e;
      })
      go (n ∷ l) e r = rw (has-note (n ∷ l) r, last-number r MARK_COUNT (omega arith)) (room n l e r (leb mark_capacity (length n.notations.marks)) refl)

-- ---- marks

abbrev Few : Note → Type 0
Few n = length n.notations.marks ≤ mark_capacity

-- so many marks make a number below 256
few-fit : (ms : List Bool) → length ms ≤ mark_capacity → marks_word ms < mark_limit
few-fit ms h =
    let below : 2 ^ length ms ≤ 2 ^ mark_capacity = pow-le-pow_right (omega arith) h in
    omega (arith, marks-fit ms, below, power-of-two (length ms))

zero-words : (n k : ℕ) → get_or (zeros n) k (pos 0) ≡ pos 0
zero-words zero zero = refl
zero-words zero (suc k) = refl
zero-words (suc n) zero = refl
zero-words (suc n) (suc k) = zero-words n k

-- the marks in every record of the cells
abbrev Below : List ℤ → ℕ → Type 0
Below l k = number_at MARKS (record_at note_size l k) < mark_limit

blank-below : (n k : ℕ) → Below (zeros n) k
blank-below n k = rw (record-word note_size (zeros n) k MARKS (omega arith), zero-words) (omega arith)

first-below : (r : Numbered) (zs : List ℤ) → Few r.note → ((k : ℕ) → Below zs k) → (k : ℕ) → Below (note_words r ++ zs) k
first-below r zs f h zero = subst (λ (l : List ℤ). number_at MARKS l < mark_limit) (sym (take_at (note_words r) zs note_size (length-note r))) (few-fit r.note.notations.marks f)
first-below r zs f h (suc k) = rw (suc-mul) (subst (λ (l : List ℤ). number_at MARKS (take note_size l) < mark_limit) (sym (next k)) (h k))
  where
    next : (k : ℕ) → drop (k * note_size + note_size) (note_words r ++ zs) ≡ drop (k * note_size) zs
    next k =
        let e : k * note_size + note_size ≡ note_size + k * note_size = omega arith in
        ap (λ (n : ℕ). drop n (note_words r ++ zs)) e ∙ sym (drop-drop (k * note_size) note_size (note_words r ++ zs)) ∙ ap (drop (k * note_size)) (drop_at (note_words r) zs note_size (length-note r))

all-below : (l : List Numbered) (zs : List ℤ) → All (λ r. Few r.note) l → ((k : ℕ) → Below zs k) → (k : ℕ) → Below (cells note_words l ++ zs) k
all-below [] zs f h k = h k
all-below (r ∷ l) zs f h k = rw (append_assoc (cells note_words l)) (all-below l (note_words r ++ zs) f.1 (first-below r zs f.0 h) k)

in-bar-few : (n : ℕ) (ns : List Note) (l : List Note) (rest : List Numbered) → All Few (ns ++ l) → (All Few l → All (λ r. Few r.note) rest) → All (λ r. Few r.note) (in_bar n ns ++ rest)
in-bar-few n [] l rest f h = h f
in-bar-few n (x ∷ ns) l rest f h = (f.0, in-bar-few n ns l rest f.1 h)

numbered-few : (bs : List Bar) → All Few (notes_of bs) → All (λ r. Few r.note) (numbered bs)
numbered-few [] f = tt
numbered-few (b ∷ bs) f = in-bar-few (suc (length bs)) b.notes (notes_of bs) (numbered bs) f (numbered-few bs)

-- the marks of every note are 8 bits at most
pub marks-below : (lent : LentRecords) (k : Attributes) (before : List Item) {v : View} → tokens_refusal lent k before ≡ none → Holds lent (state_after k before) v → (n : ℕ) → number_at MARKS (record_at note_size v.notes n) < mark_limit
marks-below lent k before {v} passes h n =
    let s = state_after k before in
    let l = records_in s.open_bar s.bars in
    rw h.stored.written (all-below l (zeros (length v.notes - length (cells note_words l))) (in-bar-few (suc (length s.bars)) s.open_bar (notes_of s.bars) (numbered s.bars) (marks-few lent k before passes) (numbered-few s.bars))
    (blank-below (length v.notes - length (cells note_words l))) n)
