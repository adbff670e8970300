-- Barlines: what the view makes of one is what the rules do; also of those between whole-bar rests. Assumes nothing.
use Prim.Native.Nat.{ℕ, ◌+◌, ◌*◌, ◌≤◌}
use mathlib.Core.Path.{◌≡◌, refl, sym, ap, subst, ◌∙◌}
use mathlib.Core.Bool.{Bool, true, false, not, cond, false≢true}
use mathlib.Core.Option.{none, some}
use mathlib.Core.List.{List, [], ◌∷◌}
use lib.ListN.{length}
use Rattle.std.specs.Prelude.{Result, Ok, Err}
use Rattle.rules.specs.Limits.{bar_size}
use Rattle.rules.specs.Tokens.{Item, barline}
use Rattle.rules.specs.Records.{given, is_empty, Note}
use Rattle.rules.specs.Rules.{State, close, step}
use Rattle.rules.specs.Refusals.{LentRecords, refusal, refusal_at}
use Rattle.view.specs.declared.refusal.Refusal.{Refusal}
use Rattle.view.specs.Refusals.{refusal_number}
use Rattle.view.specs.View.{View, has_note}
use Rattle.view.specs.Steps.{and_then, begun_bar, after_barline}
use Rattle.view.specs.Holds.{Holds, Follows}
use Rattle.view.proofs.Same.{item, same_stored, same_barred, same_figured, same_lends}
use Rattle.view.proofs.Values.{barline_stored, barline_empty}
use Rattle.view.proofs.Entries.{entered_cleared}
use Rattle.view.proofs.Turns.{turn_kept}
use Rattle.view.proofs.Facts.{open-empty}
use Rattle.view.proofs.BarLaws.{bar-ind, with_bar, length-stored_bar, bar_barred, bar_records}

-- ---- one turn

-- the rules' step at x, which is not refused and diagnoses nothing
pub record Stepped (lent : LentRecords) (x : Item) (s : State) (v w : View) : Type 0 where
  pub fine : refusal_at lent x s ≡ none
  pub holds : Holds lent (step x s) w
  pub list : w.diagnostics ≡ v.diagnostics
  pub count : w.diagnostic_count ≡ v.diagnostic_count

-- that, or its refusal
abbrev pub Steps : LentRecords → Item → State → View → Result View Refusal → Type 0
Steps lent x s v (Ok w) = Stepped lent x s v w
Steps lent x s v (Err e) = refusal_at lent x s ≡ some (refusal (refusal_number e) x.place)

pub no_notes : (l : List Note) → is_empty l ≡ true → [] ≡ l
no_notes [] e = refl
no_notes (n ∷ l) e = absurd (false≢true e)

module _ (lent : LentRecords) (p o z right left : ℕ) {s : State} {v : View} (h : Holds lent s v) where
  abbrev x : Item
  x = item p o z (barline right left)

  -- 'An empty bar isn't stored', a left of 2 is noted on it
  empty : refusal_at lent x s ≡ none → has_note v ≡ false → Stepped lent x s v (begun_bar (has_note v) left v)
  unfolding step
  empty fine e =
      let none' : is_empty s.open_bar ≡ true = open-empty s.open_bar h.stored ∙ ap not e in
      let same : close right s ≡ s.bars = rw none' in
      subst (λ (b : Bool). Stepped lent x s v (begun_bar b left v)) (sym e) (record {
        fine = fine;
        holds = record {
          values = barline_empty p o z h.values right left none' refl refl;
          entered = entered_cleared refl refl h.entered.low h.entered.waits;
          in_turn = turn_kept p o z h.values h.in_turn refl (barline right left) refl refl refl;
          stored = same_stored (no_notes s.open_bar none') same refl h.stored;
          barred = same_barred same refl h.barred;
          figured = same_figured refl refl refl h.figured;
          lends = same_lends refl refl refl h.lends;
        };
        list = refl;
        count = refl;
      })

  -- else it is stored, and the barline's left is the next bar's
  stored : refusal_at lent x s ≡ none → has_note v ≡ true → (v.bar_count + 1) * bar_size ≤ length v.bars → Stepped lent x s v (begun_bar (has_note v) left (with_bar lent s right h.stored h.lends))
  unfolding step
  stored fine e fits =
      let some' : is_empty s.open_bar ≡ false = open-empty s.open_bar h.stored ∙ ap not e in
      subst (λ (b : Bool). Stepped lent x s v (begun_bar b left (with_bar lent s right h.stored h.lends))) (sym e) (record {
        fine = fine;
        holds = record {
          values = barline_stored p o z h.values right left some' refl refl;
          entered = entered_cleared refl refl h.entered.low h.entered.waits;
          in_turn = turn_kept p o z h.values h.in_turn refl (barline right left) refl refl refl;
          stored = bar_records right h.values h.stored e _ refl refl refl refl refl;
          barred = bar_barred right h.values h.stored e h.barred _ refl fits;
          figured = same_figured refl refl refl h.figured;
          lends = same_lends refl (sym (length-stored_bar right h.values h.stored e h.barred fits)) refl h.lends;
        };
        list = refl;
        count = refl;
      })

  pub steps_barline : Steps lent x s v (after_barline right left v)
  steps_barline = bar-ind lent s right h.stored h.lends
      (λ b r. refusal_at lent x s ≡ given (cond b (some 12) none) none (λ k. some (refusal k p)) → Steps lent x s v (and_then r (λ w. Ok (begun_bar (has_note v) left w))))
      (λ e f. empty f e) (λ e f. f) (λ e fits f. stored f e fits) refl

  pub follows_barline : Follows lent x s v (after_barline right left v)
  follows_barline = go (after_barline right left v) steps_barline
    where
      go : (r : Result View Refusal) → Steps lent x s v r → Follows lent x s v r
      go (Ok w) t = record { fine = t.fine; holds = t.holds; list = t.list; count = t.count }
      go (Err e) t = t
