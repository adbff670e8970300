-- Whole-bar rests: in turn, each behind a barline, they are what the rules do, and refused where the rules refuse them. Assumes nothing.
use Prim.Native.Nat.{ℕ, zero, suc, ◌-◌}
use mathlib.Core.Path.{◌≡◌, refl, ap, ◌∙◌}
use mathlib.Core.Option.{Option, none, some}
use mathlib.Core.List.{List, ◌∷◌}
use Rattle.std.specs.Prelude.{Result, Ok, Err}
use Rattle.rules.specs.Tokens.{Item, other, whole_bars}
use Rattle.rules.specs.Records.{◌or◌, given, Note}
use Rattle.rules.specs.Rules.{State, whole_bar_rest, step, inner_barline, in_turn}
use Rattle.rules.specs.Refusals.{LentRecords, Refusal, refusal, refusal_at, refusal_in_turn}
use Rattle.view.specs.declared.refusal.Refusal as code
use Rattle.view.specs.Refusals.{refusal_number}
use Rattle.view.specs.View.{View}
use Rattle.view.specs.Steps.{and_then, after_barline, after_whole_bar, after_whole_bars, after_count}
use Rattle.view.specs.Holds.{Holds, Follows}
use Rattle.view.proofs.Same.{item, same_entered, same_stored, same_holds}
use Rattle.view.proofs.Values.{other_same}
use Rattle.view.proofs.Turns.{turn_kept}
use Rattle.view.proofs.Facts.{room-ind}
use Rattle.view.proofs.NotesLaws.{unmarked, added}
use Rattle.view.proofs.Letters.{notes_held}
use Rattle.view.proofs.Barlines.{Stepped, Steps, steps_barline}

module _ (lent : LentRecords) (p o z : ℕ) (count : ℕ) where
  abbrev x : Item
  x = item p o z (other (whole_bars (some count)))

  -- ---- one turn

  module _ {s : State} {v : View} (h : Holds lent s v) where
    steps_whole_bar : Steps lent x s v (after_whole_bar p v)
    unfolding step
    steps_whole_bar = room-ind lent s h.stored h.lends 1
        (λ n r. refusal_at lent x s ≡ given n none (λ k. some (refusal k p)) → Steps lent x s v r) none _ (λ e. e) (λ e. e)
        (λ few fits e. let new = added h.stored (whole_bar_rest p) few fits in record {
          fine = e;
          holds = notes_held h refl refl refl refl refl new.1
              (same_stored (ap (λ (l : List Note). whole_bar_rest p ∷ l) (unmarked s.open_bar)) refl refl new.0)
              (other_same p o z h.values refl (whole_bars (some count)) refl)
              (same_entered refl refl h.entered.low h.entered.waits h.entered)
              (turn_kept p o z h.values h.in_turn refl (other (whole_bars (some count))) refl refl refl);
          list = refl;
          count = refl;
        }) refl

  -- ---- so many further ones

  module _ (s : State) (v : View) where
    record Turned (further : ℕ) (w : View) : Type 0 where
      fine : refusal_in_turn lent x further s ≡ none
      holds : Holds lent (in_turn x further s) w
      list : w.diagnostics ≡ v.diagnostics
      total : w.diagnostic_count ≡ v.diagnostic_count

    abbrev Turns : ℕ → Result View code.Refusal → Type 0
    Turns further (Ok w) = Turned further w
    Turns further (Err e) = refusal_in_turn lent x further s ≡ some (refusal (refusal_number e) p)

    -- one more
    module _ (further : ℕ) where
      abbrev u : State
      u = in_turn x further s

      abbrev t : State
      t = step (inner_barline x) u

      rested : (w w' : View) → Turned further w → Stepped lent (inner_barline x) u w w' → (r : Result View code.Refusal) → Steps lent x t w' r → Turns (suc further) r
      rested w w' a b (Err e) c = λ i. a.fine i or b.fine i or c i
      rested w w' a b (Ok y) c = record { fine = λ i. a.fine i or b.fine i or c.fine i; holds = c.holds; list = c.list ∙ b.list ∙ a.list; total = c.count ∙ b.count ∙ a.total }

      barred : (w : View) → Turned further w → (r : Result View code.Refusal) → Steps lent (inner_barline x) u w r → Turns (suc further) (and_then r (after_whole_bar p))
      barred w a (Err e) b = λ i. a.fine i or b i or refusal_at lent x t
      barred w a (Ok w') b = rested w w' a b (after_whole_bar p w') (steps_whole_bar b.holds)

      more : (r : Result View code.Refusal) → Turns further r → Turns (suc further) (and_then r (λ w. and_then (after_barline 0 0 w) (after_whole_bar p)))
      more (Err e) a = ap (λ (q : Option Refusal). q or refusal_at lent (inner_barline x) u or refusal_at lent x t) a
      more (Ok w) a = barred w a (after_barline 0 0 w) (steps_barline lent p o z 0 0 a.holds)

    turns : Holds lent s v → (further : ℕ) → Turns further (after_whole_bars p further v)
    turns h zero = go (after_whole_bar p v) (steps_whole_bar h)
      where
        go : (r : Result View code.Refusal) → Steps lent x s v r → Turns 0 r
        go (Ok w) a = record { fine = a.fine; holds = a.holds; list = a.list; total = a.count }
        go (Err e) a = a
    turns h (suc further) = more further (after_whole_bars p further v) (turns h further)

-- ---- the token

module _ (lent : LentRecords) (p o z : ℕ) {s : State} {v : View} (h : Holds lent s v) where
  pub follows_whole_bars : (count : Option ℕ) → Follows lent (item p o z (other (whole_bars count))) s v (after_count (item p o z (other (whole_bars count))) count v)
  unfolding step
  follows_whole_bars none = record {
    fine = refl;
    holds = same_holds (unmarked s.open_bar) refl refl refl refl refl refl h
        (other_same p o z h.values refl (whole_bars none) refl)
        (same_entered refl refl h.entered.low h.entered.waits h.entered)
        (turn_kept p o z h.values h.in_turn refl (other (whole_bars none)) refl refl refl);
    list = refl;
    count = refl;
  }
  follows_whole_bars (some count) = go (after_whole_bars p (count - 1) v) (turns lent p o z count s v h (count - 1))
    where
      go : (r : Result View code.Refusal) → Turns lent p o z count s v (count - 1) r → Follows lent (item p o z (other (whole_bars (some count)))) s v r
      go (Ok w) a = record { fine = a.fine; holds = a.holds; list = a.list; count = a.total }
      go (Err e) a = a
