-- Groups over a barline (S-10.1 to S-10.3), of every state: closed in a later bar, `(` always gives d10 and `!` d17, a beam is dropped silently, nothing is made of any of them; and which barlines start a later bar. Assumes nothing.
use Prim.Native.Nat.{ℕ, suc, ◌≤◌}
use native.Mathlib.Omega.{arith}
use mathlib.Core.Path.{◌≡◌, refl}
use mathlib.Core.Bool.{Bool, true, false, cond, ◌&&◌}
use mathlib.Core.Option.{none, some}
use mathlib.Core.List.{List, [], ◌∷◌}
use borrow.Author.Tests.{le-ltb, ne_eqb}
use lib.ListN.{length}
use lib.Dec.{ltb}
use Rattle.rules.specs.Tokens.{Item, Token, barline, figure, figure_mark, marking, beam_close, group_close}
use Rattle.rules.specs.Records.{parentheses, Notations, Note, Diagnostic}
use Rattle.rules.specs.Rules.{Start, Group, in_its_bar, is_non_grace, beam_closed, group_closed, with_notations, step, State}
use Rattle.rules.specs.Diagnostics.{diagnostic, here, all_of_it, token_diagnosed}
use Rattle.rules.specs.Refusals.{token_refusal, LentRecords}

-- notations that stay
unmarked : (f : ℕ → Note → Notations) → ((i : ℕ) (n : Note) → f i n ≡ n.notations) → (i : ℕ) (l : List Note) → with_notations f i l ≡ l
unmarked f h i [] = refl
unmarked f h i (n ∷ l) = λ j. record { heading = n.heading; pitches = n.pitches; notations = h i n j } ∷ unmarked f h (suc i) l j

either : {A : Type 0} (b : Bool) (a : A) → cond b a a ≡ a
either true a = refl
either false a = refl

and-false : (b : Bool) → b && false ≡ false
and-false true = refl
and-false false = refl

module _ (place offset size : ℕ) (lent : LentRecords) (s : State) where
  abbrev at : Token → Item
  at t = record { place = place; offset = offset; size = size; token = t }

  -- the token t is never refused, diagnoses just this, and changes no record, no bar and no figure
  pub record Dropped (t : Token) (ds : List Diagnostic) : Type 0 where
    pub passes : token_refusal lent t s ≡ none
    pub diagnosed : token_diagnosed (at t) s t ≡ ds
    pub notes : (step (at t) s).open_bar ≡ s.open_bar
    pub bars : (step (at t) s).bars ≡ s.bars
    pub figure : (step (at t) s).figure ≡ s.figure

  -- '`(` always gives d10'
  pub group-later : (g : Group) → s.group ≡ some g → in_its_bar g.start s ≡ false → Dropped (marking group_close) (diagnostic 10 (here (at (marking group_close))) parentheses ∷ [])
  unfolding step
  group-later g e later = record {
    passes = rw (e, later);
    diagnosed = rw (e, later);
    notes = rw e (unmarked (group_closed g s) (λ i n. rw later (either (is_non_grace n && ltb i 0) n.notations)) 0 s.open_bar);
    bars = refl;
    figure = refl;
  }

  -- 'and `!` d17'
  pub figure-later : (start : Start) → s.figure_start ≡ some start → in_its_bar start s ≡ false → Dropped (figure figure_mark) (diagnostic 17 (here (at (figure figure_mark))) (all_of_it (at (figure figure_mark))) ∷ [])
  unfolding step
  figure-later start e later = record {
    passes = rw (e, later, le-ltb lent.figure 0 (omega arith));
    diagnosed = rw (e, later);
    notes = unmarked (λ i n. n.notations) (λ i n. refl) 0 s.open_bar;
    bars = refl;
    figure = rw (e, later);
  }

  -- 'a beam is dropped silently'
  pub beam-later : (start : Start) → s.beam_start ≡ some start → in_its_bar start s ≡ false → Dropped (marking beam_close) []
  unfolding step
  beam-later start e later = record {
    passes = refl;
    diagnosed = refl;
    notes = rw e (unmarked (beam_closed start s) (λ i n. rw (later, le-ltb i 0 (omega arith), and-false (is_non_grace n))) 0 s.open_bar);
    bars = refl;
    figure = refl;
  }

  -- 'a barline in an empty bar starts no later one': what was in its bar is, and what wasn't isn't
  pub barline-empty : (right left : ℕ) → s.open_bar ≡ [] → (start : Start) → in_its_bar start (step (at (barline right left)) s) ≡ in_its_bar start s
  unfolding step
  barline-empty right left e start = rw e

  -- any other barline starts a later one: no start is then in its bar
  pub barline-filled : (right left : ℕ) (n : Note) (l : List Note) → s.open_bar ≡ n ∷ l → (start : Start) → start.bar ≤ length s.bars → in_its_bar start (step (at (barline right left)) s) ≡ false
  unfolding step
  barline-filled right left n l e start h = rw e (ne_eqb start.bar (suc (length s.bars)) (λ z. omega (arith, h, z)))
