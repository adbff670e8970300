-- A start in the open bar is not beyond the bar's length: so what is closed in its own bar has its notes there. Assumes nothing.
use Prim.Native.Nat.{ℕ, suc, ◌≤◌}
use mathlib.Core.Path.{◌≡◌, refl, sym, ap, subst, ◌∙◌}
use mathlib.Core.Bool.{Bool, true, false, cond}
use mathlib.Core.Option.{Option, none, some}
use mathlib.Core.List.{List, [], ◌∷◌, ◌++◌}
use native.Mathlib.Omega.{arith}
use lib.ListN.{length, length-append, length-map}
use borrow.Author.Tests.{eqb-true}
use Rattle.rules.specs.Tokens.{is_barline, right_in, figure_in, marking_in, Figure, Marking, Item, figure_mark, figure_repeat, bar_repeat, beam_open, beam_close, group_open, group_close, group_count, tie, trill}
use Rattle.rules.specs.Records.{is_empty, Heading, Note}
use Rattle.rules.specs.Rules.{Start, Group, start_here, in_its_bar, finished, close, stores, counted, figure_start_next, beam_start_next, group_next, step, further_bars, inner_barline, state_after, State, Attributes}
use Rattle.theorems.proofs.Lists.{given-ind}
use Rattle.theorems.proofs.WholeBars.{each_turn}
use Rattle.theorems.proofs.Places.{older, headings-behind}

-- with so many stored bars and records in the open bar: no start in a later bar, none beyond the open bar's length
record Reached (bars open' : ℕ) (start : Start) : Type 0 where
  bar : start.bar ≤ bars
  from : start.bar ≡ bars → start.from ≤ open'

abbrev Reaches : State → Start → Type 0
Reaches s start = Reached (length s.bars) (length s.open_bar) start

abbrev ReachesAny : State → Option Start → Type 0
ReachesAny s none = Unit {0}
ReachesAny s (some start) = Reaches s start

abbrev ReachesGroup : State → Option Group → Type 0
ReachesGroup s none = Unit {0}
ReachesGroup s (some g) = Reaches s g.start

-- no token takes a record from the open bar but a barline, which starts a later bar unless the bar is empty
on : (x : Item) (s : State) (start : Start) → Reaches s start → Reaches (step x s) start
unfolding step
on x s start h = go (is_barline x.token)
  where
    new : List Note
    new = stores x.place x.token s

    old : List Note
    old = older x.place x.token s

    heading : Note → Heading
    heading r = r.heading

    same : length old ≡ length s.open_bar
    same = sym (length-map old heading) ∙ ap length (headings-behind [] x.place x.token s) ∙ length-map s.open_bar heading

    shut : (l : List Note) → s.open_bar ≡ l → Reached (length (cond (is_empty l) s.bars (finished (right_in x.token) s ∷ s.bars))) 0 start
    shut [] e = record { bar = h.bar; from = λ g. omega (arith, h.from g, ap length e) }
    shut (n ∷ l) e = record { bar = omega (arith, h.bar); from = λ g. absurd (past h.bar g) }
      where
        past : start.bar ≤ length s.bars → start.bar ≡ suc (length s.bars) → ⊥
        past a e = omega (arith, a, e)

    go : (b : Bool) → Reached (length (cond b (close (right_in x.token) s) s.bars)) (length (cond b [] (new ++ old))) start
    go true = shut s.open_bar refl
    go false = record { bar = h.bar; from = λ e. omega (arith, h.from e, same, length-append new old) }

-- a start noted here
here : (s : State) → Reaches s (start_here s)
here s = record { bar = omega arith; from = λ e. omega arith }

record Noted (s : State) : Type 0 where
  figure : ReachesAny s s.figure_start
  beam : ReachesAny s s.beam_start
  group : ReachesGroup s s.group

module _ (x : Item) (s : State) (i : Noted s) where
  on-any : (o : Option Start) → ReachesAny s o → ReachesAny (step x s) o
  on-any none h = tt
  on-any (some start) h = on x s start h

  on-group : (o : Option Group) → ReachesGroup s o → ReachesGroup (step x s) o
  on-group none h = tt
  on-group (some g) h = on x s g.start h

  figure-next : (f : Figure) → ReachesAny s (figure_start_next f s)
  figure-next figure_mark = given-ind (ReachesAny s) s.figure_start (here s) (λ start. tt)
  figure-next figure_repeat = i.figure
  figure-next bar_repeat = i.figure

  beam-next : (m : Marking) → ReachesAny s (beam_start_next m s)
  beam-next beam_open = here s
  beam-next beam_close = tt
  beam-next group_open = i.beam
  beam-next group_close = i.beam
  beam-next tie = i.beam
  beam-next trill = i.beam
  beam-next (group_count c) = i.beam

  count_next : (g : Option Group) (c : Option ℕ) → ReachesGroup s g → ReachesGroup s (counted g c)
  count_next none c h = tt
  count_next (some g) none h = h
  count_next (some g) (some n) h = h

  group-next : (m : Marking) → ReachesGroup s (group_next m s)
  group-next beam_open = i.group
  group-next beam_close = i.group
  group-next group_open = here s
  group-next group_close = tt
  group-next tie = i.group
  group-next trill = i.group
  group-next (group_count c) = count_next s.group c i.group

  noted_step : Noted (step x s)
  unfolding step
  noted_step = record {
    figure = on-any (step x s).figure_start (given-ind (ReachesAny s) (figure_in x.token) i.figure figure-next);
    beam = on-any (step x s).beam_start (given-ind (ReachesAny s) (marking_in x.token) i.beam beam-next);
    group = on-group (step x s).group (given-ind (ReachesGroup s) (marking_in x.token) i.group group-next);
  }

noted : (k : Attributes) (e : List Item) → Noted (state_after k e)
unfolding state_after
noted k [] = record { figure = tt; beam = tt; group = tt }
noted k (x ∷ e) = each_turn Noted x (noted_step x) (noted_step (inner_barline x)) (further_bars x.token) (state_after k e) (noted k e)

-- ---- of every reading

-- no start is of a later bar; one of the open bar is not beyond its length
pub record Within (s : State) (start : Start) : Type 0 where
  pub early : start.bar ≤ length s.bars
  pub inside : in_its_bar start s ≡ true → start.from ≤ length s.open_bar

pub record Starts (s : State) : Type 0 where
  pub figure : (start : Start) → s.figure_start ≡ some start → Within s start
  pub beam : (start : Start) → s.beam_start ≡ some start → Within s start
  pub group : (g : Group) → s.group ≡ some g → Within s g.start

within : (s : State) (start : Start) → Reaches s start → Within s start
within s start h = record { early = h.bar; inside = λ e. h.from (eqb-true start.bar (length s.bars) e) }

pub starts : (k : Attributes) (e : List Item) → Starts (state_after k e)
starts k e = record {
  figure = λ start q. within s start (subst (ReachesAny s) q (noted k e).figure);
  beam = λ start q. within s start (subst (ReachesAny s) q (noted k e).beam);
  group = λ g q. within s g.start (subst (ReachesGroup s) q (noted k e).group);
}
  where
    s : State
    s = state_after k e
