-- What the steps ask of a view is so between any two tokens. Assumes nothing.
use Rattle.std.proofs.Common.{◌≡◌, ℕ, ◌-◌, ◌*◌, ◌≤◌, ◌<◌, eqb, List, ℤ, length, drop, refl, sym, ap, ◌∙◌, arith, length-append, length-take, drop_at}
use lib.ListN.{length-map}
use Rattle.std.proofs.Math.Option as math
use Rattle.std.proofs.Math.Option.{none, some}
use Rattle.rules.specs.Limits.{note_limit, note_size}
use Rattle.rules.specs.Tokens.{Item, Figure, figure_mark, figure_repeat, bar_repeat, figure_in}
use Rattle.rules.specs.Records.{Note}
use Rattle.rules.specs.Rules.{State, Start, Group, Attributes, in_its_bar, count_from, notes_from, figure_next, step, further_bars, inner_barline, in_turn, state_after}
use Rattle.rules.specs.Refusals.{LentRecords}
use Rattle.rules.specs.Words.{Numbered, zeros, cells, note_words}
use Rattle.theorems.proofs.Lists.{given-ind, cond_ind}
use Rattle.theorems.proofs.WholeBars.{whole_at, untouched}
use Rattle.theorems.proofs.Starts.{Within, starts}
use Rattle.stores.specs.declared.note.TheConstants.{MARKS}
use Rattle.stores.specs.Cells.{record_at}
use Rattle.stores.specs.Notes.{number_at, mark_limit}
use Rattle.view.specs.View.{View}
use Rattle.view.specs.Ready.{Sound, Reached, start_of, IsReady}
use Rattle.view.specs.Holds.{records_in, Holds}
use Rattle.view.proofs.CellLaws.{length-cells}
use Rattle.view.proofs.NoteLaws.{length-note}
use Rattle.view.proofs.StoredLaws.{length-stored}
use Rattle.view.proofs.Facts.{first_below, last-below, length-open}

-- ---- the figure

-- it is no longer than the open bars that it comes from
pub figure_few : (x : Item) (s : State) (n : ℕ) → length s.figure ≤ n → length s.open_bar ≤ n → length (in_turn x (further_bars x.token) s).figure ≤ n
unfolding step
figure_few x s n h g = rw (untouched (λ (s : State). s.figure) own bar x s) once
  where
    own : (x : Item) (n : ℕ) (s : State) → (step (whole_at x n) s).figure ≡ s.figure
    own x n s = refl

    bar : (x : Item) (s : State) → (step (inner_barline x) s).figure ≡ s.figure
    bar x s = refl

    part : (start : Start) → length (notes_from start s) ≤ n
    part start = omega (arith, length-take (count_from start s) s.open_bar)

    next : (f : Figure) → length (figure_next f s) ≤ n
    next figure_mark = given-ind (λ (l : List Note). length l ≤ n) s.figure_start h (λ start. cond_ind (λ (l : List Note). length l ≤ n) (in_its_bar start s) (part start) h)
    next figure_repeat = h
    next bar_repeat = h

    once : length (step x s).figure ≤ n
    once = given-ind (λ (l : List Note). length l ≤ n) (figure_in x.token) h next

-- ---- ready

module _ (lent : LentRecords) (k : Attributes) (before : List Item) {v : View} (h : Holds lent (state_after k before) v) where
  abbrev s : State
  s = state_after k before

  -- the cells of the notes, and how many they are
  abbrev words : List ℤ
  words = cells note_words (records_in s.open_bar s.bars)

  width : length words ≡ v.note_count * note_size
  width = rw (length-cells note_words note_size length-note (records_in s.open_bar s.bars), length-stored s.open_bar s.bars, h.stored.count) refl

  blank : drop (v.note_count * note_size) v.notes ≡ zeros (length v.notes - v.note_count * note_size)
  blank = ap (drop (v.note_count * note_size)) h.stored.written ∙ drop_at words (zeros (length v.notes - length words)) (v.note_count * note_size) width ∙ ap (λ (n : ℕ). zeros (length v.notes - n)) width

  pub sound : Sound v
  sound = record {
    first = first_below h.stored;
    capped = h.stored.capped;
    few = omega (arith, h.stored.first, h.stored.bars, h.barred.few);
    blank = blank;
  }

  reached : (q : math.Option Start) → ((start : Start) → q ≡ some start → Within s start) → Reached q v
  reached none w = tt
  reached (some start) w = λ e. omega (arith, (w start refl).inside (ap (eqb start.bar) (sym h.stored.bars) ∙ e), length-open h.stored)

  reached-group : (q : math.Option Group) → ((g : Group) → q ≡ some g → Within s g.start) → Reached (start_of q) v
  reached-group none w = tt
  reached-group (some g) w = λ e. omega (arith, (w g refl).inside (ap (eqb g.start.bar) (sym h.stored.bars) ∙ e), length-open h.stored)

  figure-width : v.figure_count * note_size ≤ length v.figure
  figure-width = rw (h.figured.written, length-append, length-cells note_words note_size length-note h.figured.records, h.figured.counted) (omega arith)

  figure-length : length s.figure ≡ v.figure_count
  figure-length = ap length h.figured.notes ∙ length-map h.figured.records (λ (r : Numbered). r.note) ∙ sym h.figured.counted

  pub ready : length s.figure ≤ note_limit → ((k : ℕ) → number_at MARKS (record_at note_size v.notes k) < mark_limit) → IsReady v
  ready few marks = record {
    sound = sound;
    last = last-below h.stored;
    figure_start = reached v.figure_start (λ start e. (starts k before).figure start (h.values.figure_start ∙ e));
    beam_start = reached v.beam_start (λ start e. (starts k before).beam start (h.values.beam_start ∙ e));
    group = reached-group v.group (λ g e. (starts k before).group g (h.values.group ∙ e));
    figure = figure-width;
    figure_capped = omega (arith, figure-length, few);
    marks = marks;
  }
