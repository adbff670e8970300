-- What the reading stores, and what it takes values from, is in range after every token. Assumes nothing.
use Prim.Native.Nat.{ℕ, zero, suc, ◌%◌, ◌≤◌}
use mathlib.Core.Path.{◌≡◌, refl}
use mathlib.Core.Bool.{Bool, true, false, cond, ◌&&◌}
use mathlib.Core.Option.{Option, none, some}
use mathlib.Core.List.{List, [], ◌∷◌}
use native.Mathlib.Omega.{arith}
use borrow.Author.Tests.{not-true, lt-ltb}
use lib.IntN.{pos}
use lib.ListN.{length, get_or}
use lib.Dec.{eqb}
use Rattle.rules.specs.Limits.{octave_limit}
use Rattle.rules.specs.Values.{treble, quarter, Clef}
use Rattle.rules.specs.Tokens.{Figure, figure_mark, figure_repeat, bar_repeat, Marking, beam_open, beam_close, group_open, group_close, tie, trill, group_count, Token, Item, clef_in, key_in, meter_in, octave_in, duration_in, accidental_in, letter_in, is_rest, is_barline, right_in, left_in, figure_in, marking_in, whole_bars_in}
use Rattle.rules.specs.Records.{◌or◌, is_some, is_empty, is_rest_kind, Pitch, Note, Bar}
use Rattle.rules.specs.Rules.{fresh, in_its_bar, count_from, attribute_next, clef_given, fifths_given, meter_given, left_next, finished, close, alter_of, pitch_of, accidentals_next, ends_in_note, joins, opens, kind_of, length_of, next_value, copied, repeated_bar, repeated, figure_next, plain, opened_note, rest_note, whole_bar_rest, stores, add_pitch, joined, with_notations, notations_next, counted, group_next, open_bar_next, step, further_bars, inner_barline, state_after, bars_at_end, Accidentals, Group, State, Attributes}
use Rattle.rules.specs.Agreement.{All}
use Rattle.std.proofs.lemmas.Bool.{and_parts}
use Rattle.theorems.proofs.Lists.{cond_ind, cond-case, given-ind, all-imp, all-++, all_map, all_take}
use Rattle.theorems.proofs.WholeBars.{each_turn}
use Rattle.cardtheorems.proofs.Ranges.{IfSome, or-in, else-in, given-in, AlterIn, FifthsIn, ClefIn, MeterIn, KeyIn, AttributesIn, PlaceIn, PitchIn, LengthIn, NotationsIn, PitchesIn, NoteIn, BarIn, CountIn, MarkingIn, ItemIn}
use Rattle.cardtheorems.proofs.Marks.{GroupIn, notations-in}

abbrev AccidentalsIn : Accidentals → Type 0
AccidentalsIn table = (m o : ℕ) → IfSome AlterIn (table m o)

pub record StateIn (s : State) : Type 0 where
  pub clef : IfSome ClefIn s.clef
  pub fifths : IfSome FifthsIn s.fifths
  pub key_alters : All AlterIn s.key_alters
  pub meter : IfSome MeterIn s.meter
  pub left : s.left ≤ 3
  pub octave : s.octave ≤ octave_limit
  pub pattern : All LengthIn s.pattern
  pub pending_accidental : IfSome AlterIn s.pending_accidental
  pub accidentals : AccidentalsIn s.accidentals
  pub open_bar : All NoteIn s.open_bar
  pub bars : All BarIn s.bars
  pub figure : All NoteIn s.figure
  pub group : IfSome GroupIn s.group

-- an element of a list, or another
at_in : {A : Type 0} (P : A → Type 0) (l : List A) (i : ℕ) (d : A) → All P l → P d → P (get_or l i d)
at_in P [] i d h g = g
at_in P (x ∷ l) zero d h g = h.0
at_in P (x ∷ l) (suc i) d h g = at_in P l i d h.1 g

quarter-in : LengthIn quarter
quarter-in = record { duration = omega arith; dots = omega arith }

module _ (s : State) (h : StateIn s) where
  -- ---- letters and rests

  alter-in : (n : ℕ) → AlterIn (alter_of s n)
  alter-in n = else-in AlterIn (s.pending_accidental or s.accidentals n s.octave) (get_or s.key_alters n (pos 0))
      (or-in AlterIn s.pending_accidental (s.accidentals n s.octave) h.pending_accidental (h.accidentals n s.octave)) (at_in AlterIn s.key_alters n (pos 0) h.key_alters refl)

  pitch-in : (place n : ℕ) → PlaceIn place → n ≤ 6 → PitchIn (pitch_of s place n)
  pitch-in place n p l = record { place = p; step = l; octave = h.octave; alter = alter-in n }

  value_in : LengthIn (next_value s)
  value_in = at_in LengthIn s.pattern (s.values_taken % length s.pattern) quarter h.pattern quarter-in

  length-in : (mark : Option Bool) → LengthIn (length_of mark (next_value s))
  length-in (some true) = record { duration = omega arith; dots = omega arith }
  length-in (some false) = value_in
  length-in none = value_in

  kind-in : (mark : Option Bool) (in_group : Bool) → (kind_of mark in_group ≤ 4) × PitchesIn (kind_of mark in_group) 1
  kind-in (some true) b = (omega arith, refl)
  kind-in (some false) b = (omega arith, refl)
  kind-in none true = (omega arith, refl)
  kind-in none false = (omega arith, refl)

  plain_in : (ends : Bool) → NotationsIn (plain ends)
  plain_in ends = record { beam = omega arith; actual = refl; normal = refl }

  opened_in : (place n : ℕ) → PlaceIn place → n ≤ 6 → NoteIn (opened_note s place n)
  opened_in place n p l =
      let k = kind-in s.pending_grace s.grace_group in
      let v = length-in s.pending_grace in
      record { place = p; kind = k.0; duration = v.duration; dots = v.dots; notations = plain_in s.tie_pending; count = k.1; pitches = (pitch-in place n p l, tt) }

  rest_in : (place : ℕ) → PlaceIn place → NoteIn (rest_note s place)
  rest_in place p = record { place = p; kind = omega arith; duration = value_in.duration; dots = value_in.dots; notations = plain_in false; count = refl; pitches = tt }

  whole_in : (place : ℕ) → PlaceIn place → NoteIn (whole_bar_rest place)
  whole_in place p = record { place = p; kind = omega arith; duration = omega arith; dots = omega arith; notations = plain_in false; count = refl; pitches = tt }

  -- ---- copies

  copied-in : (place : ℕ) → PlaceIn place → (n : Note) → NoteIn n → NoteIn (copied place n)
  copied-in place p n i = record { place = p; kind = i.kind; duration = i.duration; dots = i.dots; notations = record { beam = i.notations.beam; actual = i.notations.actual; normal = i.notations.normal }; count = i.count; pitches = i.pitches }

  last-in : (l : List Note) (bs : List Bar) → All BarIn bs → All NoteIn (repeated_bar l bs)
  last-in (n ∷ l) bs i = tt
  last-in [] [] i = tt
  last-in [] (b ∷ bs) i = i.0.notes

  repeated-in : (f : Figure) → All NoteIn (repeated f s)
  repeated-in figure_mark = tt
  repeated-in figure_repeat = h.figure
  repeated-in bar_repeat = last-in s.open_bar s.bars h.bars

  figure-in : (f : Figure) → All NoteIn (figure_next f s)
  figure-in figure_mark = given-ind (All NoteIn) s.figure_start h.figure (λ start. cond_ind (All NoteIn) (in_its_bar start s) (all_take NoteIn (count_from start s) s.open_bar h.open_bar) h.figure)
  figure-in figure_repeat = h.figure
  figure-in bar_repeat = h.figure

  -- ---- what a token stores

  stores-in : (x : Item) → ItemIn x → All NoteIn (stores x.place x.token s)
  stores-in x i =
      cond_ind (All NoteIn) (opens x.token s) (given-in (λ (n : ℕ). n ≤ 6) (All NoteIn) (letter_in x.token) i.token.letter tt (λ n l. (opened_in x.place n i.place l, tt)))
      (cond_ind (All NoteIn) (is_rest x.token) (rest_in x.place i.place, tt)
      (cond_ind (All NoteIn) (is_some (whole_bars_in x.token)) (whole_in x.place i.place, tt)
      (given-ind (All NoteIn) (figure_in x.token) tt (λ f. all_map (copied x.place) NoteIn (repeated f s) (all-imp (copied-in x.place i.place) (repeated f s) (repeated-in f))))))

  -- a joining letter
  added-in : (q : Pitch) (l : List Note) → PitchIn q → ends_in_note l ≡ true → All NoteIn l → All NoteIn (add_pitch q l)
  added-in q [] p e a = tt
  added-in q (n ∷ l) p e a =
      let i = a.0 in
      let sounds : PitchesIn n.heading.kind (suc (length n.pitches)) = rw (not-true (is_rest_kind n.heading.kind) e) (lt-ltb 0 (suc (length n.pitches)) (omega arith)) in
      (record { place = i.place; kind = i.kind; duration = i.duration; dots = i.dots; notations = i.notations; count = sounds; pitches = (p, i.pitches) }, a.1)

  joined_in : (x : Item) → ItemIn x → All NoteIn (joined x.place x.token s)
  joined_in x i = given-in (λ (n : ℕ). n ≤ 6) (All NoteIn) (letter_in x.token) i.token.letter h.open_bar
      (λ n l. cond-case (All NoteIn) (joins s) (λ j. added-in (pitch_of s x.place n) s.open_bar (pitch-in x.place n i.place l) (and_parts s.chord_next (ends_in_note s.open_bar) j).1 h.open_bar) h.open_bar)

  open_in : (x : Item) → ItemIn x → All NoteIn (open_bar_next x.place x.token s)
  open_in x i = cond_ind (All NoteIn) (is_barline x.token) tt
      (all-++ NoteIn (stores x.place x.token s) (with_notations (notations_next x.token s) 0 (joined x.place x.token s)) (stores-in x i) (notations-in x.token s (joined x.place x.token s) h.group (joined_in x i)))

  -- ---- bars

  finished-in : (right : ℕ) → right ≤ 3 → 1 ≤ length s.open_bar → BarIn (finished right s)
  finished-in right r one = record {
    clef = cond_ind (IfSome ClefIn) (is_empty s.bars) (or-in ClefIn s.clef (some treble) h.clef (omega arith)) h.clef;
    fifths = cond_ind (IfSome FifthsIn) (is_empty s.bars) (or-in FifthsIn s.fifths (some (pos 0)) h.fifths refl) h.fifths;
    meter = h.meter;
    left = h.left;
    right = r;
    some = one;
    notes = h.open_bar;
  }

  pub close-in : (right : ℕ) → right ≤ 3 → All BarIn (close right s)
  close-in right r = go s.open_bar refl
    where
      go : (l : List Note) → s.open_bar ≡ l → All BarIn (cond (is_empty l) s.bars (finished right s ∷ s.bars))
      go [] e = h.bars
      go (n ∷ l) e = (finished-in right r (rw e (omega arith)), h.bars)

  -- ---- the other fields

  attribute-in : {A : Type 0} (P : A → Type 0) (t : Token) (new old : Option A) → IfSome P new → IfSome P old → IfSome P (attribute_next t s new old)
  attribute-in P t new old n o = cond_ind (IfSome P) (is_empty s.open_bar) (or-in P new old n o) (cond_ind (IfSome P) (is_barline t) tt o)

  left_in_lem : (t : Token) → left_in t ≤ 3 → left_next t s ≤ 3
  left_in_lem t l = cond_ind (λ (n : ℕ). n ≤ 3) (is_empty s.open_bar) (cond_ind (λ (n : ℕ). n ≤ 3) (eqb (left_in t) 2) (omega arith) h.left) (cond_ind (λ (n : ℕ). n ≤ 3) (is_barline t) l h.left)

  accidentals-in : (t : Token) → AccidentalsIn (accidentals_next t s)
  accidentals-in t = cond_ind AccidentalsIn (is_barline t) (λ m o. tt)
      (given-ind AccidentalsIn (letter_in t) h.accidentals (λ n. given-in AlterIn AccidentalsIn s.pending_accidental h.pending_accidental h.accidentals (λ alter a m o. cond_ind (IfSome AlterIn) (eqb m n && eqb o s.octave) a (h.accidentals m o))))

  counted-in : (g : Option Group) (c : Option ℕ) → IfSome GroupIn g → IfSome CountIn c → IfSome GroupIn (counted g c)
  counted-in none c i j = tt
  counted-in (some g) none i j = i
  counted-in (some g) (some n) i j = j

  group-in : (m : Marking) → MarkingIn m → IfSome GroupIn (group_next m s)
  group-in beam_open i = h.group
  group-in beam_close i = h.group
  group-in group_open i = tt
  group-in group_close i = tt
  group-in tie i = h.group
  group-in trill i = h.group
  group-in (group_count c) i = counted-in s.group c h.group i

  -- ---- the step

  step_in : (x : Item) → ItemIn x → StateIn (step x s)
  unfolding step
  step_in x i = let t : Token = x.token in let j = i.token in record {
    clef = attribute-in ClefIn t (clef_given t) s.clef (given-in (λ (c : Clef). IfSome ClefIn c.clef) (IfSome ClefIn) (clef_in t) j.clef tt (λ c g. g)) h.clef;
    fifths = attribute-in FifthsIn t (fifths_given t) s.fifths (given-in KeyIn (IfSome FifthsIn) (key_in t) j.key tt (λ k g. g.fifths)) h.fifths;
    key_alters = cond_ind (All AlterIn) (is_empty s.open_bar) (given-in KeyIn (All AlterIn) (key_in t) j.key h.key_alters (λ k g. g.alters)) h.key_alters;
    meter = attribute-in MeterIn t (meter_given t) s.meter (given-in (IfSome MeterIn) (IfSome MeterIn) (meter_in t) j.meter tt (λ m g. g)) h.meter;
    left = left_in_lem t j.left;
    octave = else-in (λ (n : ℕ). n ≤ octave_limit) (octave_in t) s.octave j.octave h.octave;
    pattern = else-in (All LengthIn) (duration_in t) s.pattern j.duration h.pattern;
    pending_accidental = cond_ind (IfSome AlterIn) (is_some (letter_in t)) tt (or-in AlterIn (accidental_in t) s.pending_accidental j.accidental h.pending_accidental);
    accidentals = accidentals-in t;
    open_bar = open_in x i;
    bars = cond_ind (All BarIn) (is_barline t) (close-in (right_in t) j.right) h.bars;
    figure = given-ind (All NoteIn) (figure_in t) h.figure figure-in;
    group = given-in MarkingIn (IfSome GroupIn) (marking_in t) j.marking h.group group-in;
  }

-- ---- all tokens

fresh_in : (k : Attributes) → AttributesIn k → StateIn (fresh k)
fresh_in k h = record {
  clef = h.clef;
  fifths = h.fifths;
  key_alters = h.key_alters;
  meter = h.meter;
  left = omega arith;
  octave = omega arith;
  pattern = (quarter-in, tt);
  pending_accidental = tt;
  accidentals = λ m o. tt;
  open_bar = tt;
  bars = tt;
  figure = tt;
  group = tt;
}

inner-in : (x : Item) → ItemIn x → ItemIn (inner_barline x)
inner-in x i = record { place = i.place; token = record { clef = tt; key = tt; meter = tt; octave = tt; duration = tt; accidental = tt; letter = tt; right = omega arith; left = omega arith; marking = tt } }

pub state-in : (k : Attributes) (all : List Item) → AttributesIn k → All ItemIn all → StateIn (state_after k all)
unfolding state_after
state-in k [] h i = fresh_in k h
state-in k (x ∷ before) h i = each_turn StateIn x (λ s g. step_in s g x i.0) (λ s g. step_in s g (inner_barline x) (inner-in x i.0)) (further_bars x.token) (state_after k before) (state-in k before h i.1)

-- the bars that are stored
pub bars-in : (k : Attributes) (all : List Item) → AttributesIn k → All ItemIn all → All BarIn (bars_at_end (state_after k all))
bars-in k all h i = close-in (state_after k all) (state-in k all h i) 0 (omega arith)
