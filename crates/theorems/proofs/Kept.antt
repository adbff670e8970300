-- What holds of each stored record, kept up from token to token. Assumes nothing.
use Prim.Native.Nat.{ℕ, suc}
use mathlib.Core.Path.{◌≡◌, refl, sym, subst}
use mathlib.Core.Bool.{true, cond}
use mathlib.Core.Option.{Option, none, some}
use mathlib.Core.List.{List, [], ◌∷◌}
use native.Mathlib.Omega.{arith}
use Rattle.rules.specs.Tokens.{letter_in, is_rest, is_barline, right_in, figure_in, marking_in, whole_bars_in, Figure, Marking, Token, Item, figure_mark, figure_repeat, bar_repeat, clef, key, meter, octave, duration, accidental, letter, chord, rest, barline, grace, grace_group, figure, marking, other}
use Rattle.rules.specs.Records.{is_some, given, is_empty, notes_of, Pitch, Notations, Note, Bar}
use Rattle.rules.specs.Rules.{close, pitch_of, opened_note, rest_note, joins, opens, copied, repeated_bar, repeated, in_its_bar, count_from, figure_next, whole_bar_rest, stores, add_pitch, joined, marked, with_notations, step, inner_barline, in_turn, state_after, stored, State, Attributes}
use Rattle.rules.specs.Agreement.{All}
use Rattle.theorems.proofs.Lists.{cond_ind, cond-case, given-ind, given-case, all-imp, all-++, all_map, all_take}
use Rattle.theorems.proofs.WholeBars.{each_turn, whole_at, by-turns}
use Rattle.theorems.proofs.Places.{older}

-- P of a record, after tokens that are Ok: more tokens don't harm it, an opened note and rests of both kinds have it, a copy has it from its original, a joining letter and marks keep it
pub record Kept (k : Attributes) (Ok : List Item → Type 0) (P : List Item → Note → Type 0) : Type 0 where
  pub earlier : (x : Item) (e : List Item) → Ok (x ∷ e) → Ok e
  pub more : (x : Item) (e : List Item) (r : Note) → P e r → P (x ∷ e) r
  pub opened : (x : Item) (e : List Item) (n : ℕ) → Ok (x ∷ e) → letter_in x.token ≡ some n → P (x ∷ e) (opened_note (state_after k e) x.place n)
  pub rested : (x : Item) (e : List Item) → P (x ∷ e) (rest_note (state_after k e) x.place)
  pub whole : (x : Item) (e : List Item) → P (x ∷ e) (whole_bar_rest x.place)
  pub repeats : (x : Item) (e : List Item) (r : Note) → P e r → P (x ∷ e) (copied x.place r)
  pub chord : (x : Item) (e : List Item) (n : ℕ) (r : Note) (l : List Note) → Ok (x ∷ e) → letter_in x.token ≡ some n → joins (state_after k e) ≡ true → (state_after k e).open_bar ≡ r ∷ l
      → P (x ∷ e) r → P (x ∷ e) (record { heading = r.heading; pitches = pitch_of (state_after k e) x.place n ∷ r.pitches; notations = r.notations })
  pub marks : (x : Item) (e : List Item) (m : Marking) → Ok (x ∷ e) → marking_in x.token ≡ some m
      → All (P (x ∷ e)) (state_after k e).open_bar → All (P (x ∷ e)) (with_notations (marked m (state_after k e)) 0 (state_after k e).open_bar)

-- a mark is no letter
no-letter : (t : Token) (m : Marking) → marking_in t ≡ some m → letter_in t ≡ none
no-letter (letter n) m e = let z : ◌≡◌ {A = ℕ} 0 1 = cc in absurd (omega arith)
no-letter (clef c) m e = refl
no-letter (key c) m e = refl
no-letter (meter c) m e = refl
no-letter (octave c) m e = refl
no-letter (duration c) m e = refl
no-letter (accidental c) m e = refl
no-letter chord m e = refl
no-letter rest m e = refl
no-letter (barline r l) m e = refl
no-letter (grace g) m e = refl
no-letter (grace_group g) m e = refl
no-letter (figure f) m e = refl
no-letter (marking g) m e = refl
no-letter (other o) m e = refl

module _ (k : Attributes) (Ok : List Item → Type 0) (P : List Item → Note → Type 0) (law : Kept k Ok P) where
  record Held (e : List Item) (s : State) : Type 0 where
    of-open : All (P e) s.open_bar
    of-closed : All (λ b. All (P e) b.notes) s.bars
    of-figure : All (P e) s.figure

  more-all : (x : Item) (e : List Item) (l : List Note) → All (P e) l → All (P (x ∷ e)) l
  more-all x e = all-imp (law.more x e)

  stores-each : (x : Item) (e : List Item) → Ok (x ∷ e) → Held e (state_after k e) → All (P (x ∷ e)) (stores x.place x.token (state_after k e))
  stores-each x e o i =
      let s : State = state_after k e in
      let t : Token = x.token in
      cond_ind (All (P (x ∷ e))) (opens t s) (given-case (All (P (x ∷ e))) (letter_in t) tt (λ n l. (law.opened x e n o l, tt)))
      (cond_ind (All (P (x ∷ e))) (is_rest t) (law.rested x e, tt)
      (cond_ind (All (P (x ∷ e))) (is_some (whole_bars_in t)) (law.whole x e, tt)
      (given-ind (All (P (x ∷ e))) (figure_in t) tt (λ f. all_map (copied x.place) (P (x ∷ e)) (repeated f s) (all-imp (law.repeats x e) (repeated f s) (copies f))))))
    where
      last : (l : List Note) (cs : List Bar) → All (λ b. All (P e) b.notes) cs → All (P e) (repeated_bar l cs)
      last (n ∷ l) cs h = tt
      last [] [] h = tt
      last [] (c ∷ cs) h = h.0

      copies : (f : Figure) → All (P e) (repeated f (state_after k e))
      copies figure_mark = tt
      copies figure_repeat = i.of-figure
      copies bar_repeat = last (state_after k e).open_bar (state_after k e).bars i.of-closed

  joined-each : (x : Item) (e : List Item) → Ok (x ∷ e) → All (P (x ∷ e)) (state_after k e).open_bar → All (P (x ∷ e)) (joined x.place x.token (state_after k e))
  joined-each x e o old =
      let s : State = state_after k e in
      given-case (All (P (x ∷ e))) (letter_in x.token) old (λ n l. cond-case (All (P (x ∷ e))) (joins s) (λ j. add n l j s.open_bar refl old) old)
    where
      add : (n : ℕ) → letter_in x.token ≡ some n → joins (state_after k e) ≡ true → (l : List Note) → (state_after k e).open_bar ≡ l → All (P (x ∷ e)) l → All (P (x ∷ e)) (add_pitch (pitch_of (state_after k e) x.place n) l)
      add n d j [] q b = tt
      add n d j (r ∷ l) q b = (law.chord x e n r l o d j q b.0, b.1)

  same : (e : List Item) (i : ℕ) (l : List Note) → All (P e) l → All (P e) (with_notations (λ later n. n.notations) i l)
  same e i [] h = tt
  same e i (n ∷ l) h = (h.0, same e (suc i) l h.1)

  older-each : (x : Item) (e : List Item) → Ok (x ∷ e) → All (P (x ∷ e)) (state_after k e).open_bar → All (P (x ∷ e)) (older x.place x.token (state_after k e))
  older-each x e o old = go (marking_in x.token) refl
    where
      go : (m : Option Marking) → marking_in x.token ≡ m
          → All (P (x ∷ e)) (with_notations (λ later n. given m n.notations (λ m. marked m (state_after k e) later n)) 0 (joined x.place x.token (state_after k e)))
      go none q = same (x ∷ e) 0 (joined x.place x.token (state_after k e)) (joined-each x e o old)
      go (some m) q = subst (λ l. All (P (x ∷ e)) (with_notations (marked m (state_after k e)) 0 (given l (state_after k e).open_bar (λ n. cond (joins (state_after k e)) (add_pitch (pitch_of (state_after k e) x.place n) (state_after k e).open_bar) (state_after k e).open_bar))))
          (sym (no-letter x.token m q)) (law.marks x e m o q old)

  shut : (e : List Item) (r : ℕ) (s : State) → Held e s → All (λ b. All (P e) b.notes) (close r s)
  shut e r s i = cond_ind (All (λ b. All (P e) b.notes)) (is_empty s.open_bar) i.of-closed (i.of-open, i.of-closed)

  more-held : (x : Item) (e : List Item) (s : State) → Held e s → Held (x ∷ e) s
  more-held x e s i = record { of-open = more-all x e s.open_bar i.of-open; of-closed = all-imp (λ b. more-all x e b.notes) s.bars i.of-closed; of-figure = more-all x e s.figure i.of-figure }

  step-held : (x : Item) (e : List Item) → Ok (x ∷ e) → Held e (state_after k e) → Held (x ∷ e) (step x (state_after k e))
  unfolding step
  step-held x e o i =
      let s : State = state_after k e in
      let old : Held (x ∷ e) s = more-held x e s i in
      record {
        of-open = cond_ind (All (P (x ∷ e))) (is_barline x.token) tt (all-++ (P (x ∷ e)) (stores x.place x.token s) (older x.place x.token s) (stores-each x e o i) (older-each x e o old.of-open));
        of-closed = cond_ind (All (λ b. All (P (x ∷ e)) b.notes)) (is_barline x.token) (shut (x ∷ e) (right_in x.token) s old) old.of-closed;
        of-figure = given-ind (All (P (x ∷ e))) (figure_in x.token) old.of-figure (next s old.of-open old.of-figure);
      }
    where
      next : (s : State) → All (P (x ∷ e)) s.open_bar → All (P (x ∷ e)) s.figure → (f : Figure) → All (P (x ∷ e)) (figure_next f s)
      next s b g figure_mark = given-ind (All (P (x ∷ e))) s.figure_start g (λ m. cond_ind (All (P (x ∷ e))) (in_its_bar m s) (all_take (P (x ∷ e)) (count_from m s) s.open_bar b) g)
      next s b g figure_repeat = g
      next s b g bar_repeat = g

  -- a further whole-bar rest and the barline before it
  rest-held : (x : Item) (n : ℕ) (e : List Item) (s : State) → Held (whole_at x n ∷ e) s → Held (whole_at x n ∷ e) (step (whole_at x n) s)
  unfolding step
  rest-held x n e s i = record { of-open = (law.whole (whole_at x n) e, same (whole_at x n ∷ e) 0 s.open_bar i.of-open); of-closed = i.of-closed; of-figure = i.of-figure }

  bar-held : (x : Item) (e : List Item) (s : State) → Held e s → Held e (step (inner_barline x) s)
  unfolding step
  bar-held x e s i = record { of-open = tt; of-closed = shut e 0 s i; of-figure = i.of-figure }

  held : (e : List Item) → Ok e → Held e (state_after k e)
  unfolding state_after
  held [] o = record { of-open = tt; of-closed = tt; of-figure = tt }
  held (x ∷ e) o =
      let s : State = state_after k e in
      let i : Held e s = held e (law.earlier x e o) in
      by-turns (λ x n. Ok (x ∷ e) → Held (x ∷ e) (in_turn x n s)) (λ x o. step-held x e o i)
      (λ x n further o. each_turn (Held (whole_at x n ∷ e)) (whole_at x n) (rest-held x n e) (bar-held x (whole_at x n ∷ e)) (suc further) s (more-held (whole_at x n) e s i)) x o

  -- of every stored record
  pub kept-all : (e : List Item) → Ok e → All (P e) (stored (state_after k e))
  kept-all e o = all-++ (P e) (state_after k e).open_bar (notes_of (state_after k e).bars) (held e o).of-open (bars (state_after k e).bars (held e o).of-closed)
    where
      bars : (bs : List Bar) → All (λ b. All (P e) b.notes) bs → All (P e) (notes_of bs)
      bars [] g = tt
      bars (b ∷ bs) g = all-++ (P e) b.notes (notes_of bs) g.0 (bars bs g.1)

-- ---- what holds of a record's pitches

-- Q of its pitches: of none, of an opened note's one, of one more by a joining letter
pub record KeptPitches (k : Attributes) (Ok : List Item → Type 0) (Q : List Item → List Pitch → Type 0) : Type 0 where
  pub earlier : (x : Item) (e : List Item) → Ok (x ∷ e) → Ok e
  pub more : (x : Item) (e : List Item) (qs : List Pitch) → Q e qs → Q (x ∷ e) qs
  pub silent : (e : List Item) → Q e []
  pub opened : (x : Item) (e : List Item) (n : ℕ) → Ok (x ∷ e) → letter_in x.token ≡ some n → Q (x ∷ e) (pitch_of (state_after k e) x.place n ∷ [])
  pub chord : (x : Item) (e : List Item) (n : ℕ) (r : Note) (l : List Note) → Ok (x ∷ e) → letter_in x.token ≡ some n → joins (state_after k e) ≡ true → (state_after k e).open_bar ≡ r ∷ l
      → Q (x ∷ e) r.pitches → Q (x ∷ e) (pitch_of (state_after k e) x.place n ∷ r.pitches)

-- copies and marks change no pitch
pub of-pitches : {k : Attributes} {Ok : List Item → Type 0} {Q : List Item → List Pitch → Type 0} → KeptPitches k Ok Q → Kept k Ok (λ e r. Q e r.pitches)
of-pitches {k} {Ok} {Q} law = record {
  earlier = law.earlier;
  more = λ x e r. law.more x e r.pitches;
  opened = law.opened;
  rested = λ x e. law.silent (x ∷ e);
  whole = λ x e. law.silent (x ∷ e);
  repeats = λ x e r. law.more x e r.pitches;
  chord = law.chord;
  marks = λ x e m o q. unmarked (x ∷ e) (marked m (state_after k e)) 0 (state_after k e).open_bar;
}
  where
    unmarked : (e : List Item) (f : ℕ → Note → Notations) (i : ℕ) (l : List Note) → All (λ r. Q e r.pitches) l → All (λ r. Q e r.pitches) (with_notations f i l)
    unmarked e f i [] h = tt
    unmarked e f i (n ∷ l) h = (h.0, unmarked e f (suc i) l h.1)
