-- No stored note has more pitches or marks than its record holds (refusals 9 and 10), so nothing is cut off. Assumes nothing.
use Prim.Native.Nat.{ℕ, zero, suc, ◌+◌, ◌<◌, ◌≤◌}
use mathlib.Core.Path.{◌≡◌, refl, sym, ap, ◌∙◌}
use mathlib.Core.Bool.{Bool, true, false, cond, ◌&&◌}
use mathlib.Core.Option.{Option, none, some, get_or}
use mathlib.Core.List.{List, [], ◌∷◌}
use native.Mathlib.Omega.{arith}
use mir.Facts.{leb_no}
use borrow.Author.Tests.{lt-ltb, le-ltb, ne_eqb}
use lib.Dec.{eqb, leb, ltb}
use lib.ListN.{length, take}
use Rattle.rules.specs.Limits.{pitch_capacity, mark_capacity}
use Rattle.rules.specs.Tokens.{letter_in, Marking, beam_open, beam_close, group_open, group_close, group_count, tie, trill, Item}
use Rattle.rules.specs.Records.{is_some, given, Notations, Note}
use Rattle.rules.specs.Rules.{pitch_of, ends_in_note, joins, is_non_grace, non_grace_in, count_from, notes_from, with_tie_start, with_tuplet, with_mark, Closing, nothing, fermata, tuplet, too_few, tuplet_of, closing, closed, closing_of, group_closed, marked, with_notations, further_bars, state_after, stored, Group, State, Attributes}
use Rattle.rules.specs.Fields.{data_of}
use Rattle.rules.specs.Refusals.{text_refusal, is_full, is_marked_full, last_non_grace, is_fermata, over_marks, token_checks, token_refusal, refusal_at, refusal_in_turn, tokens_refusal, refusal_of, LentRecords}
use Rattle.rules.specs.Reading.{lent_records, attributes_of, tokens_of, records_of, reading, Lent}
use Rattle.rules.specs.Agreement.{All}
use Rattle.theorems.proofs.Lists.{cond_ind, given-ind}
use Rattle.theorems.proofs.Kept.{Kept, kept-all, KeptPitches, of-pitches}
use Rattle.theorems.proofs.Agreement.{at-end}
use Rattle.theorems.proofs.Accepted.{not-refused, or-none, given-none, passed}

-- ---- marks in one bar

abbrev Few : Note → Type 0
Few n = length n.notations.marks ≤ mark_capacity

-- notations that change no mark
unmarked : (f : ℕ → Note → Notations) → ((i : ℕ) (n : Note) → (f i n).marks ≡ n.notations.marks) → (i : ℕ) (l : List Note) → All Few l → All Few (with_notations f i l)
unmarked f h i [] a = tt
unmarked f h i (n ∷ l) a = (rw (h i n) a.0, unmarked f h (suc i) l a.1)

-- a branch to the old notations
either : (n : Note) (b : Bool) (d : Notations) → d.marks ≡ n.notations.marks → (cond b d n.notations).marks ≡ n.notations.marks
either n true d e = e
either n false d e = refl

-- one more mark where there is room
one_more : (n : Note) → leb mark_capacity (length n.notations.marks) ≡ false → suc (length n.notations.marks) ≤ mark_capacity
one_more n e = let less : length n.notations.marks < mark_capacity = leb_no (rw e tt) in omega (arith, less)

-- a fermata closes a group of one non-grace record
one-timed : (n : ℕ) (count : Option ℕ) → is_fermata (closing n count) ≡ true → n ≡ 1
one-timed zero count e = let z : ◌≡◌ {A = ℕ} 0 1 = cc in absurd (omega arith)
one-timed (suc zero) count e = refl
one-timed (suc (suc n)) count e = absurd (no (get_or count 3) e)
  where
    no : (actual : ℕ) → is_fermata (tuplet_of actual) ≡ true → ⊥
    no actual e = let z : ◌≡◌ {A = Bool} false true = sym (cond_ind (λ c. is_fermata c ≡ false) (ltb actual 3) refl refl) ∙ e in let y : ◌≡◌ {A = ℕ} 0 1 = cc in omega arith

-- the fermata on the non-grace records among the w latest, `later` of which stand after the list's first
module _ (w : ℕ) where
  abbrev with_fermata : ℕ → Note → Notations
  with_fermata later n = cond (is_non_grace n && ltb later w) (with_mark false n.notations) n.notations

  -- no record beyond them is marked
  beyond : (later : ℕ) (l : List Note) → w ≤ later → All Few l → All Few (with_notations with_fermata later l)
  beyond later [] h a = tt
  beyond later (n ∷ l) h a = (rw (le-ltb later w h) (unchanged (is_non_grace n)), beyond (suc later) l (omega (arith, h)) a.1)
    where
      unchanged : (b : Bool) → length (cond (b && false) (with_mark false n.notations) n.notations).marks ≤ mark_capacity
      unchanged true = a.0
      unchanged false = a.0

  -- of those among them at most one is, the last non-grace one, which has room
  few-fermata : (v later : ℕ) (l : List Note) → w ≡ later + v → non_grace_in (take v l) ≤ 1 → (1 ≤ non_grace_in (take v l) → is_marked_full (last_non_grace l) ≡ false) → All Few l → All Few (with_notations with_fermata later l)
  few-fermata zero later l e h g a = beyond later l (omega (arith, e)) a
  few-fermata (suc v) later [] e h g a = tt
  few-fermata (suc v) later (n ∷ l) e h g a = go (is_non_grace n) h g (λ h g. few-fermata v (suc later) l (omega (arith, e)) h g a.1)
    where
      go : (b : Bool) → cond b (suc (non_grace_in (take v l))) (non_grace_in (take v l)) ≤ 1 → (1 ≤ cond b (suc (non_grace_in (take v l))) (non_grace_in (take v l)) → is_marked_full (cond b (n ∷ l) (last_non_grace l)) ≡ false)
          → (non_grace_in (take v l) ≤ 1 → (1 ≤ non_grace_in (take v l) → is_marked_full (last_non_grace l) ≡ false) → All Few (with_notations with_fermata (suc later) l))
          → (length (cond (b && ltb later w) (with_mark false n.notations) n.notations).marks ≤ mark_capacity) × All Few (with_notations with_fermata (suc later) l)
      go true h g rest = (rw (lt-ltb later w (omega (arith, e))) (one_more n (g (omega arith))), rest (omega (arith, h)) (λ p. absurd (omega (arith, p, h))))
      go false h g rest = (a.0, rest h g)

-- what `)` makes of a group adds a mark only as a fermata
closed-few : (s : State) (g : Group) → is_fermata (closing_of g s) && is_marked_full (last_non_grace s.open_bar) ≡ false → (c : Closing) → closing_of g s ≡ c → All Few s.open_bar
    → All Few (with_notations (λ later n. cond (is_non_grace n && ltb later (count_from g.start s)) (closed c n.notations) n.notations) 0 s.open_bar)
closed-few s g f nothing e = unmarked _ (λ i n. either n (is_non_grace n && ltb i (count_from g.start s)) n.notations refl) 0 s.open_bar
closed-few s g f (tuplet actual) e = unmarked _ (λ i n. either n (is_non_grace n && ltb i (count_from g.start s)) (with_tuplet actual n.notations) refl) 0 s.open_bar
closed-few s g f (too_few actual) e = unmarked _ (λ i n. either n (is_non_grace n && ltb i (count_from g.start s)) n.notations refl) 0 s.open_bar
closed-few s g f fermata e =
    let one : non_grace_in (notes_from g.start s) ≡ 1 = one-timed (non_grace_in (notes_from g.start s)) g.count (ap is_fermata e) in
    let room : is_marked_full (last_non_grace s.open_bar) ≡ false = sym (ap (λ c. is_fermata c && is_marked_full (last_non_grace s.open_bar)) e) ∙ f in
    few-fermata (count_from g.start s) (count_from g.start s) 0 s.open_bar (omega arith) (omega (arith, one)) (λ p. room)

-- a mark that passes check 10 leaves at most 8
by-mark : (s : State) (m : Marking) → over_marks m s ≡ false → All Few s.open_bar → All Few (with_notations (marked m s) 0 s.open_bar)
by-mark s beam_open f = unmarked _ (λ i n. refl) 0 s.open_bar
by-mark s beam_close f = unmarked _ (λ i n. given-ind (λ (d : Notations). d.marks ≡ n.notations.marks) s.beam_start refl
    (λ start. either n (is_non_grace n && ltb i (count_from start s) && ltb 1 (non_grace_in (notes_from start s))) _ refl)) 0 s.open_bar
by-mark s group_open f = unmarked _ (λ i n. refl) 0 s.open_bar
by-mark s group_close f = by-group s.group f
  where
    by-group : (o : Option Group) → given o false (λ g. is_fermata (closing_of g s) && is_marked_full (last_non_grace s.open_bar)) ≡ false → All Few s.open_bar
        → All Few (with_notations (λ later n. given o n.notations (λ g. group_closed g s later n)) 0 s.open_bar)
    by-group none f = unmarked _ (λ i n. refl) 0 s.open_bar
    by-group (some g) f = closed-few s g f (closing_of g s) refl
by-mark s tie f = unmarked _ (λ i n. either n (eqb i 0 && ends_in_note s.open_bar) (with_tie_start n.notations) refl) 0 s.open_bar
by-mark s trill f = first s.open_bar f
  where
    first : (l : List Note) → is_marked_full l ≡ false → All Few l → All Few (with_notations (λ later n. cond (eqb later 0) (with_mark true n.notations) n.notations) 0 l)
    first [] f a = tt
    first (n ∷ l) f a = (one_more n f, later 0 l a.1)
      where
        later : (i : ℕ) (l : List Note) → All Few l → All Few (with_notations (λ later n. cond (eqb later 0) (with_mark true n.notations) n.notations) (suc i) l)
        later i [] a = tt
        later i (n ∷ l) a = (rw (ne_eqb (suc i) 0 (λ z. omega (arith, z))) a.0, later (suc i) l a.1)
by-mark s (group_count c) f = unmarked _ (λ i n. refl) 0 s.open_bar

-- ---- no token is refused

module _ (lent : LentRecords) (k : Attributes) where
  abbrev Passes : List Item → Type 0
  Passes e = tokens_refusal lent k e ≡ none

  earlier : (x : Item) (e : List Item) → Passes (x ∷ e) → Passes e
  unfolding tokens_refusal
  earlier x e o = (or-none (tokens_refusal lent k e) _ o).0

  -- the first turn passes
  first_passes : (x : Item) (further : ℕ) (s : State) → refusal_in_turn lent x further s ≡ none → refusal_at lent x s ≡ none
  first_passes x zero s e = e
  first_passes x (suc further) s e = first_passes x further s (or-none (refusal_in_turn lent x further s) _ e).0

  none-fails : (x : Item) (e : List Item) → Passes (x ∷ e) → All (λ c. c.1 ≡ false) (token_checks lent x.token (state_after k e))
  unfolding tokens_refusal
  none-fails x e o = passed (token_checks lent x.token (state_after k e)) (given-none (token_refusal lent x.token (state_after k e)) _ (first_passes x (further_bars x.token) (state_after k e) (or-none (tokens_refusal lent k e) _ o).1))

  pitches-kept : KeptPitches k Passes (λ e qs. length qs ≤ pitch_capacity)
  pitches-kept = record {
    earlier = earlier;
    more = λ x e qs h. h;
    silent = λ e. omega arith;
    opened = λ x e n o l. omega arith;
    chord = chord;
  }
    where
      chord : (x : Item) (e : List Item) (n : ℕ) (r : Note) (l : List Note) → Passes (x ∷ e) → letter_in x.token ≡ some n → joins (state_after k e) ≡ true → (state_after k e).open_bar ≡ r ∷ l
          → length r.pitches ≤ pitch_capacity → length (pitch_of (state_after k e) x.place n ∷ r.pitches) ≤ pitch_capacity
      chord x e n r l o d j q h =
          let room : leb pitch_capacity (length r.pitches) ≡ false = sym (λ i. is_some (d i) && j i && is_full (q i)) ∙ (none-fails x e o).1.1.0 in
          let less : length r.pitches < pitch_capacity = leb_no (rw room tt) in
          omega (arith, less)

  marks-kept : Kept k Passes (λ e r. Few r)
  marks-kept = record {
    earlier = earlier;
    more = λ x e r h. h;
    opened = λ x e n o l. omega arith;
    rested = λ x e. omega arith;
    whole = λ x e. omega arith;
    repeats = λ x e r h. h;
    chord = λ x e n r l o d j q h. h;
    marks = λ x e m o q. by-mark (state_after k e) m (sym (ap (λ a. given a false (λ m. over_marks m (state_after k e))) q) ∙ (none-fails x e o).1.1.1.0);
  }

  -- after tokens none of which is refused, no stored note has more than 8 marks
  pub marks-few : (e : List Item) → Passes e → All (λ n. length n.notations.marks ≤ mark_capacity) (stored (state_after k e))
  marks-few = kept-all k Passes (λ e r. Few r) marks-kept

-- ---- of an accepted text

-- a note whose record holds all of it
pub record Fits (n : Note) : Type 0 where
  pub pitches : length n.pitches ≤ pitch_capacity
  pub marks : length n.notations.marks ≤ mark_capacity

-- every stored note has at most 8 pitches and 8 marks
pub notes-fit : (text : List ℕ) (lent : Lent) → (reading text lent).number ≡ 0 → All Fits (records_of text)
unfolding refusal_of
notes-fit text lent e =
    let k : Attributes = attributes_of text in
    let room : LentRecords = lent_records lent in
    let passes : Passes room k (tokens_of text) = (or-none (tokens_refusal room k (tokens_of text)) _ (or-none (text_refusal text room) _ (not-refused text lent e)).1).0 in
    rw (at-end k (data_of text) (tokens_of text)) (both (stored (state_after k (tokens_of text)))
    (kept-all k (Passes room k) (λ e r. length r.pitches ≤ pitch_capacity) (of-pitches (pitches-kept room k)) (tokens_of text) passes)
    (kept-all k (Passes room k) (λ e r. Few r) (marks-kept room k) (tokens_of text) passes))
  where
    both : (l : List Note) → All (λ r. length r.pitches ≤ pitch_capacity) l → All Few l → All Fits l
    both [] p m = tt
    both (n ∷ l) p m = (record { pitches = p.0; marks = m.0 }, both l p.1 m.1)
