-- The rules' notes and the look-back agree on every letter, and on the whole-bar rests of every `=`; how they stand in the cells is said in Cells. Assumes nothing.
use Prim.Native.Nat.{ℕ, zero, suc, ◌-◌, ◌≤◌}
use Prim.Native.Char.{code}
use mathlib.Core.Path.{◌≡◌, refl, sym, ap, ◌∙◌, subst}
use mathlib.Core.Bool.{Bool, true, false, not, cond, ◌&&◌, false≢true}
use mathlib.Core.Logic.{inl, inr, ◌≢◌}
use mathlib.Core.Option.{Option, none, some, get_or}
use mathlib.Core.List.{List, [], ◌∷◌, ◌++◌, map, append-nil, append_assoc}
use native.Mathlib.Omega.{arith}
use mir.Facts.{no_eqb, yes_eqb, eqb_yes}
use lib.Dec.{T, eqb}
use lib.ListN.{replicate}
use Rattle.rules.specs.Text.{bytes, begins, Part}
use Rattle.rules.specs.Tokens.{latest_place, Ordered, letter_in, is_rest, is_barline, right_in, figure_in, whole_bars_in, Figure, figure_mark, figure_repeat, bar_repeat, Token, Item, clef, key, meter, octave, duration, accidental, letter, chord, rest, barline, grace, grace_group, figure, marking, other}
use Rattle.rules.specs.Records.{is_some, given, notes_of, Pitch, Heading, Notations, Note, is_rest_kind}
use Rattle.rules.specs.Rules.{close, pitch_of, ends_in_note, joins, opened_heading, opened_note, rest_note, whole_bar_rest, copied, repeated, stores, add_pitch, joined, notations_next, with_notations, step, further_bars, inner_barline, state_after, stored, bars_at_end, State, Attributes}
use Rattle.rules.specs.LookBack.{keep, text_of, whole_bar_rests, back_joins}
use Rattle.rules.specs.Agreement.{All, Some, Letter}
use Rattle.theorems.proofs.Lists.{cond_ind, given-ind, all-imp, some_right, keep-++, keep-none, keep-every, both_true}
use Rattle.theorems.proofs.WholeBars.{each_turn}
use Rattle.theorems.proofs.Places.{headings, older, close-notes, stored_by, headings-turn, stored_here, places-till}
use Rattle.theorems.proofs.FieldByField.{back_pitch, back_heading, joins-agrees, pitch-agrees, heading-agrees}
use Rattle.theorems.proofs.Cutting.{repeats_in, rests_in, Says, Cut, ordered, cut-from}
use Rattle.theorems.proofs.Kept.{KeptPitches, of-pitches, kept-all}

-- ---- places

newest-above : (l : List Item) (x : Item) (e : List Item) → Ordered (l ++ x ∷ e) → x.place ≤ latest_place (l ++ x ∷ e)
newest-above [] x e h = omega arith
newest-above (y ∷ l) x e h = let i : x.place ≤ latest_place (l ++ x ∷ e) = newest-above l x e h.1 in omega (arith, h.0)

one_place_lem : (l₁ l₂ : List Item) (x₁ x₂ : Item) (e₁ e₂ : List Item) → Ordered (l₁ ++ x₁ ∷ e₁) → l₁ ++ x₁ ∷ e₁ ≡ l₂ ++ x₂ ∷ e₂ → x₁.place ≡ x₂.place
    → (l₁ ≡ l₂) × (x₁ ≡ x₂) × (e₁ ≡ e₂)
one_place_lem [] [] x₁ x₂ e₁ e₂ h s q = (refl, cc, cc)
one_place_lem [] (y ∷ l₂) x₁ x₂ e₁ e₂ h s q =
    let d : e₁ ≡ l₂ ++ x₂ ∷ e₂ = cc in
    let b : ⊥ = omega (arith, newest-above l₂ x₂ e₂ (subst Ordered d h.1), ap latest_place d, h.0) in absurd b
one_place_lem (y ∷ l₁) [] x₁ x₂ e₁ e₂ h s q =
    let d : y ≡ x₂ = cc in
    let b : ⊥ = omega (arith, newest-above l₁ x₁ e₁ h.1, ap (λ (x : Item). x.place) d, h.0) in absurd b
one_place_lem (y₁ ∷ l₁) (y₂ ∷ l₂) x₁ x₂ e₁ e₂ h s q =
    let d : y₁ ≡ y₂ = cc in
    let t : l₁ ++ x₁ ∷ e₁ ≡ l₂ ++ x₂ ∷ e₂ = cc in
    let r : (l₁ ≡ l₂) × (x₁ ≡ x₂) × (e₁ ≡ e₂) = one_place_lem l₁ l₂ x₁ x₂ e₁ e₂ h.1 t q in
    (λ i. d i ∷ r.0 i, r.1, r.2)

-- ---- every stored pitch belongs to a letter

letter-is : (t : Token) (n : ℕ) → letter_in t ≡ some n → t ≡ letter n
letter-is t n = elim t as (λ t. letter_in t ≡ some n → t ≡ letter n) [ clef c ↦ λ h. cc | key k ↦ λ h. cc | meter m ↦ λ h. cc | octave o ↦ λ h. cc | duration p ↦ λ h. cc | accidental a ↦ λ h. cc | letter s ↦ λ h. cc | chord ↦ λ h. cc | rest ↦ λ h. cc | barline r l ↦ λ h. cc | grace g ↦ λ h. cc | grace_group g ↦ λ h. cc | figure f ↦ λ h. cc | marking m ↦ λ h. cc | other o ↦ λ h. cc ]

-- a letter token with its place, offset, size and step
abbrev letter_at : ℕ → ℕ → ℕ → ℕ → Item
letter_at p o z n = record { place = p; offset = o; size = z; token = letter n }

-- a letter of the data is such a token
letter-stands : (line : Part) (all : List Item) → Cut line all → (l : Letter line all) → all ≡ l.later ++ letter_at l.item.place l.item.offset l.item.size l.step ∷ l.before
letter-stands line all h l =
    let cut : Says l.item.token (text_of line l.item) = (cut-from line l.later (l.item ∷ l.before) (subst (Cut line) l.stands h)).2 in
    l.stands ∙ λ i. l.later ++ record { place = l.item.place; offset = l.item.offset; size = l.item.size; token = letter-is l.item.token l.step (cut.letter ∙ l.is_letter) i } ∷ l.before

-- ---- what an `=` stores

-- it is none of the other tokens that store
record Whole (t : Token) : Type 0 where
  letter : letter_in t ≡ none
  bar : is_barline t ≡ false
  dash : is_rest t ≡ false
  copy : repeats_in t ≡ false

whole_is : (t : Token) (text : List ℕ) → Says t text → begins (bytes "=") text ≡ true → Whole t
whole_is t [] h b = absurd (false≢true b)
whole_is t (c ∷ cs) h b =
    let e : c ≡ code "=" = eqb_yes (rw (both_true (eqb c (code "=")) true b).0 tt) in
    let says : Says t (code "=" ∷ cs) = subst (λ a. Says t (a ∷ cs)) e h in
    record { letter = says.letter; bar = says.bar; dash = says.dash; copy = says.copy }

-- over all its turns
whole-bars : (x : Item) (s : State) (text : List ℕ) → Says x.token text → begins (bytes "=") text ≡ true → headings (stored_by x (further_bars x.token) s) ≡ replicate (rests_in x.token) (whole_bar_rest x.place).heading
whole-bars x s text h b =
    (λ i. headings (replicate (further_bars t) (whole_bar_rest p) ++ cond (w.bar i) [] (cond (is_some (w.letter i) && not (joins s)) (given (w.letter i) [] (λ n. opened_note s p n ∷ []))
    (cond (w.dash i) (rest_note s p ∷ []) (cond (is_some (whole_bars_in t)) (whole_bar_rest p ∷ []) (no_copies (figure_in t) w.copy i))))))
    ∙ rests (whole_bars_in t)
  where
    t : Token
    t = x.token

    p : ℕ
    p = x.place

    w : Whole t
    w = whole_is t text h b

    no_copies : (o : Option Figure) → given o false (λ f. elim f [ figure_mark ↦ false | figure_repeat ↦ true | bar_repeat ↦ true ]) ≡ false → given o [] (λ f. map (copied p) (repeated f s)) ≡ []
    no_copies none e = refl
    no_copies (some figure_mark) e = refl
    no_copies (some figure_repeat) e = absurd (false≢true (sym e))
    no_copies (some bar_repeat) e = absurd (false≢true (sym e))

    last : (n : ℕ) → headings (replicate n (whole_bar_rest p) ++ whole_bar_rest p ∷ []) ≡ replicate (suc n) (whole_bar_rest p).heading
    last zero = refl
    last (suc n) = ap (λ l. (whole_bar_rest p).heading ∷ l) (last n)

    rests : (c : Option ℕ) → headings (replicate (get_or c 1 - 1) (whole_bar_rest p) ++ cond (is_some c) (whole_bar_rest p ∷ []) []) ≡ replicate (given c 0 (λ n. suc (n - 1))) (whole_bar_rest p).heading
    rests none = refl
    rests (some n) = last (n - 1)

-- the headings of the notes that have a place
abbrev pub headings_of : ℕ → List Note → List Heading
headings_of place notes = keep (λ h. eqb h.place place) (headings notes)

module _ (k : Attributes) (line : Part) where
  -- a pitch belongs to the letter token whose place it holds, and is what the look-back says of it
  pub record Heard (all : List Item) (q : Pitch) : Type 0 where
    pub letter : Letter line all
    pub place : q.place ≡ letter.item.place
    pub read : q ≡ back_pitch k line letter.before letter.item.place letter.step

  -- of every pitch
  heard-kept : KeptPitches k (Cut line) (λ e qs. All (Heard e) qs)
  heard-kept = record {
    earlier = λ x e h. h.1;
    more = λ y e qs. all-imp (λ q h. record { letter = record { later = y ∷ h.letter.later; item = h.letter.item; before = h.letter.before; step = h.letter.step; stands = ap (λ a. y ∷ a) h.letter.stands; is_letter = h.letter.is_letter }; place = h.place; read = h.read }) qs;
    silent = λ e. tt;
    opened = λ x e n h l. (fresh x e n h l, tt);
    chord = λ x e n r rs h l j q b. (fresh x e n h l, b);
  }
    where
      -- a letter's own pitch
      fresh : (x : Item) (e : List Item) (n : ℕ) → Cut line (x ∷ e) → letter_in x.token ≡ some n → Heard (x ∷ e) (pitch_of (state_after k e) x.place n)
      fresh x e n h l = record { letter = record { later = []; item = x; before = e; step = n; stands = refl; is_letter = sym h.2.letter ∙ l }; place = refl; read = pitch-agrees k line e h.1 x.place n }

  -- ---- every letter has a stored pitch

  -- a record with the pitch q
  abbrev Holds : Pitch → List Note → Type 0
  Holds q l = Some (λ r. Some (λ a. a ≡ q) r.pitches) l

  -- no step takes a pitch away
  keeps-pitch : (q : Pitch) (y : Item) (s : State) → Holds q (stored s) → Holds q (stored (step y s))
  unfolding step state_after
  keeps-pitch q y s h = go (is_barline y.token)
    where
      add : (a : Pitch) (l m : List Note) → Holds q (l ++ m) → Holds q (add_pitch a l ++ m)
      add a [] m g = g
      add a (n ∷ l) m (inl g) = inl (inr g)
      add a (n ∷ l) m (inr g) = inr g

      renote : (f : ℕ → Note → Notations) (i : ℕ) (l m : List Note) → Holds q (l ++ m) → Holds q (with_notations f i l ++ m)
      renote f i [] m g = g
      renote f i (n ∷ l) m (inl g) = inl g
      renote f i (n ∷ l) m (inr g) = inr (renote f (suc i) l m g)

      go : (b : Bool) → Holds q (cond b [] (stores y.place y.token s ++ older y.place y.token s) ++ notes_of (cond b (close (right_in y.token) s) s.bars))
      go true = rw close-notes h
      go false = rw append_assoc (some_right (λ r. Some (λ a. a ≡ q) r.pitches) (stores y.place y.token s) _
          (renote (notations_next y.token s) 0 (joined y.place y.token s) (notes_of s.bars)
          (given-ind (λ l. Holds q (l ++ notes_of s.bars)) (letter_in y.token) h (λ n. cond_ind (λ l. Holds q (l ++ notes_of s.bars)) (joins s) (add _ s.open_bar (notes_of s.bars) h) h))))

  has-pitch : (later : List Item) (p o z n : ℕ) (e : List Item) → Cut line (later ++ letter_at p o z n ∷ e) → Holds (back_pitch k line e p n) (stored (state_after k (later ++ letter_at p o z n ∷ e)))
  unfolding step state_after
  has-pitch [] p o z n e h = go s.chord_next s.open_bar
    where
      s : State
      s = state_after k e

      q : pitch_of s p n ≡ back_pitch k line e p n
      q = pitch-agrees k line e h.1 p n

      new : List Note
      new = opened_note s p n ∷ []

      arm : (f : ℕ → Note → Notations) (b : Bool) (r : Note) (l m : List Note) → Holds (back_pitch k line e p n) (cond (not b) new [] ++ with_notations f 0 (cond b (add_pitch (pitch_of s p n) (r ∷ l)) (r ∷ l)) ++ m)
      arm f true r l m = inl (inl q)
      arm f false r l m = inl (inl q)

      go : (c : Bool) (l : List Note) → Holds (back_pitch k line e p n)
          (cond (not (c && ends_in_note l)) new [] ++ with_notations (notations_next (letter n) s) 0 (cond (c && ends_in_note l) (add_pitch (pitch_of s p n) l) l) ++ notes_of s.bars)
      go false l = inl (inl q)
      go true [] = inl (inl q)
      go true (r ∷ l) = arm (notations_next (letter n) s) (not (is_rest_kind r.heading.kind)) r l (notes_of s.bars)
  has-pitch (y ∷ later) p o z n e h =
      let q : Pitch = back_pitch k line e p n in
      each_turn (λ s. Holds q (stored s)) y (keeps-pitch q y) (keeps-pitch q (inner_barline y)) (further_bars y.token) (state_after k (later ++ letter_at p o z n ∷ e)) (has-pitch later p o z n e h.1)

  -- ---- a letter opens a record exactly when the look-back says so

  -- a token at another place stores nothing at p
  elsewhere : (p : ℕ) (x : Item) (e : List Item) → x.place ≢ p → headings_of p (stored (state_after k (x ∷ e))) ≡ headings_of p (stored (state_after k e))
  unfolding state_after
  elsewhere p x e d =
      let s : State = state_after k e in
      let new : List Heading = headings (stored_by x (further_bars x.token) s) in
      let at : Heading → Bool = λ h. eqb h.place p in
      ap (keep at) (headings-turn x s) ∙ keep-++ at new (headings (stored s)) ∙ ap (λ l. l ++ headings_of p (stored s)) (keep-none at new (all-imp (λ h e. no_eqb (λ f. d (sym e ∙ f))) new (stored_here x (further_bars x.token) s)))

  -- the records at a token's place are those that it stores
  stored_at : (later : List Item) (x : Item) (e : List Item) → Cut line (later ++ x ∷ e)
      → headings_of x.place (stored (state_after k (later ++ x ∷ e))) ≡ headings (stored_by x (further_bars x.token) (state_after k e))
  unfolding state_after
  stored_at [] x e h =
      ap (keep at) (headings-turn x s) ∙ keep-++ at new (headings (stored s))
      ∙ (λ i. keep-every at new all-mine i ++ keep-none at (headings (stored s)) none_yet i) ∙ append-nil new
    where
      s : State
      s = state_after k e

      at : Heading → Bool
      at g = eqb g.place x.place

      new : List Heading
      new = headings (stored_by x (further_bars x.token) s)

      all-mine : All (λ g. T (at g)) new
      all-mine = all-imp (λ g f. yes_eqb f) new (stored_here x (further_bars x.token) s)

      none_yet : All (λ g. T (not (at g))) (headings (stored s))
      none_yet = all-imp (λ g b. no_eqb (λ f. ⊥-of g b f)) (headings (stored s)) (places-till k e (ordered line e h.1))
        where
          ⊥-of : (g : Heading) → g.place ≤ latest_place e → g.place ≡ x.place → ⊥
          ⊥-of g b f = omega (arith, h.0)
  stored_at (y ∷ later) x e h = elsewhere x.place y (later ++ x ∷ e) (λ d. above d) ∙ stored_at later x e h.1
    where
      above : y.place ≡ x.place → ⊥
      above d = omega (arith, h.0, newest-above later x e (ordered line (later ++ x ∷ e) h.1))

  opening-at : (later : List Item) (p o z n : ℕ) (e : List Item) → Cut line (later ++ letter_at p o z n ∷ e)
      → headings_of p (stored (state_after k (later ++ letter_at p o z n ∷ e))) ≡ cond (back_joins k line e) [] (back_heading k line e p ∷ [])
  opening-at later p o z n e h = stored_at later (letter_at p o z n) e h ∙ mine (joins s) ∙ λ i. cond (joins-agrees k line e before i) [] (heading-agrees k line e before p i ∷ [])
    where
      s : State
      s = state_after k e

      before : Cut line e
      before = (cut-from line later (letter_at p o z n ∷ e) h).1

      mine : (j : Bool) → headings (cond (not j) (opened_note s p n ∷ []) []) ≡ cond j [] (opened_heading s p ∷ [])
      mine true = refl
      mine false = refl

  -- ---- an `=` stores its whole-bar rests

  whole-at : (later : List Item) (x : Item) (e : List Item) → Cut line (later ++ x ∷ e) → begins (bytes "=") (text_of line x) ≡ true
      → headings_of x.place (stored (state_after k (later ++ x ∷ e))) ≡ replicate (whole_bar_rests (text_of line x)) (whole_bar_rest x.place).heading
  whole-at later x e h b =
      let cut : Says x.token (text_of line x) = (cut-from line later (x ∷ e) h).2 in
      stored_at later x e h ∙ whole-bars x (state_after k e) (text_of line x) cut b ∙ ap (λ n. replicate n (whole_bar_rest x.place).heading) cut.rests

  -- the data's end moves the open bar's records to the stored bars, and changes none
  pub at-end : (e : List Item) → notes_of (bars_at_end (state_after k e)) ≡ stored (state_after k e)
  at-end e = close-notes 0 (state_after k e)

  -- of the notes that the rules store
  pub record Agreed (all : List Item) (notes : List Note) : Type 0 where
    pub has : (l : Letter line all) → Some (λ r. Some (λ q. q ≡ back_pitch k line l.before l.item.place l.step) r.pitches) notes
    pub belongs : All (λ r. All (Heard all) r.pitches) notes
    pub one : (l m : Letter line all) → l.item.place ≡ m.item.place → (l.later ≡ m.later) × (l.item ≡ m.item) × (l.before ≡ m.before)
    pub opening : (l : Letter line all) → headings_of l.item.place notes ≡ cond (back_joins k line l.before) [] (back_heading k line l.before l.item.place ∷ [])
    pub whole_bars : (later : List Item) (x : Item) (before : List Item) → all ≡ later ++ x ∷ before → begins (bytes "=") (text_of line x) ≡ true
        → headings_of x.place notes ≡ replicate (whole_bar_rests (text_of line x)) (whole_bar_rest x.place).heading

  -- for all tokens that are cut from the data: no refusal is used
  pub agreed : (all : List Item) → Cut line all → Agreed all (notes_of (bars_at_end (state_after k all)))
  agreed all h = record {
    has = λ l. rw (at-end all) (subst (λ a. Holds (back_pitch k line l.before l.item.place l.step) (stored (state_after k a))) (sym (letter-stands line all h l)) (has-pitch l.later l.item.place l.item.offset l.item.size l.step l.before (subst (Cut line) (letter-stands line all h l) h)));
    belongs = rw (at-end all) (kept-all k (Cut line) (λ e r. All (Heard e) r.pitches) (of-pitches heard-kept) all h);
    one = λ l m q. one_place_lem l.later m.later l.item m.item l.before m.before (subst Ordered l.stands (ordered line all h)) (sym l.stands ∙ m.stands) q;
    opening = λ l. ap (headings_of l.item.place) (at-end all) ∙ subst (λ a. headings_of l.item.place (stored (state_after k a)) ≡ cond (back_joins k line l.before) [] (back_heading k line l.before l.item.place ∷ [])) (sym (letter-stands line all h l))
        (opening-at l.later l.item.place l.item.offset l.item.size l.step l.before (subst (Cut line) (letter-stands line all h l) h));
    whole_bars = λ later x before stands b. ap (headings_of x.place) (at-end all) ∙ subst (λ a. headings_of x.place (stored (state_after k a)) ≡ replicate (whole_bar_rests (text_of line x)) (whole_bar_rest x.place).heading) (sym stands) (whole-at later x before (subst (Cut line) stands h) b);
  }
