-- The state after a list of tokens is what the look-back says of that list, field by field. Assumes nothing.
use Prim.Native.Nat.{ℕ, zero, suc, ◌-◌}
use mathlib.Core.Path.{◌≡◌, refl, sym, ap, ◌∙◌}
use mathlib.Core.Bool.{Bool, true, false, not, cond, ◌&&◌, ◌||◌}
use mathlib.Core.Option
use mathlib.Core.Option.{Option, none, some}
use mathlib.Core.List.{List, [], ◌∷◌, ◌++◌, map-append}
use native.Mathlib.Omega.{arith}
use borrow.Author.Tests.{lt-ltb}
use lib.IntN.{ℤ, pos}
use lib.ListN.{get_or}
use lib.Dec.{eqb, ltb}
use Rattle.rules.specs.Text.{Part}
use Rattle.rules.specs.Values.{Key, Length, eighth, element}
use Rattle.rules.specs.Tokens.{key_in, octave_in, duration_in, letter_in, is_barline, whole_bars_in, Token, Item}
use Rattle.rules.specs.Records.{◌or◌, is_some, given, is_empty, Pitch, Heading, Note, is_rest_kind}
use Rattle.rules.specs.Rules.{Accidentals, no_accidentals, fresh, pitch_of, entered, ends_in_note, joins, kind_of, is_grace, length_of, heading, opened_heading, whole_bar_rest, stores, step, further_bars, inner_barline, in_turn, state_after, State, Attributes}
use Rattle.rules.specs.LookBack.{latest, never, text_of, letter_of, group_of, is_caret, has_inner_bar, is_no_rest, back_octave, back_accidental, back_marked, back_chord, in_grace_group, back_pattern, since_barline, back_key, back_alter, back_joins, back_grace_sign, back_kind, back_taken, back_element, back_length}
use Rattle.theorems.proofs.Lists.{cond_ind}
use Rattle.theorems.proofs.Cutting.{Says, Cut}
use Rattle.theorems.proofs.WholeBars.{whole_at, by-turns, untouched}
use Rattle.theorems.proofs.Places.{headings, older, headings-behind}

-- a default after two choices
get_d-or : {A : Type 0} (a b : Option A) (d : A) → Option.get_or a (Option.get_or b d) ≡ Option.get_or (a or b) d
get_d-or none b d = refl
get_d-or (some a) b d = refl

chord-step : (t : Item) (l c : Bool) (o : Option Item) → cond l false (c || is_some o) ≡ is_some (cond l none (cond c (some t) none or o))
chord-step t true c o = refl
chord-step t false true o = refl
chord-step t false false o = refl

accidentals-step : (b : Bool) (l : Option ℕ) (w : Option ℤ) (t : Accidentals) (q n o : ℕ)
    → (cond b no_accidentals (given l t (λ m. given w t (λ a. entered t m q a)))) n o ≡ cond (b || false) none (given l none (λ m. cond (eqb n m && eqb o q) w none) or t n o)
accidentals-step true l w t q n o = refl
accidentals-step false none w t q n o = refl
accidentals-step false (some m) none t q n o = same_none (eqb n m && eqb o q) (t n o)
  where
    same_none : (b : Bool) (r : Option ℤ) → r ≡ cond {A = Option ℤ} b none none or r
    same_none true r = refl
    same_none false r = refl
accidentals-step false (some m) (some a) t q n o = one (eqb n m && eqb o q) (t n o)
  where
    one : (b : Bool) (r : Option ℤ) → cond b (some a) r ≡ cond b (some a) none or r
    one true r = refl
    one false r = refl

key_step : (b : Bool) (o : Option Key) (r : Option (List ℤ)) (d : List ℤ)
    → cond b (given o (Option.get_or r d) (λ key. key.alters)) (Option.get_or r d) ≡ Option.get_or (cond b (given o none (λ key. some key.alters)) none or r) d
key_step true none r d = refl
key_step true (some key) r d = refl
key_step false o r d = refl

-- ---- the rules' clauses and the look-back's

-- of a list of notes by its headings alone: it is empty; its latest note is there and no rest
is-empty : (ns : List Note) → is_empty ns ≡ is_empty (headings ns)
is-empty [] = refl
is-empty (n ∷ ns) = refl

abbrev note_first : List Heading → Bool
note_first [] = false
note_first (h ∷ hs) = not (is_rest_kind h.kind)

ends-in-note : (ns : List Note) → ends_in_note ns ≡ note_first (headings ns)
ends-in-note [] = refl
ends-in-note (n ∷ ns) = refl

is-no-rest : (ns : List Note) → is_no_rest ns ≡ note_first (headings ns)
is-no-rest [] = refl
is-no-rest (n ∷ ns) = refl

grace-is : (mark : Option Bool) (group : Bool) → is_grace mark group ≡ given mark group (λ slashed. true)
grace-is none group = refl
grace-is (some slashed) group = refl

kind-is : (mark : Option Bool) (group : Bool) → kind_of mark group ≡ given mark (cond group 2 0) (λ slashed. cond slashed 3 2)
kind-is none true = refl
kind-is none false = refl
kind-is (some true) group = refl
kind-is (some false) group = refl

length-is : (mark : Option Bool) (value : Length) → length_of mark value ≡ given mark value (λ slashed. cond slashed eighth value)
length-is none value = refl
length-is (some true) value = refl
length-is (some false) value = refl

-- ---- inner barlines

abbrev is_more : ℕ → Bool
is_more zero = false
is_more (suc n) = true

-- one stands in a token that has further bars
inner-is : (t : Token) (text : List ℕ) → Says t text → is_more (further_bars t) ≡ has_inner_bar text
inner-is t text h = go (whole_bars_in t) ∙ ap (ltb 1) h.rests
  where
    more : (n : ℕ) → is_more n ≡ ltb 1 (suc n)
    more zero = refl
    more (suc n) = sym (lt-ltb 1 (suc (suc n)) (omega arith))

    go : (o : Option ℕ) → is_more (Option.get_or o 1 - 1) ≡ ltb 1 (given o 0 (λ n. suc (n - 1)))
    go none = refl
    go (some n) = more (n - 1)

module _ (k : Attributes) (line : Part) where
  -- a letter's pitch and its record's heading, as the look-back gives them
  abbrev pub back_pitch : List Item → ℕ → ℕ → Pitch
  back_pitch before place step = record { place = place; step = step; octave = back_octave before; alter = back_alter k line before step }

  abbrev pub back_heading : List Item → ℕ → Heading
  back_heading before place = heading place (back_kind k line before) (back_length k line before)

  -- a field that a token may set, but no barline and no `=`, and that nothing else touches
  kept : {A : Type 0} (f : State → A) (of : Token → Option A) → ((x : Item) (s : State) → f (step x s) ≡ Option.get_or (of x.token) (f s))
      → ((x : Item) (n : ℕ) (s : State) → f (step (whole_at x n) s) ≡ f s) → ((x : Item) (s : State) → f (step (inner_barline x) s) ≡ f s)
      → (e : List Item) → f (state_after k e) ≡ Option.get_or (latest never (λ x b. of x.token) e) (f (fresh k))
  unfolding state_after
  kept f of h own bar [] = refl
  kept f of h own bar (x ∷ e) = untouched f own bar x (state_after k e) ∙ h x (state_after k e) ∙ ap (Option.get_or (of x.token)) (kept f of h own bar e) ∙ get_d-or (of x.token) (latest never (λ x b. of x.token) e) (f (fresh k))

  octave-agrees : (e : List Item) → (state_after k e).octave ≡ back_octave e
  unfolding step state_after
  octave-agrees = kept (λ s. s.octave) octave_in (λ x s. refl) (λ x n s. refl) (λ x s. refl)

  group-agrees : (e : List Item) → Cut line e → (state_after k e).grace_group ≡ in_grace_group line e
  unfolding step state_after
  group-agrees [] h = refl
  group-agrees (x ∷ e) h = untouched (λ s. s.grace_group) (λ x n s. refl) (λ x s. refl) x (state_after k e)
      ∙ (λ i. Option.get_or (h.2.group i) (group-agrees e h.1 i)) ∙ get_d-or (group_of (text_of line x)) (latest never (λ x b. group_of (text_of line x)) e) false

  pattern-agrees : (e : List Item) → (state_after k e).pattern ≡ back_pattern e
  unfolding step state_after
  pattern-agrees = kept (λ s. s.pattern) duration_in (λ x s. refl) (λ x n s. refl) (λ x s. refl)

  sign-agrees : (e : List Item) → Cut line e → (state_after k e).pending_accidental ≡ back_accidental line e
  unfolding step state_after
  sign-agrees [] h = refl
  sign-agrees (x ∷ e) h = untouched (λ s. s.pending_accidental) (λ x n s. refl) (λ x s. refl) x (state_after k e) ∙ λ i. cond (is_some (h.2.letter i)) none (h.2.sign i or sign-agrees e h.1 i)

  chord-agrees : (e : List Item) → Cut line e → (state_after k e).chord_next ≡ back_chord line e
  unfolding step state_after
  chord-agrees [] h = refl
  chord-agrees (x ∷ e) h = untouched (λ s. s.chord_next) (λ x n s. refl) (λ x s. refl) x (state_after k e)
      ∙ (λ i. cond (is_some (h.2.letter i)) false (h.2.caret i || chord-agrees e h.1 i)) ∙ chord-step x (is_some (letter_of (text_of line x))) (is_caret (text_of line x)) _

  accidentals-agrees : (e : List Item) → Cut line e → (n o : ℕ) → (state_after k e).accidentals n o ≡ back_marked line n o e
  unfolding step state_after
  accidentals-agrees [] h n o = refl
  accidentals-agrees (x ∷ e) h n o =
      by-turns (λ x further. (in_turn x further s).accidentals n o ≡ cond (is_barline x.token || is_more further) none (marked x)) (λ x. accidentals-step (is_barline x.token) (letter_in x.token) s.pending_accidental s.accidentals s.octave n o) (λ x c further. refl) x
      ∙ λ i. cond (h.2.bar i || inner-is x.token (text_of line x) h.2 i) none (given (h.2.letter i) none (λ m. cond (eqb n m && eqb o (octave-agrees e i)) (sign-agrees e h.1 i) none) or accidentals-agrees e h.1 n o i)
    where
      s : State
      s = state_after k e

      marked : Item → Option ℤ
      marked x = given (letter_in x.token) none (λ m. cond (eqb n m && eqb o s.octave) s.pending_accidental none) or s.accidentals n o

  -- the open bar holds what the look-back counts as stored since the last barline, but for pitches and notations
  since-agrees : (e : List Item) → Cut line e → headings (state_after k e).open_bar ≡ headings (since_barline k line e)
  unfolding step state_after
  since-agrees [] h = refl
  since-agrees (x ∷ e) h =
      by-turns (λ x further. headings (in_turn x further s).open_bar ≡ headings (cond (is_barline x.token) [] (cond (is_more further) (whole_bar_rest x.place ∷ []) (stores x.place x.token s ++ since_barline k line e)))) (λ x. one x (since-agrees e h.1) (is_barline x.token)) (λ x c further. refl) x
      ∙ λ i. headings (cond (h.2.bar i) [] (cond (inner-is x.token (text_of line x) h.2 i) (whole_bar_rest x.place ∷ []) (stores x.place x.token s ++ since_barline k line e)))
    where
      s : State
      s = state_after k e

      one : (x : Item) → headings s.open_bar ≡ headings (since_barline k line e) → (b : Bool) → headings (cond b [] (stores x.place x.token s ++ older x.place x.token s)) ≡ headings (cond b [] (stores x.place x.token s ++ since_barline k line e))
      one x i true = refl
      one x i false =
          let new : List Note = stores x.place x.token s in
          headings-behind new x.place x.token s ∙ ap (λ l. headings new ++ l) i ∙ sym (map-append (λ (r : Note). r.heading) new (since_barline k line e))

  empty-agrees : (e : List Item) → Cut line e → is_empty (state_after k e).open_bar ≡ is_empty (since_barline k line e)
  empty-agrees e h = is-empty (state_after k e).open_bar ∙ ap is_empty (since-agrees e h) ∙ sym (is-empty (since_barline k line e))

  pub joins-agrees : (e : List Item) → Cut line e → joins (state_after k e) ≡ back_joins k line e
  joins-agrees e h = λ i. chord-agrees e h i && (ends-in-note (state_after k e).open_bar ∙ ap note_first (since-agrees e h) ∙ sym (is-no-rest (since_barline k line e))) i

  key-agrees : (e : List Item) → Cut line e → (state_after k e).key_alters ≡ back_key k line e
  unfolding step state_after
  key-agrees [] h = refl
  key-agrees (x ∷ e) h =
      untouched (λ s. s.key_alters) (λ x n s. cond_ind (λ a. a ≡ s.key_alters) (is_empty s.open_bar) refl refl) (λ x s. cond_ind (λ a. a ≡ s.key_alters) (is_empty s.open_bar) refl refl) x (state_after k e)
      ∙ (λ i. cond (empty-agrees e h.1 i) (given (key_in x.token) (key-agrees e h.1 i) (λ key. key.alters)) (key-agrees e h.1 i))
      ∙ key_step (is_empty (since_barline k line e)) (key_in x.token) (latest never (λ x b. cond (is_empty (since_barline k line b)) (given (key_in x.token) none (λ key. some key.alters)) none) e) k.key_alters

  grace-agrees : (e : List Item) → Cut line e → (state_after k e).pending_grace ≡ back_grace_sign k line e
  unfolding step state_after
  grace-agrees [] h = refl
  grace-agrees (x ∷ e) h = untouched (λ s. s.pending_grace) (λ x n s. refl) (λ x s. refl) x (state_after k e) ∙ λ i. cond (is_some (h.2.letter i) && not (joins-agrees e h.1 i)) none (h.2.grace i or grace-agrees e h.1 i)

  index_agrees : (e : List Item) → Cut line e → (state_after k e).values_taken ≡ back_taken k line e
  unfolding step state_after
  index_agrees [] h = refl
  index_agrees (x ∷ e) h = untouched (λ s. s.values_taken) (λ x n s. refl) (λ x s. refl) x (state_after k e) ∙ λ i. cond (is_some (duration_in x.token)) 0
      (cond (h.2.dash i || (is_some (h.2.letter i) && not (joins-agrees e h.1 i) && not ((ap (λ m. is_grace m (state_after k e).grace_group) (grace-agrees e h.1) ∙ grace-is (back_grace_sign k line e) (state_after k e).grace_group ∙ ap (λ g. given (back_grace_sign k line e) g (λ slashed. true)) (group-agrees e h.1)) i)))
      (suc (index_agrees e h.1 i)) (index_agrees e h.1 i))

  -- a letter's pitch and its record's heading are those that the look-back gives
  pub pitch-agrees : (e : List Item) → Cut line e → (p n : ℕ) → pitch_of (state_after k e) p n ≡ back_pitch e p n
  pitch-agrees e h p n = λ i. record {
    place = p;
    step = n;
    octave = octave-agrees e i;
    alter = Option.get_or (sign-agrees e h i or (accidentals-agrees e h n (state_after k e).octave ∙ ap (λ o. back_marked line n o e) (octave-agrees e)) i) (get_or (key-agrees e h i) n (pos 0));
  }

  element-agrees : (e : List Item) → Cut line e → element (state_after k e).pattern (state_after k e).values_taken ≡ back_element k line e
  element-agrees e h = λ i. element (pattern-agrees e i) (index_agrees e h i)

  pub heading-agrees : (e : List Item) → Cut line e → (p : ℕ) → opened_heading (state_after k e) p ≡ back_heading e p
  heading-agrees e h p =
      (λ i. heading p (kind_of (grace-agrees e h i) (group-agrees e h i)) (length_of (grace-agrees e h i) (element-agrees e h i)))
      ∙ λ i. heading p (kind-is (back_grace_sign k line e) (in_grace_group line e) i) (length-is (back_grace_sign k line e) (back_element k line e) i)
