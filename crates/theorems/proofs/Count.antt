-- The note count: opened letters plus rests plus whole-bar rests plus copies, the records with the place of an `f` or `i` (S-14.15). Assumes nothing.
use Prim.Native.Nat.{ℕ, suc, ◌+◌, ◌-◌, ◌<◌, ◌≤◌}
use mathlib.Core.Path.{◌≡◌, refl, sym, ap, ◌∙◌}
use mathlib.Core.Bool.{Bool, true, false, not, cond, ◌&&◌, ◌||◌}
use mathlib.Core.Option.{Option, none, some, get_or}
use mathlib.Core.List.{List, [], ◌∷◌, map}
use native.Mathlib.Omega.{arith}
use mir.Facts.{no_eqb}
use lib.Dec.{eqb, eqb_refl}
use lib.IntN.{pos}
use lib.ListN.{length, replicate, length-append, length-map, length-replicate}
use Rattle.rules.specs.Text.{Part}
use Rattle.rules.specs.Tokens.{latest_place, Ordered, is_rest, is_barline, figure_in, whole_bars_in, Figure, figure_mark, figure_repeat, bar_repeat, Token, Item, clef, key, meter, octave, duration, accidental, letter, chord, rest, barline, grace, grace_group, figure, marking, other}
use Rattle.rules.specs.Records.{is_some, given, Heading, Note}
use Rattle.rules.specs.Rules.{joins, opens, copied, repeated, whole_bar_rest, stores, further_bars, state_after, stored, State, Attributes}
use Rattle.rules.specs.LookBack.{keep, text_of, is_dash, whole_bar_rests, is_opening}
use Rattle.rules.specs.Agreement.{All, is_repeat, has_repeat, opened_letters, rest_tokens, whole_bars_stored}
use Rattle.theorems.proofs.Lists.{is_true, is_false, all-imp, keep-++, keep_same}
use Rattle.theorems.proofs.Cutting.{repeats_in, rests_in, Cut, ordered}
use Rattle.theorems.proofs.WholeBars.{whole_at, by-turns}
use Rattle.theorems.proofs.Places.{headings, stored_by, headings-turn, stored_here, places-till}
use Rattle.theorems.proofs.FieldByField.{joins-agrees}

-- 1 where the test holds
one-if : Bool → ℕ
one-if b = cond b 1 0

-- the headings with the place of an `f` or `i`
abbrev pub repeats_among : Part → List Item → List Heading → List Heading
repeats_among line all hs = keep (λ h. has_repeat line all (pos h.place)) hs

-- how many records a token repeats
repeats : Token → State → ℕ
repeats t s = given (figure_in t) 0 (λ f. length (repeated f s))

stores-count : (p : ℕ) (t : Token) (s : State) → length (cond (is_barline t) [] (stores p t s)) ≡ one-if (opens t s) + one-if (is_rest t) + one-if (is_some (whole_bars_in t)) + repeats t s
unfolding one-if repeats
stores-count p t s = elim t as (λ t. length (cond (is_barline t) [] (stores p t s)) ≡ one-if (opens t s) + one-if (is_rest t) + one-if (is_some (whole_bars_in t)) + repeats t s) [ clef c ↦ refl | key k ↦ refl | meter m ↦ refl | octave o ↦ refl | duration q ↦ refl | accidental a ↦ refl | letter n ↦ note (not (joins s)) _ | chord ↦ refl | rest ↦ refl | barline r l ↦ refl | grace g ↦ refl | grace_group g ↦ refl | figure f ↦ length-map (repeated f s) (copied p) ∙ omega arith | marking m ↦ refl | other o ↦ whole (whole_bars_in (other o)) ]
  where
    note : (b : Bool) (r : Note) → length (cond b (r ∷ []) []) ≡ cond b 1 0 + 0 + 0 + 0
    note true r = refl
    note false r = refl

    whole : (c : Option ℕ) → length (cond (is_some c) (whole_bar_rest p ∷ []) []) ≡ 0 + 0 + cond (is_some c) 1 0 + 0
    whole none = refl
    whole (some n) = refl

-- over all its turns
turns-count : (x : Item) (s : State) → length (stored_by x (further_bars x.token) s) ≡ one-if (opens x.token s) + one-if (is_rest x.token) + rests_in x.token + repeats x.token s
unfolding one-if
turns-count x s =
    let new : List Note = cond (is_barline x.token) [] (stores x.place x.token s) in
    let more : length (stored_by x (further_bars x.token) s) ≡ further_bars x.token + length new = length-append (replicate (further_bars x.token) (whole_bar_rest x.place)) new ∙ ap (λ n. n + length new) (length-replicate (further_bars x.token) (whole_bar_rest x.place)) in
    omega (arith, more, stores-count x.place x.token s, rests (whole_bars_in x.token))
  where
    rests : (c : Option ℕ) → (get_or c 1 - 1) + one-if (is_some c) ≡ given c 0 (λ n. suc (n - 1))
    rests none = refl
    rests (some n) = omega arith

-- what a token stores are copies, if it is an `f` or `i`, and else none is
copies-one : (p : ℕ) (t : Token) (s : State) → length (keep (λ h. repeats_in t) (headings (cond (is_barline t) [] (stores p t s)))) ≡ repeats t s
unfolding repeats
copies-one p t s = elim t as (λ t. length (keep (λ h. repeats_in t) (headings (cond (is_barline t) [] (stores p t s)))) ≡ repeats t s) [ clef c ↦ refl | key k ↦ refl | meter m ↦ refl | octave o ↦ refl | duration q ↦ refl | accidental a ↦ refl | letter n ↦ note (not (joins s)) _ | chord ↦ refl | rest ↦ refl | barline r l ↦ refl | grace g ↦ refl | grace_group g ↦ refl | figure f ↦ of f | marking m ↦ refl | other o ↦ whole (whole_bars_in (other o)) ]
  where
    note : (b : Bool) (r : Note) → length (keep (λ h. false) (headings (cond b (r ∷ []) []))) ≡ 0
    note true r = refl
    note false r = refl

    whole : (c : Option ℕ) → length (keep (λ h. false) (headings (cond (is_some c) (whole_bar_rest p ∷ []) []))) ≡ 0
    whole none = refl
    whole (some n) = refl

    each : (l : List Note) → length (keep (λ h. true) (headings (map (copied p) l))) ≡ length l
    each [] = refl
    each (n ∷ l) = ap suc (each l)

    of : (f : Figure) → length (keep (λ h. repeats_in (figure f)) (headings (map (copied p) (repeated f s)))) ≡ length (repeated f s)
    of figure_mark = refl
    of figure_repeat = each (repeated figure_repeat s)
    of bar_repeat = each (repeated bar_repeat s)

copies-count : (x : Item) (s : State) → length (keep (λ h. repeats_in x.token) (headings (stored_by x (further_bars x.token) s))) ≡ repeats x.token s
unfolding repeats
copies-count x s = by-turns (λ x n. length (keep (λ h. repeats_in x.token) (headings (stored_by x n s))) ≡ repeats x.token s) (λ x. copies-one x.place x.token s) (λ x n further. ap length (none_kept (headings (stored_by (whole_at x n) (suc further) s)))) x
  where
    none_kept : (hs : List Heading) → keep (λ h. false) hs ≡ []
    none_kept [] = refl
    none_kept (h ∷ hs) = none_kept hs

-- no token yet has a later place
none-later : (line : Part) (e : List Item) → Ordered e → (p : ℕ) → latest_place e < p → has_repeat line e (pos p) ≡ false
none-later line [] h p l = refl
none-later line (x ∷ e) h p l = rw (is_false (eqb p x.place) (no_eqb apart), none-later line e h.1 p (omega (arith, h.0))) (and-false (is_repeat (text_of line x)))
  where
    apart : p ≡ x.place → ⊥
    apart q = omega arith

    and-false : (b : Bool) → (b && false) || false ≡ false
    and-false true = refl
    and-false false = refl

module _ (k : Attributes) (line : Part) where
  -- the stored records are the opened letters, the rests, the whole-bar rests and the copies
  pub count-is : (e : List Item) → Cut line e → length (stored (state_after k e)) ≡ opened_letters k line e + rest_tokens line e + whole_bars_stored line e + length (repeats_among line e (headings (stored (state_after k e))))
  unfolding state_after one-if
  count-is [] h = refl
  count-is (x ∷ e) h =
      sym (length-map (stored (state_after k (x ∷ e))) heading) ∙ ap length (headings-turn x s) ∙ length-append new (headings (stored s))
      ∙ (λ i. (length-map (stored_by x further s) heading ∙ turns-count x s) i + (length-map (stored s) heading ∙ count-is e h.1) i)
      ∙ (λ i. one-if (is_some (h.2.letter i) && not (joins-agrees k line e h.1 i)) + one-if (h.2.dash i) + h.2.rests i + repeats x.token s + (a + b + w + c))
      ∙ add-up (is_opening k line x e) (is_dash (text_of line x)) (whole_bar_rests (text_of line x)) (repeats x.token s) a b w c
      ∙ ap (λ n. opened_letters k line (x ∷ e) + rest_tokens line (x ∷ e) + whole_bars_stored line (x ∷ e) + n) (sym copies)
    where
      s : State
      s = state_after k e

      further : ℕ
      further = further_bars x.token

      new : List Heading
      new = headings (stored_by x further s)

      heading : Note → Heading
      heading r = r.heading

      a : ℕ
      a = opened_letters k line e

      b : ℕ
      b = rest_tokens line e

      w : ℕ
      w = whole_bars_stored line e

      c : ℕ
      c = length (repeats_among line e (headings (stored s)))

      now : Heading → Bool
      now g = has_repeat line (x ∷ e) (pos g.place)

      old-same : All (λ g. now g ≡ has_repeat line e (pos g.place)) (headings (stored s))
      old-same = all-imp same (headings (stored s)) (places-till k e (ordered line e h.1))
        where
          apart : (g : Heading) → g.place ≤ latest_place e → g.place ≡ x.place → ⊥
          apart g l f = omega (arith, h.0)

          and-false : (t o : Bool) → (t && false) || o ≡ o
          and-false true o = refl
          and-false false o = refl

          same : (g : Heading) → g.place ≤ latest_place e → now g ≡ has_repeat line e (pos g.place)
          same g l = ap (λ t. (is_repeat (text_of line x) && t) || has_repeat line e (pos g.place)) (is_false (eqb g.place x.place) (no_eqb (apart g l))) ∙ and-false (is_repeat (text_of line x)) _

      new-same : All (λ g. now g ≡ is_repeat (text_of line x)) new
      new-same = all-imp same new (stored_here x further s)
        where
          and-true : (t : Bool) → (t && true) || false ≡ t
          and-true true = refl
          and-true false = refl

          same : (g : Heading) → g.place ≡ x.place → now g ≡ is_repeat (text_of line x)
          same g q = ap (λ p. has_repeat line (x ∷ e) (pos p)) q
              ∙ (λ i. (is_repeat (text_of line x) && is_true (eqb x.place x.place) (eqb_refl x.place) i) || none-later line e (ordered line e h.1) x.place h.0 i) ∙ and-true (is_repeat (text_of line x))

      copies : length (repeats_among line (x ∷ e) (headings (stored (state_after k (x ∷ e))))) ≡ repeats x.token s + c
      copies = ap (λ l. length (keep now l)) (headings-turn x s) ∙ ap length (keep-++ now new (headings (stored s))) ∙ length-append (keep now new) (keep now (headings (stored s)))
          ∙ λ i. (ap length (keep_same now (λ g. is_repeat (text_of line x)) new new-same) ∙ ap (λ t. length (keep (λ g. t) new)) (sym h.2.copy) ∙ copies-count x s) i + length (keep_same now (λ g. has_repeat line e (pos g.place)) (headings (stored s)) old-same i)

      add-up : (o r : Bool) (v m n₁ n₂ n₃ n₄ : ℕ) → one-if o + one-if r + v + m + (n₁ + n₂ + n₃ + n₄) ≡ cond o (suc n₁) n₁ + cond r (suc n₂) n₂ + (v + n₃) + (m + n₄)
      add-up true true v m n₁ n₂ n₃ n₄ = omega arith
      add-up true false v m n₁ n₂ n₃ n₄ = omega arith
      add-up false true v m n₁ n₂ n₃ n₄ = omega arith
      add-up false false v m n₁ n₂ n₃ n₄ = omega arith
