-- The lengths that notes take in turn are the pattern's elements. Assumes nothing.
use Rattle.std.proofs.Common.{◌≡◌, ℕ, zero, suc, ◌%◌, ◌<◌, Bool, true, false, cond, List, [], ◌∷◌, length, get_or, drop, refl, sym, ap, ◌∙◌, arith, mod-lt, mod-eq_of_lt}
use Rattle.std.proofs.Math.Nat.{suc-mod, mod_self}
use native.Mathlib.Decide.{ℕ_discrete}
use Rattle.std.proofs.Math.Option.{none}
use Rattle.rules.specs.Values.{Length, quarter, element}
use Rattle.rules.specs.Tokens.{Token, duration, letter, rest, duration_in}
use Rattle.rules.specs.Rules as rules
use Rattle.rules.specs.Rules.{State, step, is_grace}
use Rattle.tokens.specs.Rhythm.{next_length, lengths_after}
use Rattle.view.specs.View.{View}
use Rattle.view.specs.Steps.{opened_heading}
use Rattle.view.specs.Holds.{SameValues, taken, InTurn}
use Rattle.view.proofs.Same.{item}

-- without lengths there is none
none_taken : (n : ℕ) → taken n [] [] ≡ []
none_taken zero = refl
none_taken (suc n) = ap (lengths_after []) (none_taken n)

more_left : (all l : List Length) (k : ℕ) → suc k < length l → lengths_after all (drop k l) ≡ drop (suc k) l
more_left all [] k h = absurd (omega (arith, h))
more_left all (a ∷ []) zero h = absurd (omega (arith, h))
more_left all (a ∷ b ∷ l) zero h = refl
more_left all (a ∷ l) (suc k) h = more_left all l k (omega (arith, h))

none_left : (all l : List Length) (k : ℕ) → suc k ≡ length l → lengths_after all (drop k l) ≡ all
none_left all [] k h = absurd (omega (arith, h))
none_left all (a ∷ []) zero h = refl
none_left all (a ∷ b ∷ l) zero h = absurd (omega (arith, h))
none_left all (a ∷ l) (suc k) h = none_left all l k (omega (arith, h))

module _ (p : List Length) (some' : 0 < length p) where
  taken_is : (n : ℕ) → taken n p p ≡ drop (n % length p) p
  taken_is zero = ap (λ (k : ℕ). drop k p) (sym (mod-eq_of_lt some'))
  taken_is (suc n) = ap (lengths_after p) (taken_is n) ∙ go (ℕ_discrete (suc (n % length p)) (length p))
    where
      next : suc n % length p ≡ suc (n % length p) % length p
      next = suc-mod n (length p)

      below : n % length p < length p
      below = mod-lt n some'

      go : Dec (suc (n % length p) ≡ length p) → lengths_after p (drop (n % length p) p) ≡ drop (suc n % length p) p
      go (yes e) = none_left p p (n % length p) e ∙ ap (λ (k : ℕ). drop k p) (sym (next ∙ ap (λ (k : ℕ). k % length p) e ∙ mod_self (length p)))
      go (no e) =
          let further : suc (n % length p) < length p = omega (arith, below, e) in
          more_left p p (n % length p) further ∙ ap (λ (k : ℕ). drop k p) (sym (next ∙ mod-eq_of_lt further))

next_is : (p : List Length) (k : ℕ) → next_length (drop k p) ≡ get_or p k quarter
next_is [] zero = refl
next_is [] (suc k) = refl
next_is (a ∷ p) zero = refl
next_is (a ∷ p) (suc k) = next_is p k

-- element n modulo the pattern's size is the next length when n were taken
element_taken : (p : List Length) (n : ℕ) → next_length (taken n p p) ≡ element p n
element_taken [] n = ap next_length (none_taken n)
element_taken (a ∷ p) n = ap next_length (taken_is (a ∷ p) (omega arith) n) ∙ next_is (a ∷ p) (n % length (a ∷ p))

module _ {s : State} {v : View} (values : SameValues s v) (h : InTurn s v) where
  next_agrees : rules.next_value s ≡ next_length v.lengths_left
  next_agrees = ap (λ (p : List Length). element p s.values_taken) h.pattern ∙ sym (element_taken v.pattern s.values_taken) ∙ ap next_length (sym h.left)

  pub heading_agrees : (place : ℕ) → rules.opened_heading s place ≡ opened_heading place v
  heading_agrees place = λ i. rules.heading place (rules.kind_of (values.pending_grace i) (values.grace_group i)) (rules.length_of (values.pending_grace i) (next_agrees i))

  pub rest_heading_agrees : (place : ℕ) → rules.heading place 1 (rules.next_value s) ≡ rules.heading place 1 (next_length v.lengths_left)
  rest_heading_agrees place = ap (rules.heading place 1) next_agrees

  -- one length more is taken
  turn_taken : {s' : State} {w : View} → s'.pattern ≡ s.pattern → s'.values_taken ≡ suc s.values_taken → v.pattern ≡ w.pattern → w.lengths_left ≡ lengths_after v.pattern v.lengths_left → InTurn s' w
  turn_taken {s'} {w} a b c d = record {
    pattern = a ∙ h.pattern ∙ c;
    left = d ∙ ap (lengths_after v.pattern) h.left ∙ (λ i. taken (sym b i) (c i) (c i));
  }

-- after a token; c, d: what the view holds then
module _ (p o z : ℕ) {s : State} {v : View} (values : SameValues s v) (h : InTurn s v) {w : View} (c : v.pattern ≡ w.pattern) where
  -- a token that is no digit token, letter or rest
  pub turn_kept : (t : Token) → duration_in t ≡ none → rules.steps t s ≡ false → w.lengths_left ≡ v.lengths_left → InTurn (step (item p o z t) s) w
  unfolding step
  turn_kept t a b d = record {
    pattern = rw a (h.pattern ∙ c);
    left = rw (a, b) (d ∙ h.left ∙ (λ i. taken s.values_taken (c i) (c i)));
  }

  -- a letter that joins takes none
  pub turn_joined : (n : ℕ) → rules.joins s ≡ true → w.lengths_left ≡ v.lengths_left → InTurn (step (item p o z (letter n)) s) w
  turn_joined n e d = turn_kept (letter n) refl (rw e refl) d

  -- one that opens a note does; a grace takes it without stepping
  pub turn_opened : (n : ℕ) → rules.joins s ≡ false → w.lengths_left ≡ cond (is_grace v.pending_grace v.grace_group) v.lengths_left (lengths_after v.pattern v.lengths_left) → InTurn (step (item p o z (letter n)) s) w
  unfolding step
  turn_opened n e d = go (is_grace v.pending_grace v.grace_group) ((λ i. is_grace (values.pending_grace i) (values.grace_group i))) d
    where
      go : (b : Bool) → is_grace s.pending_grace s.grace_group ≡ b → w.lengths_left ≡ cond b v.lengths_left (lengths_after v.pattern v.lengths_left) → InTurn (step (item p o z (letter n)) s) w
      go true g d = turn_kept (letter n) refl (rw (e, g) refl) d
      go false g d = turn_taken values h refl (rw (e, g) refl) c d

  -- a rest takes one
  pub turn_rest : w.lengths_left ≡ lengths_after v.pattern v.lengths_left → InTurn (step (item p o z rest) s) w
  unfolding step
  turn_rest d = turn_taken values h refl refl c d

-- a digit token begins its pattern
pub turn_begun : (p o z : ℕ) (s : State) {w : View} (q : List Length) → w.pattern ≡ q → w.lengths_left ≡ q → InTurn (step (item p o z (duration q)) s) w
unfolding step
turn_begun p o z s q a d = record { pattern = sym a; left = d ∙ sym a }
