-- A reading with the number 0 is a finished one, as no refusal has the number 0; no check of its text fails. Assumes nothing.
use Prim.Native.Nat.{ℕ, zero, suc, ◌<◌}
use mathlib.Core.Path.{◌≡◌, refl, ap}
use mathlib.Core.Bool.{Bool, true, false, cond}
use mathlib.Core.Option.{Option, none, some}
use mathlib.Core.List.{List, [], ◌∷◌}
use native.Mathlib.Omega.{arith}
use borrow.Author.Tests.{not-false}
use Rattle.rules.specs.Characters.{is_formed}
use Rattle.rules.specs.Tokens.{Item}
use Rattle.rules.specs.Records.{◌or◌, given, is_empty}
use Rattle.rules.specs.Rules.{step, further_bars, inner_barline, in_turn, state_after, stored, State, Attributes}
use Rattle.rules.specs.Refusals.{refusal, Check, first_failing, text_checks, text_refusal, over_bars, token_checks, token_refusal, refusal_at, refusal_in_turn, tokens_refusal, refusal_of, LentRecords, Refusal}
use Rattle.rules.specs.Reading.{lent_records, attributes_of, tokens_of, accepted, refused, reading, Lent}
use Rattle.rules.specs.Agreement.{All}
use Rattle.theorems.proofs.Lists.{cond_ind}

-- a refusal's number is not 0
abbrev Positive : Option ℕ → Type 0
Positive none = Unit {0}
Positive (some n) = 0 < n

abbrev Refuses : Option Refusal → Type 0
Refuses none = Unit {0}
Refuses (some r) = 0 < r.number

failing-positive : (cs : List Check) → All (λ c. 0 < c.0) cs → Positive (first_failing cs)
failing-positive [] h = tt
failing-positive (c ∷ cs) h = cond_ind Positive c.1 h.0 (failing-positive cs h.1)

at_place : (n : Option ℕ) (place : ℕ) → Positive n → Refuses (given n none (λ m. some (refusal m place)))
at_place none place h = tt
at_place (some n) place h = h

or-refuses : (a b : Option Refusal) → Refuses a → Refuses b → Refuses (a or b)
or-refuses none b g h = h
or-refuses (some r) b g h = g

text-refuses : (text : List ℕ) (lent : LentRecords) → Refuses (text_refusal text lent)
text-refuses text lent = at_place (first_failing (text_checks text lent)) 0 (failing-positive (text_checks text lent) (omega arith, (omega arith, (omega arith, (omega arith, (omega arith, tt))))))

at-refuses : (lent : LentRecords) (x : Item) (s : State) → Refuses (refusal_at lent x s)
at-refuses lent x s = at_place (token_refusal lent x.token s) x.place (failing-positive (token_checks lent x.token s) (omega arith, (omega arith, (omega arith, (omega arith, (omega arith, (omega arith, tt)))))))

turn-refuses : (lent : LentRecords) (x : Item) (further : ℕ) (s : State) → Refuses (refusal_in_turn lent x further s)
turn-refuses lent x zero s = at-refuses lent x s
turn-refuses lent x (suc further) s =
    let t : State = in_turn x further s in
    or-refuses (refusal_in_turn lent x further s) _ (turn-refuses lent x further s) (or-refuses (refusal_at lent (inner_barline x) t) _ (at-refuses lent (inner_barline x) t) (at-refuses lent x (step (inner_barline x) t)))

tokens-refuse : (lent : LentRecords) (k : Attributes) (all : List Item) → Refuses (tokens_refusal lent k all)
unfolding tokens_refusal
tokens-refuse lent k [] = tt
tokens-refuse lent k (x ∷ before) = or-refuses (tokens_refusal lent k before) _ (tokens-refuse lent k before)
    (turn-refuses lent x (further_bars x.token) (state_after k before))

refuses : (text : List ℕ) (lent : LentRecords) → Refuses (refusal_of text lent)
unfolding refusal_of
refuses text lent =
    or-refuses (text_refusal text lent) _ (text-refuses text lent)
    (or-refuses (tokens_refusal lent (attributes_of text) (tokens_of text)) _ (tokens-refuse lent (attributes_of text) (tokens_of text))
    (cond_ind Refuses (over_bars lent (state_after (attributes_of text) (tokens_of text))) (omega arith)
    (cond_ind Refuses (is_empty (stored (state_after (attributes_of text) (tokens_of text)))) (omega arith) tt)))

-- a reading with the number 0 is not refused
pub not-refused : (text : List ℕ) (lent : Lent) → (reading text lent).number ≡ 0 → refusal_of text (lent_records lent) ≡ none
unfolding reading
not-refused text lent = go (refusal_of text (lent_records lent)) (refuses text (lent_records lent))
  where
    go : (r : Option Refusal) → Refuses r → (given r (accepted text lent) (refused lent)).number ≡ 0 → r ≡ none
    go none h e = refl
    go (some r) h e = let z : ⊥ = omega (arith, h) in absurd z

-- and so a finished one
pub accepted-is : (text : List ℕ) (lent : Lent) → (reading text lent).number ≡ 0 → reading text lent ≡ accepted text lent
unfolding reading
accepted-is text lent e = ap (λ r. given r (accepted text lent) (refused lent)) (not-refused text lent e)

-- ---- no check fails

pub or-none : {A : Type 0} (a b : Option A) → a or b ≡ none → (a ≡ none) × (b ≡ none)
or-none none b e = (refl, e)
or-none (some a) b e = absurd (none-some e)
  where
    none-some : some a ≡ none → ⊥
    none-some e = let z : ◌≡◌ {A = ℕ} 0 1 = cc in absurd (omega arith)

pub given-none : {A B : Type 0} (o : Option A) (f : A → B) → given o none (λ a. some (f a)) ≡ none → o ≡ none
given-none none f e = refl
given-none (some a) f e = let z : ◌≡◌ {A = ℕ} 0 1 = cc in absurd (omega arith)

-- no check fails
pub passed : (cs : List Check) → first_failing cs ≡ none → All (λ c. c.1 ≡ false) cs
passed [] e = tt
passed (c ∷ cs) e = go c.1 (λ r. passed cs r) e
  where
    go : (b : Bool) → (first_failing cs ≡ none → All (λ c. c.1 ≡ false) cs) → cond b (some c.0) (first_failing cs) ≡ none → (b ≡ false) × All (λ c. c.1 ≡ false) cs
    go true r e = let z : ◌≡◌ {A = ℕ} 0 1 = cc in absurd (omega arith)
    go false r e = (refl, r e)

-- ---- of an accepted text

-- its text checks pass, so it is well-formed
pub text-formed : (text : List ℕ) (lent : Lent) → (reading text lent).number ≡ 0 → is_formed text ≡ true
unfolding refusal_of
text-formed text lent e =
    let checks : List Check = text_checks text (lent_records lent) in
    not-false (is_formed text) (passed checks (given-none (first_failing checks) (λ n. refusal n 0) (or-none (text_refusal text (lent_records lent)) _ (not-refused text lent e)).0)).1.1.0
