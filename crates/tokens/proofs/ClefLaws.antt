-- Laws of a clef's value by its bytes. Assumes nothing.
use Rattle.std.specs.Prelude.{if◌then◌else◌}
use Prim.Native.Nat.{ℕ, ◌+◌, ◌<◌, ◌≤◌}
use native.Mathlib.Omega.{arith}
use mathlib.Core.Path.{◌≡◌, refl, sym, ap, ◌∙◌}
use mathlib.Core.Bool.{Bool, true, false, ◌||◌, false≢true, and-true, and-false}
use mathlib.Core.Option.{none}
use mathlib.Core.List.{List, [], ◌∷◌}
use borrow.Author.Tests.{ne_eqb, eqb-true}
use lib.ListN.{length, get_or, set, length-set, get_or-eq_default}
use lib.Dec.{eqb, ltb}
use Rattle.rules.specs.Text.{run_length}
use Rattle.rules.specs.Characters.{continues, character_size, begun, characters_in}
use Rattle.rules.specs.Values.{clef_named, is_mensural, clef_of}
use Rattle.std.proofs.lemmas.Bool.{and_parts}

begun_most : (b : ℕ) → begun b ≤ 1
begun_most b = go (continues b)
  where
    go : (t : Bool) → (if t then 0 else 1) ≤ 1
    go true = omega arith
    go false = omega arith

-- no more characters than bytes
count_within : (xs : List ℕ) → characters_in xs ≤ length xs
unfolding characters_in
count_within [] = omega arith
count_within (x ∷ xs) = omega (arith, begun_most x, count_within xs)

-- ---- mensural values

module _ (xs : List ℕ) where
  -- under three bytes are under three characters
  pub mensural_short : length xs < 3 → is_mensural xs ≡ false
  mensural_short h = rw (ne_eqb (characters_in xs) 3 (λ e. omega (arith, h, e, count_within xs)))

  -- another byte than `+` behind the first character
  pub mensural_other : (get_or xs (character_size xs) 0 ≡ 43 → ⊥) → is_mensural xs ≡ false
  mensural_other h = rw (ne_eqb (get_or xs (character_size xs) 0) 43 h) (and-false (eqb (characters_in xs) 3))

  -- none there
  pub mensural_alone : length xs ≤ character_size xs → is_mensural xs ≡ false
  mensural_alone h = mensural_other (λ e. omega (arith, e, get_or-eq_default xs 0 {n = character_size xs} h))

  -- a `+` there
  pub mensural_plus : get_or xs (character_size xs) 0 ≡ 43 → is_mensural xs ≡ eqb (characters_in xs) 3
  mensural_plus h = rw h (and-true (eqb (characters_in xs) 3))

-- ---- three bytes

three : (xs : List ℕ) → length xs ≡ 3 → xs ≡ get_or xs 0 0 ∷ get_or xs 1 0 ∷ get_or xs 2 0 ∷ []
three [] h = absurd (omega arith)
three (a ∷ []) h = absurd (omega arith)
three (a ∷ b ∷ []) h = absurd (omega arith)
three (a ∷ b ∷ c ∷ []) h = refl
three (a ∷ b ∷ c ∷ d ∷ xs) h = absurd (omega arith)

-- three characters of three bytes: each is one byte
single : (a b c : ℕ) → characters_in (a ∷ b ∷ c ∷ []) ≡ 3 → character_size (a ∷ b ∷ c ∷ []) ≡ 1
unfolding characters_in character_size
single a b c h = go (continues b) (ltb a 128) (omega (arith, h, begun_most a, begun_most b, begun_most c))
  where
    go : (t low : Bool) → ◌≡◌ {A = ℕ} (if t then 0 else 1) 1 → ◌≡◌ {A = ℕ} (if low then 1 else 1 + (if t then 1 + run_length continues (c ∷ []) else 0)) 1
    go t true e = refl
    go false false e = refl
    go true false e = absurd (omega arith)

signed : (a b c : ℕ) (m : Bool) → is_mensural (a ∷ b ∷ c ∷ []) ≡ m → m || eqb b 45 ≡ true → clef_of (a ∷ b ∷ c ∷ []) ≡ record { clef = clef_named (a ∷ 45 ∷ c ∷ []); mensural = m }
unfolding clef_of
signed a b c true e t = rw e (λ i. record { clef = clef_named (set (a ∷ b ∷ c ∷ []) (single a b c (eqb-true (characters_in (a ∷ b ∷ c ∷ [])) 3 (and_parts (eqb (characters_in (a ∷ b ∷ c ∷ [])) 3) _ e).0) i) 45); mensural = true })
signed a b c false e t = rw (e, eqb-true b 45 t)

unsigned : (a b c : ℕ) (m : Bool) → is_mensural (a ∷ b ∷ c ∷ []) ≡ m → m || eqb b 45 ≡ false → clef_of (a ∷ b ∷ c ∷ []) ≡ record { clef = none; mensural = m }
unfolding clef_of
unsigned a b c true e t = absurd (false≢true (sym t))
unsigned a b c false e t = rw e (simp (t, and-false))

unnamed : (xs : List ℕ) (m : Bool) → is_mensural xs ≡ m → (length xs ≡ 3 → ⊥) → clef_of xs ≡ record { clef = none; mensural = m }
unfolding clef_of
unnamed xs true e h = rw (e, length-set xs (character_size xs) 45, ne_eqb (length xs) 3 h)
unnamed xs false e h = rw (e, ne_eqb (length xs) 3 h)

module _ (xs : List ℕ) (m : Bool) (e : m ≡ is_mensural xs) where
  -- a `+` or a `-` in the middle
  pub clef_signed : length xs ≡ 3 → m || eqb (get_or xs 1 0) 45 ≡ true → clef_of xs ≡ record { clef = clef_named (get_or xs 0 0 ∷ 45 ∷ get_or xs 2 0 ∷ []); mensural = m }
  clef_signed h t = ap clef_of (three xs h) ∙ signed _ _ _ m (ap is_mensural (sym (three xs h)) ∙ sym e) t

  -- another byte there
  pub clef_other : length xs ≡ 3 → m || eqb (get_or xs 1 0) 45 ≡ false → clef_of xs ≡ record { clef = none; mensural = m }
  clef_other h t = ap clef_of (three xs h) ∙ unsigned _ (get_or xs 1 0) _ m (ap is_mensural (sym (three xs h)) ∙ sym e) t

  -- not three bytes
  pub clef_size : (length xs ≡ 3 → ⊥) → clef_of xs ≡ record { clef = none; mensural = m }
  clef_size h = unnamed xs m (sym e) h

pub ruleset mensural_laws = (mensural_short, mensural_other, mensural_alone, mensural_plus)

pub ruleset clef_laws = (clef_signed, clef_other, clef_size)
