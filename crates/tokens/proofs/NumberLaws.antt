-- Laws of `number_to` at a digit, at another byte, past the limit and at the end; of the counts that
-- it makes.
use Rattle.std.specs.Prelude.{if◌then◌else◌}
use Prim.Native.Nat.{ℕ, ◌+◌, ◌-◌, ◌*◌, ◌<◌, ◌≤◌}
use native.Mathlib.Omega.{arith}
use mathlib.Core.Path.{◌≡◌, refl, sym, ap, ◌∙◌}
use mathlib.Core.Bool.{Bool, true, false, ◌&&◌, and-false}
use mathlib.Core.Logic.{◌⊎◌, inl, inr}
use mathlib.Core.Option.{Option, none, some}
use mathlib.Core.List.{List, [], ◌∷◌}
use native.Mathlib.Numerals.{add-one}
use borrow.Author.Tests.{leb-true, le-leb, lt-leb, lt-ltb, ne_eqb}
use lib.Dec.{eqb, leb, ltb}
use lib.ListN.{length, get_or, drop, drop_of_length-le}
use lib.Seq.{drop-cons}
use Rattle.rules.specs.Limits.{whole_bar_limit}
use Rattle.rules.specs.Text.{is_digit, every}
use Rattle.rules.specs.Values.{decimal_from, number_to, whole_bars_of}

-- the number that these digits make behind n, if it is within the limit
unfoldable pub number_from : ℕ → ℕ → List ℕ → Option ℕ
number_from limit n ds = if every is_digit ds && leb (decimal_from n ds) limit then some (decimal_from n ds) else none

pub number_none : (limit : ℕ) (ds : List ℕ) → length ds ≡ 0 → number_to limit ds ≡ none
number_none limit [] e = refl
number_none limit (d ∷ ds) e = absurd (omega arith)

pub number_some : (limit : ℕ) (ds : List ℕ) → 0 < length ds → number_to limit ds ≡ number_from limit 0 ds
unfolding number_from
number_some limit ds h = rw (lt-ltb 0 (length ds) h)

digits_grow : (n : ℕ) (ds : List ℕ) → n ≤ decimal_from n ds
digits_grow n [] = omega arith
digits_grow n (d ∷ ds) = omega (arith, digits_grow (n * 10 + (d - 48)) ds)

module _ (limit n : ℕ) (ds : List ℕ) (i : ℕ) where
  pub number_digit : i < length ds → is_digit (get_or ds i 0) ≡ true → number_from limit n (drop i ds) ≡ number_from limit (n * 10 + (get_or ds i 0 - 48)) (drop (i + 1) ds)
  unfolding number_from
  number_digit h t = rw (add-one, drop-cons ds i 0 h, t)

  pub number_other : i < length ds → is_digit (get_or ds i 0) ≡ false → number_from limit n (drop i ds) ≡ none
  unfolding number_from
  number_other h t = rw (drop-cons ds i 0 h, t)

  pub number_over : limit < n → number_from limit n (drop i ds) ≡ none
  unfolding number_from
  number_over h = rw (lt-leb (decimal_from n (drop i ds)) limit (omega (arith, digits_grow n (drop i ds))), and-false)

  pub number_end : length ds ≤ i → n ≤ limit → number_from limit n (drop i ds) ≡ some n
  unfolding number_from
  number_end h l = rw (drop_of_length-le ds h, le-leb n limit l)

-- ---- the counts

-- digits make no number within the limit, or one that is
number_cases : (limit : ℕ) (ds : List ℕ) → (number_to limit ds ≡ none) ⊎ ((number_to limit ds ≡ some (decimal_from 0 ds)) × (decimal_from 0 ds ≤ limit))
number_cases limit ds = go (ltb 0 (length ds)) (every is_digit ds) (leb (decimal_from 0 ds) limit) refl
  where
    go : (a b c : Bool) → leb (decimal_from 0 ds) limit ≡ c → ((if a && b && c then some (decimal_from 0 ds) else none) ≡ none) ⊎ (((if a && b && c then some (decimal_from 0 ds) else none) ≡ some (decimal_from 0 ds)) × (decimal_from 0 ds ≤ limit))
    go false b c e = inl refl
    go true false c e = inl refl
    go true true false e = inl refl
    go true true true e = inr (refl, leb-true (decimal_from 0 ds) limit e)

-- no digits count one bar
pub bars_none : (ds : List ℕ) → length ds ≡ 0 → whole_bars_of ds ≡ some 1
unfolding whole_bars_of
bars_none [] z = refl
bars_none (d ∷ ds) z = absurd (omega arith)

-- digits that make no number within the limit count none
pub bars_refused : (ds : List ℕ) → 0 < length ds → number_to whole_bar_limit ds ≡ none → whole_bars_of ds ≡ none
unfolding whole_bars_of
bars_refused [] h z = absurd (omega arith)
bars_refused (d ∷ ds) h z = go (eqb (decimal_from 0 (d ∷ ds)) 0)
  where
    go : (b : Bool) → (if b then none else number_to whole_bar_limit (d ∷ ds)) ≡ none
    go true = refl
    go false = z

-- what digits make within the limit
made : (ds : List ℕ) (n : ℕ) → number_to whole_bar_limit ds ≡ some n → decimal_from 0 ds ≡ n
made ds n e = go (number_cases whole_bar_limit ds)
  where
    go : (number_to whole_bar_limit ds ≡ none) ⊎ ((number_to whole_bar_limit ds ≡ some (decimal_from 0 ds)) × (decimal_from 0 ds ≤ whole_bar_limit)) → decimal_from 0 ds ≡ n
    go (inl h) = let z : ◌≡◌ {A = ℕ} 0 1 = ap (λ (o : Option ℕ). elim o [ none ↦ 0 | some m ↦ 1 ]) (sym h ∙ e) in absurd (omega (arith, z))
    go (inr h) = ap (λ (o : Option ℕ). elim o [ none ↦ 0 | some m ↦ m ]) (sym h.0 ∙ e)

-- others count what they make, but 0 none
pub bars_zero : (ds : List ℕ) (n : ℕ) → number_to whole_bar_limit ds ≡ some n → n ≡ 0 → 0 < length ds → whole_bars_of ds ≡ none
unfolding whole_bars_of
bars_zero [] n e z h = absurd (omega (arith, h))
bars_zero (d ∷ ds) n e z h = let m : decimal_from 0 (d ∷ ds) ≡ 0 = made (d ∷ ds) n e ∙ z in λ i. if eqb (m i) 0 then none else number_to whole_bar_limit (d ∷ ds)

pub bars_given : (ds : List ℕ) (n : ℕ) → number_to whole_bar_limit ds ≡ some n → (n ≡ 0 → ⊥) → 0 < length ds → whole_bars_of ds ≡ some n
unfolding whole_bars_of
bars_given [] n e z h = absurd (omega (arith, h))
bars_given (d ∷ ds) n e z h = let f : eqb (decimal_from 0 (d ∷ ds)) 0 ≡ false = ne_eqb (decimal_from 0 (d ∷ ds)) 0 (λ y. z (sym (made (d ∷ ds) n e) ∙ y)) in (λ i. if f i then none else number_to whole_bar_limit (d ∷ ds)) ∙ e

pub ruleset number_laws = (number_none, number_some, number_digit, number_other, number_over, number_end)

pub ruleset bar_laws = (bars_none, bars_refused, bars_zero, bars_given)
