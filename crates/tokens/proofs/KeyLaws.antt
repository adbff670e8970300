-- Laws of a key's value: at a place of it, of its letters against an order, and of the whole.
-- Assumes nothing.
use Rattle.std.specs.Prelude.{if◌then◌else◌}
use Prim.Native.Nat.{ℕ, suc, ◌+◌, ◌≤◌, ◌<◌}
use native.Mathlib.Omega.{arith}
use native.Mathlib.Numerals.{one-add}
use mathlib.Core.Path.{◌≡◌, refl}
use mathlib.Core.Bool.{Bool, true, false, not, ◌&&◌, ◌||◌}
use mathlib.Core.Option.{Option, none}
use mathlib.Core.List.{List, [], ◌∷◌}
use borrow.Author.Tests.{eq-eqb, ne_eqb}
use lib.Dec.{eqb, eqb-zero-suc, eqb-suc-suc}
use lib.IntN.{ℤ, pos, neg_ℤ}
use lib.ListN.{length, get_or, drop}
use lib.Seq.{drop-cons}
use native.Mathlib.Numerals.{add-one}
use Rattle.rules.specs.Text.{bytes, run_length, has, begins}
use Rattle.rules.specs.Values.{sign_after, is_named, is_expected, all_expected, letters_from, are_sharps, are_flats, key_with, key_of}
use Rattle.tokens.proofs.CutLaws.{begins_within}
use Rattle.std.proofs.lemmas.Bool.{and_parts}

-- the list from a place on is the element there and the list from the next place on
next_element : (xs : List ℕ) (i : ℕ) → i < length xs → drop i xs ≡ get_or xs i 0 ∷ drop (i + 1) xs
next_element xs i h = rw (add-one) (drop-cons xs i 0 h)

-- the value from place i on
module _ (xs : List ℕ) (s : Option ℤ) (i : ℕ) (h : i < length xs) where
  pub expected_not : is_expected s (get_or xs i 0) ≡ false → all_expected s (drop i xs) ≡ false
  expected_not e = rw (next_element xs i h, e)

  pub expected_more : is_expected s (get_or xs i 0) ≡ true → all_expected s (drop i xs) ≡ all_expected (sign_after s (get_or xs i 0)) (drop (i + 1) xs)
  expected_more e = rw (next_element xs i h, e)

  pub letters_named : is_named s (get_or xs i 0) ≡ true → letters_from s (drop i xs) ≡ get_or xs i 0 ∷ letters_from (sign_after s (get_or xs i 0)) (drop (i + 1) xs)
  letters_named e = rw (next_element xs i h, e)

  pub letters_other : is_named s (get_or xs i 0) ≡ false → letters_from s (drop i xs) ≡ letters_from (sign_after s (get_or xs i 0)) (drop (i + 1) xs)
  letters_other e = rw (next_element xs i h, e)

-- a letter at place i against what is left of the order
module _ (xs left : List ℕ) (s : Option ℤ) (i : ℕ) (h : i < length xs) (n : is_named s (get_or xs i 0) ≡ true) where
  pub order_ends : left ≡ [] → begins (letters_from s (drop i xs)) left ≡ false
  order_ends l = rw (letters_named xs s i h n, l)

  module _ (x : ℕ) (rest : List ℕ) (l : left ≡ x ∷ rest) where
    pub order_differs : (x ≡ get_or xs i 0 → ⊥) → begins (letters_from s (drop i xs)) left ≡ false
    order_differs d = rw (letters_named xs s i h n, l, ne_eqb x (get_or xs i 0) d)

    pub order_agrees : x ≡ get_or xs i 0 → begins (letters_from s (drop i xs)) left ≡ begins (letters_from (sign_after s (get_or xs i 0)) (drop (i + 1) xs)) rest
    order_agrees e = rw (letters_named xs s i h n, l, eq-eqb x (get_or xs i 0) e)

-- a byte stands in a list where the run of other bytes ends before the list
pub run_all : (k : ℕ) (xs : List ℕ) → eqb (run_length (λ b. not (eqb b k)) xs) (length xs) ≡ not (has (λ b. eqb b k) xs)
run_all k [] = refl
run_all k (x ∷ xs) = at (eqb x k) (run_all k xs)
  where
    at : (t : Bool) → eqb (run_length (λ b. not (eqb b k)) xs) (length xs) ≡ not (has (λ b. eqb b k) xs)
        → eqb (if not t then 1 + run_length (λ b. not (eqb b k)) xs else 0) (suc (length xs)) ≡ not (t || has (λ b. eqb b k) xs)
    at true h = eqb-zero-suc (length xs)
    at false h = rw (one-add, eqb-suc-suc) h

-- the key, by the tests of its letters
module _ (xs : List ℕ) where
  -- letters in an order of seven are few
  few : (order : List ℕ) → length order ≡ 7 → (t : Bool) → begins (letters_from none xs) order && t ≡ true → length (letters_from none xs) ≤ 7
  few order l t e = omega (arith, begins_within (letters_from none xs) order (and_parts _ t e).0)

  pub sharps_few : are_sharps xs ≡ true → length (letters_from none xs) ≤ 7
  sharps_few e = few (bytes "FCGDAEB") refl _ e

  pub flats_few : are_flats xs ≡ true → length (letters_from none xs) ≤ 7
  flats_few e = few (bytes "BEADGCF") refl _ e

  pub key_none : length (letters_from none xs) ≡ 0 → key_of xs ≡ key_with xs (pos 0) (all_expected none xs)
  unfolding key_of
  key_none e = rw (eq-eqb (length (letters_from none xs)) 0 e)

  module _ (n : length (letters_from none xs) ≡ 0 → ⊥) where
    pub key_sharps : are_sharps xs ≡ true → key_of xs ≡ key_with xs (pos (length (letters_from none xs))) (all_expected none xs)
    unfolding key_of
    key_sharps s = rw (ne_eqb (length (letters_from none xs)) 0 n, s)

    pub key_flats : are_sharps xs ≡ false → are_flats xs ≡ true → key_of xs ≡ key_with xs (neg_ℤ (pos (length (letters_from none xs)))) (all_expected none xs)
    unfolding key_of
    key_flats s f = rw (ne_eqb (length (letters_from none xs)) 0 n, s, f)

    pub key_mixed : are_sharps xs ≡ false → are_flats xs ≡ false → key_of xs ≡ key_with xs (pos 0) false
    unfolding key_of
    key_mixed s f = rw (ne_eqb (length (letters_from none xs)) 0 n, s, f)

pub ruleset expected_laws = (expected_not, expected_more)

pub ruleset letter_laws = (letters_named, letters_other)

pub ruleset order_laws = (letters_named, letters_other, order_ends, order_differs, order_agrees)

pub ruleset key_laws = (flats_few, key_flats, key_mixed, key_none, key_sharps, sharps_few)
