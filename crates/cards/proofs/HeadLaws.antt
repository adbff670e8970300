-- A bar's head and its words: words are judged exactly, and `head_of` is that head. Assumes nothing.
use Prim.Native.Nat.{ℕ, ◌<◌, ◌≤◌}
use native.Mathlib.Omega.{arith}
use mathlib.Core.Path.{◌≡◌, refl, ap, sym, ◌∙◌}
use mathlib.Core.Bool.{Bool, true, false, cond, ◌||◌, false≢true}
use mathlib.Core.Option
use mathlib.Core.Option.{Option, none, some}
use mathlib.Core.List.{List, [], ◌∷◌, ◌++◌}
use lib.IntN.{ℤ, pos}
use lib.ListN.{length, get_or, drop, drop_of_length-le}
use lib.Dec.{eqb, leb}
use borrow.Author.Tests.{leb-true, eqb-true, eqb-false, eq-eqb, ne_eqb}
use Rattle.rules.specs.Limits.{bar_size}
use Rattle.rules.specs.Text.{among}
use Rattle.rules.specs.Values.{powers_of_two, is_power_of_two}
use Rattle.cards.specs.Fields.{stands, holds, every}
use Rattle.cards.specs.Card.{Head, head_tests, such_head}
use Rattle.cards.specs.Words.{key_words, head_words}
use Rattle.cards.specs.Judged.{raised, number_at, head_of, head_word_tests, such_head_words}
use Rattle.std.proofs.lemmas.Bool.{and_parts}
use Rattle.cards.proofs.FieldLaws.{All, all_hold}
use Rattle.cards.proofs.SuchLaws.{raised_of, raised-back, natural-back, heads-all}

-- ---- powers of two

among-small : (limit : ℕ) (ks : List ℕ) (n : ℕ) → every (λ k. leb k limit) ks ≡ true → among ks n ≡ true → n ≤ limit
unfolding every
among-small limit [] n h e = absurd (false≢true e)
among-small limit (k ∷ ks) n h e = let t = and_parts (leb k limit) (every (λ m. leb m limit) ks) h in go (eqb n k) refl e t.0 (λ g. among-small limit ks n t.1 g)
  where
    go : (b : Bool) → eqb n k ≡ b → (b || among ks n) ≡ true → leb k limit ≡ true → (among ks n ≡ true → n ≤ limit) → n ≤ limit
    go true g e s t = omega (arith, eqb-true n k g, leb-true k limit s)
    go false g e s t = t e

pub power_small : (n : ℕ) → is_power_of_two n ≡ true → n ≤ 128
unfolding every
power_small n e = among-small 128 powers_of_two n refl e

-- ---- what such a head's numbers are below

module _ (h : Head) (s : such_head h ≡ true) where
  facts : All (head_tests h)
  unfolding such_head
  facts = all_hold (head_tests h) s

  denominator-small : h.denominator ≤ 128
  denominator-small = go (stands h.numerator) facts.1.1.1.0
    where
      go : (b : Bool) → cond b (is_power_of_two h.denominator) (eqb h.denominator 0) ≡ true → h.denominator ≤ 128
      go true e = power_small h.denominator e
      go false e = omega (arith, eqb-true h.denominator 0 e)

  symbol-small : h.symbol ≤ 2
  symbol-small = go (stands h.numerator) facts.1.1.1.1.0
    where
      go : (b : Bool) → leb h.symbol (cond b 2 0) ≡ true → h.symbol ≤ 2
      go true e = leb-true h.symbol 2 e
      go false e = omega (arith, leb-true h.symbol 0 e)

  -- clef, key, numerator, denominator, symbol, left, right
  pub head-fits : (h.clef ≤ 8) × (Option.get_or h.key 0 ≤ 14) × (h.numerator ≤ 255) × (h.denominator ≤ 128) × (h.symbol ≤ 2) × (h.left ≤ 3) × (h.right ≤ 3)
  head-fits = (
    leb-true h.clef 8 facts.0,
    leb-true (Option.get_or h.key 0) 14 facts.1.0,
    leb-true h.numerator 255 facts.1.1.0,
    denominator-small,
    symbol-small,
    leb-true h.left 3 facts.1.1.1.1.1.0,
    leb-true h.right 3 facts.1.1.1.1.1.1.0,
  )

-- the same of its words: clef, numerator, denominator, symbol, left, right
pub head-words-fit : (w : List ℤ) → such_head (head_of w) ≡ true
    → (number_at w 2 ≤ 8) × (number_at w 5 ≤ 255) × (number_at w 6 ≤ 128) × (number_at w 7 ≤ 2) × (number_at w 8 ≤ 3) × (number_at w 9 ≤ 3)
unfolding head_of
head-words-fit w s = let f = head-fits (head_of w) s in (f.0, f.2, f.3, f.4, f.5, f.6)

-- and of fifths plus 7, where the key is set
pub key_fits : (w : List ℤ) → such_head (head_of w) ≡ true → (number_at w 3 ≡ 0 → ⊥) → raised 7 (get_or w 4 (pos 0)) ≤ 14
unfolding head_of
key_fits w s d =
    let k : Option.get_or (head_of w).key 0 ≤ 14 = (head-fits (head_of w) s).1 in
    let e : Option.get_or (head_of w).key 0 ≡ raised 7 (get_or w 4 (pos 0)) = rw (ne_eqb (number_at w 3) 0 d) in
    rw e at k

-- ---- from a head to its words and back

module _ (first count : ℕ) (h : Head) where
  pub length-head-words : length (head_words first count h) ≡ 10
  unfolding head_words
  length-head-words = go h.key
    where
      go : (k : Option ℕ) → length (pos first ∷ pos count ∷ pos h.clef ∷ key_words k ++ pos h.numerator ∷ pos h.denominator ∷ pos h.symbol ∷ pos h.left ∷ pos h.right ∷ []) ≡ 10
      go none = refl
      go (some k) = refl

  -- the words, whatever follows, with the key apart
  abbrev row : Option ℕ → List ℤ → List ℤ
  row k r = (pos first ∷ pos count ∷ pos h.clef ∷ key_words k ++ pos h.numerator ∷ pos h.denominator ∷ pos h.symbol ∷ pos h.left ∷ pos h.right ∷ []) ++ r

  pub head-of-words : (r : List ℤ) → head_of (head_words first count h ++ r) ≡ h
  unfolding head_words head_of
  head-of-words r = go h.key
    where
      go : (k : Option ℕ) → head_of (row k r) ≡ record { clef = h.clef; key = k; numerator = h.numerator; denominator = h.denominator; symbol = h.symbol; left = h.left; right = h.right }
      go none = refl
      go (some k) = rw (raised_of 7 k)

  key_set : (r : List ℤ) → leb (number_at (head_words first count h ++ r) 3) 1 ≡ true
  unfolding head_words
  key_set r = go h.key
    where
      go : (k : Option ℕ) → leb (number_at (row k r) 3) 1 ≡ true
      go none = refl
      go (some k) = refl

  key-clear : (r : List ℤ) → cond (eqb (number_at (head_words first count h ++ r) 3) 0) (eqb (number_at (head_words first count h ++ r) 4) 0) true ≡ true
  unfolding head_words
  key-clear r = go h.key
    where
      go : (k : Option ℕ) → cond (eqb (number_at (row k r) 3) 0) (eqb (number_at (row k r) 4) 0) true ≡ true
      go none = refl
      go (some k) = refl

  first-is : (r : List ℤ) → eqb (number_at (head_words first count h ++ r) 0) first ≡ true
  unfolding head_words
  first-is r = eq-eqb first first refl

  pub count-of-words : (r : List ℤ) → number_at (head_words first count h ++ r) 1 ≡ count
  unfolding head_words
  count-of-words r = refl

  -- such a head's words are judged such
  pub head-words-such : (r : List ℤ) → such_head h ≡ true → such_head_words first (head_words first count h ++ r) ≡ true
  unfolding such_head_words such_head holds
  head-words-such r s = rw (key-clear r, first-is r, key_set r, head-of-words r) s

-- ---- from words to the head

module _ (first : ℕ) (w : List ℤ) (judged : such_head_words first w ≡ true) where
  tests : All (head_word_tests first w)
  unfolding such_head_words
  tests = all_hold (head_word_tests first w) judged

  pub such-of-head-words : such_head (head_of w) ≡ true
  unfolding such_head such_head_words holds
  such-of-head-words = (and_parts (cond (eqb (number_at w 3) 0) (eqb (number_at w 4) 0) true) (holds (head_tests (head_of w))) (and_parts (leb (number_at w 3) 1) _ (and_parts (eqb (number_at w 0) first) _ judged).1).1).1

  pub first-of-words : number_at w 0 ≡ first
  first-of-words = eqb-true (number_at w 0) first tests.0

  key_back : (r : List ℤ) → key_words (head_of w).key ++ r ≡ get_or w 3 (pos 0) ∷ get_or w 4 (pos 0) ∷ r
  unfolding head_of
  key_back r = go (eqb (number_at w 3) 0) refl tests.1.1.0
    where
      go : (b : Bool) → eqb (number_at w 3) 0 ≡ b → cond b (eqb (number_at w 4) 0) true ≡ true → key_words (cond b none (some (raised 7 (get_or w 4 (pos 0))))) ++ r ≡ get_or w 3 (pos 0) ∷ get_or w 4 (pos 0) ∷ r
      go true e z =
          let a : number_at w 3 ≡ 0 = eqb-true (number_at w 3) 0 e in
          let b : number_at w 4 ≡ 0 = eqb-true (number_at w 4) 0 z in
          λ i. (sym (ap pos a) ∙ natural-back (get_or w 3 (pos 0)) (omega arith)) i ∷ (sym (ap pos b) ∙ natural-back (get_or w 4 (pos 0)) (omega arith)) i ∷ r
      go false e z =
          let l : number_at w 3 ≤ 1 = leb-true (number_at w 3) 1 tests.1.0 in
          let d = eqb-false (number_at w 3) 0 e in
          let a : 1 ≡ number_at w 3 = omega arith in
          let k : raised 7 (get_or w 4 (pos 0)) ≤ 14 = key_fits w such-of-head-words d in
          λ i. (ap pos a ∙ natural-back (get_or w 3 (pos 0)) (omega arith)) i ∷ raised-back 7 (get_or w 4 (pos 0)) (omega arith) i ∷ r

-- words that are judged such are those of such a head
pub head-words-back : (first : ℕ) (w : List ℤ) → length w ≡ bar_size → such_head_words first w ≡ true → first < 4294967295 → number_at w 1 < 4294967295 → head_words first (number_at w 1) (head_of w) ≡ w
unfolding head_words head_of
head-words-back first w sized judged small few =
    let f = head-words-fit w (such-of-head-words first w judged) in
    let e = first-of-words first w judged in
    let tail : drop 10 w ≡ [] = drop_of_length-le w {i = 10} (omega arith) in
    rw (← e)
    ((λ i. natural-back (get_or w 0 (pos 0)) (omega arith) i ∷ natural-back (get_or w 1 (pos 0)) few i ∷ natural-back (get_or w 2 (pos 0)) (omega arith) i
    ∷ key_back first w judged (natural-back (get_or w 5 (pos 0)) (omega arith) i ∷ natural-back (get_or w 6 (pos 0)) (omega arith) i ∷ natural-back (get_or w 7 (pos 0)) (omega arith) i ∷ natural-back (get_or w 8 (pos 0)) (omega arith) i ∷ natural-back (get_or w 9 (pos 0)) (omega arith) i ∷ []) i)
    ∙ (λ i. get_or w 0 (pos 0) ∷ get_or w 1 (pos 0) ∷ get_or w 2 (pos 0) ∷ get_or w 3 (pos 0) ∷ get_or w 4 (pos 0) ∷ get_or w 5 (pos 0) ∷ get_or w 6 (pos 0) ∷ get_or w 7 (pos 0) ∷ get_or w 8 (pos 0) ∷ get_or w 9 (pos 0) ∷ sym tail i)
    ∙ heads-all 10 w 0 (omega arith))
