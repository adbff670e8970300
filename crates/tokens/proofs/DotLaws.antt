-- Dots at the end of a digit token: behind a length three count. Assumes nothing.
use Rattle.std.specs.Prelude.{if◌then◌else◌, zero, suc, replicate, eqb}
use Rattle.std.specs.Cmp.Lexicographic.{pointwise}
use mathlib.Core.Bool.{false≢true}
use borrow.Author.Tests.{eqb-true}
use Rattle.std.proofs.Common.{◌≡◌, ℕ, ◌+◌, ◌-◌, ◌≤◌, length, take, drop, Bool, true, false, List, [], ◌∷◌, ◌++◌, refl, sym, ap, ◌∙◌, arith}
use Rattle.std.proofs.lemmas.Bool.{and_parts}
use Rattle.std.proofs.lemmas.List.{take-append-drop, length-take-le}
use Rattle.std.proofs.Math.Seq.{take-append-add}
use lib.ListN.{length-drop}
use Rattle.rules.specs.Text.{every}
use Rattle.rules.specs.Cut.{is_duration}
use Rattle.rules.specs.Values.{duration_of, capped, dots_at, pattern_of}
use Rattle.tokens.proofs.PatternLaws.{pattern_dots, pattern_nil}

abbrev pub three : List ℕ
three = 46 ∷ 46 ∷ 46 ∷ []

abbrev pub four : List ℕ
four = 46 ∷ three

-- one more of a run of three dots at least makes no difference
capped_more : (n m : ℕ) → capped n ≡ capped m → capped (1 + n) ≡ capped (1 + m)
capped_more n m e = grind (arith, e)

pub dots_fewer : (xs : List ℕ) → capped (dots_at (xs ++ four)) ≡ capped (dots_at (xs ++ three))
dots_fewer [] = refl
dots_fewer (x ∷ xs) = by (eqb x 46) (dots_fewer xs)
  where
    by : (t : Bool) → capped (dots_at (xs ++ four)) ≡ capped (dots_at (xs ++ three)) → capped (if t then 1 + dots_at (xs ++ four) else 0) ≡ capped (if t then 1 + dots_at (xs ++ three) else 0)
    by true e = capped_more (dots_at (xs ++ four)) (dots_at (xs ++ three)) e
    by false e = refl

pub lengths_fewer : (xs : List ℕ) → pattern_of (xs ++ four) ≡ pattern_of (xs ++ three)
unfolding pattern_of
lengths_fewer [] = refl
lengths_fewer (x ∷ xs) = by (eqb x 46) (dots_fewer xs) (lengths_fewer xs)
  where
    by : (t : Bool) → capped (dots_at (xs ++ four)) ≡ capped (dots_at (xs ++ three)) → pattern_of (xs ++ four) ≡ pattern_of (xs ++ three)
        → (if t then pattern_of (xs ++ four) else record { duration = duration_of x; dots = capped (dots_at (xs ++ four)) } ∷ pattern_of (xs ++ four))
        ≡ (if t then pattern_of (xs ++ three) else record { duration = duration_of x; dots = capped (dots_at (xs ++ three)) } ∷ pattern_of (xs ++ three))
    by true d e = e
    by false d e = λ i. record { duration = duration_of x; dots = d i } ∷ e i

pub whole_fewer : (xs : List ℕ) → every is_duration (xs ++ four) ≡ true → every is_duration (xs ++ three) ≡ true
whole_fewer [] h = refl
whole_fewer (x ∷ xs) h = let p = and_parts (is_duration x) (every is_duration (xs ++ four)) h in rw (p.0, whole_fewer xs p.1) refl

-- the first ones of a run of dots
first_dots : (n : ℕ) (ts : List ℕ) → n ≤ dots_at ts → take n ts ≡ replicate n 46
first_dots zero ts h = refl
first_dots (suc n) [] h = absurd (omega (arith, h))
first_dots (suc n) (t ∷ ts) h = by (eqb t 46) refl h (first_dots n ts)
  where
    by : (u : Bool) → eqb t 46 ≡ u → suc n ≤ (if u then 1 + dots_at ts else 0) → (n ≤ dots_at ts → take n ts ≡ replicate n 46) → t ∷ take n ts ≡ 46 ∷ replicate n 46
    by true e k r = λ i. eqb-true t 46 e i ∷ r (omega (arith, k)) i
    by false e k r = absurd (omega (arith, k))

-- a text that ends in so many dots, three at least, and the same with three
module _ (xs : List ℕ) (n k : ℕ) (three_of : 3 ≤ n) (within : n ≤ length xs) (few : k ≡ length xs - n + 3) (e : dots_at (drop (length xs - n) xs) ≡ n) where
  abbrev ts : List ℕ
  ts = drop (length xs - n) xs

  size : length ts ≡ n
  size = omega (arith, length-drop (length xs - n) xs, within)

  dots : 3 ≤ dots_at ts
  dots = omega (arith, e, three_of)

  none : pattern_of ts ≡ []
  none = pattern_dots ts ∙ pattern_nil (drop (dots_at ts) ts) (omega (arith, length-drop (dots_at ts) ts, size, e))

  dots_cut : (zs : List ℕ) → capped (dots_at (zs ++ ts)) ≡ capped (dots_at (zs ++ three))
  dots_cut [] = grind (arith, dots)
  dots_cut (z ∷ zs) = by (eqb z 46) (dots_cut zs)
    where
      by : (t : Bool) → capped (dots_at (zs ++ ts)) ≡ capped (dots_at (zs ++ three)) → capped (if t then 1 + dots_at (zs ++ ts) else 0) ≡ capped (if t then 1 + dots_at (zs ++ three) else 0)
      by true r = capped_more (dots_at (zs ++ ts)) (dots_at (zs ++ three)) r
      by false r = refl

  lengths_cut : (zs : List ℕ) → pattern_of (zs ++ ts) ≡ pattern_of (zs ++ three)
  unfolding pattern_of
  lengths_cut [] = none
  lengths_cut (z ∷ zs) = by (eqb z 46) (dots_cut zs) (lengths_cut zs)
    where
      by : (t : Bool) → capped (dots_at (zs ++ ts)) ≡ capped (dots_at (zs ++ three)) → pattern_of (zs ++ ts) ≡ pattern_of (zs ++ three)
          → (if t then pattern_of (zs ++ ts) else record { duration = duration_of z; dots = capped (dots_at (zs ++ ts)) } ∷ pattern_of (zs ++ ts))
          ≡ (if t then pattern_of (zs ++ three) else record { duration = duration_of z; dots = capped (dots_at (zs ++ three)) } ∷ pattern_of (zs ++ three))
      by true d r = r
      by false d r = λ i. record { duration = duration_of z; dots = d i } ∷ r i

  whole_cut : (zs : List ℕ) → every is_duration (zs ++ ts) ≡ true → every is_duration (zs ++ three) ≡ true
  whole_cut [] h = refl
  whole_cut (z ∷ zs) h = let p = and_parts (is_duration z) (every is_duration (zs ++ ts)) h in rw (p.0, whole_cut zs p.1) refl

  with_all : xs ≡ take (length xs - n) xs ++ ts
  with_all = sym (take-append-drop (length xs - n) xs)

  with_few : take k xs ≡ take (length xs - n) xs ++ three
  with_few =
      let a = take (length xs - n) xs in
      let same : k ≡ length a + 3 = let l = length-take-le (length xs - n) xs (omega arith) in omega (arith, l, few) in
      ap (λ (m : ℕ). take m xs) same ∙ ap (λ (l : List ℕ). take (length a + 3) l) with_all ∙ take-append-add a ts 3 ∙ ap (λ (l : List ℕ). a ++ l) (first_dots 3 ts dots)

  pub cut_whole : every is_duration xs ≡ true → every is_duration (take k xs) ≡ true
  cut_whole h = ap (every is_duration) with_few ∙ whole_cut (take (length xs - n) xs) (ap (every is_duration) (sym with_all) ∙ h)

  pub cut_dots : capped (dots_at (take k xs)) ≡ capped (dots_at xs)
  cut_dots = ap (λ (l : List ℕ). capped (dots_at l)) with_few ∙ sym (dots_cut (take (length xs - n) xs)) ∙ ap (λ (l : List ℕ). capped (dots_at l)) (sym with_all)

  pub cut_lengths : pattern_of (take k xs) ≡ pattern_of xs
  cut_lengths = ap pattern_of with_few ∙ sym (lengths_cut (take (length xs - n) xs)) ∙ ap pattern_of (sym with_all)

-- a text that ends in four dots, and the same without the last
module _ (xs : List ℕ) (e : drop (length xs - 4) xs ≡ four) where
  four_long : 4 ≤ length xs
  four_long = let l = length-drop (length xs - 4) xs in let n = ap length e in omega (arith, l, n)

  pub with_four : xs ≡ take (length xs - 4) xs ++ four
  with_four = sym (take-append-drop (length xs - 4) xs) ∙ ap (λ (l : List ℕ). take (length xs - 4) xs ++ l) e

  pub with_three : take (length xs - 1) xs ≡ take (length xs - 4) xs ++ three
  with_three =
      let a = take (length xs - 4) xs in
      let n : length xs - 1 ≡ length a + 3 = let l = length-take-le (length xs - 4) xs (omega arith) in omega (arith, l, four_long) in
      ap (λ (k : ℕ). take k xs) n ∙ ap (λ (l : List ℕ). take (length a + 3) l) with_four ∙ take-append-add a four 3

-- the end of a text, by std's test
pub ends_in : (ks xs : List ℕ) → pointwise eqb ks xs ≡ true → xs ≡ ks
ends_in [] [] h = refl
ends_in [] (x ∷ xs) h = absurd (false≢true h)
ends_in (k ∷ ks) [] h = absurd (false≢true h)
ends_in (k ∷ ks) (x ∷ xs) h = let p = and_parts (eqb k x) (pointwise eqb ks xs) h in λ i. sym (eqb-true k x p.0) i ∷ ends_in ks xs p.1 i
