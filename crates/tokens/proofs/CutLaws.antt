-- A token is cut off the start.
use Rattle.std.specs.Prelude.{if◌then◌else◌, eqb}
use Rattle.std.proofs.Common.{◌≡◌, ℕ, zero, suc, ◌+◌, ◌-◌, ◌≤◌, ◌&&◌, Bool, true, false, List, [], ◌∷◌, length, take, drop, refl, sym, ap, ◌∙◌, arith}
use native.Mathlib.Numerals.{one-add}
use mathlib.Core.Bool.{false≢true}
use Rattle.std.proofs.lemmas.Bool.{and_parts}
use Rattle.std.proofs.lemmas.Bool.Decides.{nat_tests}
use Rattle.rules.specs.Text.{bytes, among, is_digit, run_length, every, begins}
use Rattle.rules.specs.Characters.{begun, characters_in}
use Rattle.rules.specs.Cut.{token_size, is_duration}
use Rattle.rules.specs.Tokens.{Item, item_at, items_after, token_of}
use Rattle.tokens.specs.Whole.{is_whole}

-- a text is as long as what it begins with, or longer
pub begins_within : (ks xs : List ℕ) → begins ks xs ≡ true → length ks ≤ length xs
begins_within [] xs e = omega arith
begins_within (k ∷ ks) [] e = absurd (false≢true e)
begins_within (k ∷ ks) (x ∷ xs) e = omega (arith, begins_within ks xs (and_parts (eqb x k) (begins ks xs) e).1)

none_more : (n : ℕ) → n ≡ n + 0
none_more n = omega arith

one_more : (n j : ℕ) → n + 1 + j ≡ n + suc j
one_more n j = omega arith

-- skipping bytes is dropping them, with the characters that they begin
items_skip : (j p o : ℕ) (xs : List ℕ) (e : List Item) → items_after j p o xs e ≡ items_after 0 (p + characters_in (take j xs)) (o + j) (drop j xs) e
unfolding items_after characters_in
items_skip zero p o xs e = λ i. items_after 0 (none_more p i) (none_more o i) xs e
items_skip (suc j) p o [] e = refl
items_skip (suc j) p o (x ∷ xs) e = items_skip j (p + begun x) (o + 1) xs e ∙ (λ i. items_after 0 (place i) (one_more o j i) (drop j xs) e)
  where
    place : p + begun x + characters_in (take j xs) ≡ p + (begun x + characters_in (take j xs))
    place = omega arith

pub items_nil : (p o : ℕ) (xs : List ℕ) (e : List Item) → length xs ≡ 0 → items_after 0 p o xs e ≡ e
unfolding items_after
items_nil p o [] e h = refl
items_nil p o (x ∷ xs) e h = absurd (omega (arith, h))

-- one token is one element more
pub items_cut : (p o n : ℕ) (b : ℕ) (bs : List ℕ) (e : List Item) → suc n ≡ token_size (b ∷ bs)
    → items_after 0 p o (b ∷ bs) e ≡ items_after 0 (p + 1 + characters_in (take n bs)) (o + suc n) (drop n bs) ((record { place = p; offset = o; size = suc n; token = token_of b (take n bs) }) ∷ e)
unfolding items_after item_at
items_cut p o n b bs e h =
    let less : token_size (b ∷ bs) - 1 ≡ n = omega (arith, h) in
    let sum : o + 1 + n ≡ o + suc n = omega arith in
    (λ i. items_after (less i) (p + 1) (o + 1) bs ((record { place = p; offset = o; size = sym h i; token = token_of b (take (less i) bs) }) ∷ e))
    ∙ items_skip n (p + 1) (o + 1) bs ((record { place = p; offset = o; size = suc n; token = token_of b (take n bs) }) ∷ e)
    ∙ (λ i. items_after 0 (p + 1 + characters_in (take n bs)) (sum i) (drop n bs) ((record { place = p; offset = o; size = suc n; token = token_of b (take n bs) }) ∷ e))

-- a run is a run throughout
every_run : (p : ℕ → Bool) (xs : List ℕ) → every p (take (run_length p xs) xs) ≡ true
every_run p [] = refl
every_run p (x ∷ xs) = by (p x) refl (every_run p xs)
  where
    by : (t : Bool) → p x ≡ t → every p (take (run_length p xs) xs) ≡ true → every p (take (if t then 1 + run_length p xs else 0) (x ∷ xs)) ≡ true
    by true e h = rw one-add (ap (λ (u : Bool). u && every p (take (run_length p xs) xs)) e ∙ h)
    by false e h = refl

digit_size : (b : ℕ) (bs : List ℕ) → is_digit b ≡ true → token_size (b ∷ bs) ≡ 1 + run_length is_duration bs
unfolding token_size
digit_size b bs d = let none : among (bytes "',xb") b ≡ false = grind (arith, nat_tests, d) in rw (none, d)

-- a token is whole
pub whole_cut : (b : ℕ) (bs : List ℕ) (n : ℕ) → suc n ≡ token_size (b ∷ bs) → is_whole b (take n bs) ≡ true
whole_cut b bs n h = by (is_digit b) refl
  where
    by : (t : Bool) → is_digit b ≡ t → (if t then every is_duration (take n bs) else true) ≡ true
    by true e = let same : n ≡ run_length is_duration bs = omega (arith, h, digit_size b bs e) in ap (λ (k : ℕ). every is_duration (take k bs)) same ∙ every_run is_duration bs
    by false e = refl
