-- Of a well-formed text, what `rules` calls a character is one of the standard's table: the size is its row's, it counts as one, and what follows is well-formed.
-- Cut where a character begins, a well-formed text is well-formed on both sides. Assumes nothing.
use Prim.Native.Nat.{ℕ, zero, suc, ◌+◌, ◌-◌, ◌<◌, ◌≤◌}
use mathlib.Core.Path.{◌≡◌, refl, sym, ap, ◌∙◌, subst}
use mathlib.Core.Bool.{Bool, true, false, cond, ◌&&◌, and-false, false≢true}
use mathlib.Core.List.{List, [], ◌∷◌}
use native.Mathlib.Omega.{arith}
use borrow.Author.Tests.{leb-true, ltb-true, le-leb, lt-leb, lt-ltb}
use lib.Dec.{leb, ltb}
use lib.ListN.{length, get_or, take, drop}
use lib.Seq.{get_or-drop}
use Rattle.rules.specs.Text.{run_length}
use Rattle.rules.specs.Characters.{Range, within, rows, fits, first_fit, formed_size, formed_after, is_formed, continues, character_size, characters_in}
use Rattle.theorems.proofs.Lists.{both_true}

-- ---- rows: one byte below 128, or one from 192 on and others that continue it

abbrev in_tail : List Range → Bool
in_tail [] = true
in_tail (r ∷ rs) = leb 128 r.0 && leb r.1 191 && in_tail rs

abbrev is_row : List Range → Bool
is_row [] = false
is_row (r ∷ []) = leb r.1 127
is_row (r ∷ s ∷ rs) = leb 192 r.0 && in_tail (s ∷ rs)

abbrev are_rows : List (List Range) → Bool
are_rows [] = true
are_rows (r ∷ rs) = is_row r && are_rows rs

within-true : (r : Range) (b : ℕ) → within r b ≡ true → (r.0 ≤ b) × (b ≤ r.1)
within-true r b e = let h = both_true (leb r.0 b) (leb b r.1) e in (leb-true r.0 b h.0, leb-true b r.1 h.1)

continuing : (b : ℕ) → 128 ≤ b → b ≤ 191 → continues b ≡ true
continuing b p q = rw (le-leb 128 b p, le-leb b 191 q)

pub not_low : (b : ℕ) → b < 128 → continues b ≡ false
not_low b p = rw (lt-leb 128 b p)

not-high : (b : ℕ) → 192 ≤ b → continues b ≡ false
not-high b p = rw (lt-leb b 191 (omega (arith, p))) (and-false (leb 128 b))

-- the first n bytes continue a character
abbrev Tails : ℕ → List ℕ → Type 0
Tails zero xs = Unit {0}
Tails (suc n) [] = ⊥
Tails (suc n) (x ∷ xs) = (continues x ≡ true) × Tails n xs

tails-fit : (rs : List Range) (xs : List ℕ) → in_tail rs ≡ true → fits rs xs ≡ true → Tails (length rs) xs
tails-fit [] xs t e = tt
tails-fit (r ∷ rs) [] t e = absurd (false≢true e)
tails-fit (r ∷ rs) (x ∷ xs) t e =
    let h = both_true (within r x) (fits rs xs) e in
    let b = within-true r x h.0 in
    let c = both_true (leb 128 r.0 && leb r.1 191) (in_tail rs) t in
    let d = both_true (leb 128 r.0) (leb r.1 191) c.0 in
    (continuing x (omega (arith, leb-true 128 r.0 d.0, b.0)) (omega (arith, leb-true r.1 191 d.1, b.1)), tails-fit rs xs c.1 h.1)

-- a character of n bytes stands at the start of a text
record Begins (n x : ℕ) (xs : List ℕ) : Type 0 where
  some : 0 < n
  starts : continues x ≡ false
  low : x < 128 → n ≡ 1
  tails : Tails (n - 1) xs

row-begins : (r : List Range) (x : ℕ) (xs : List ℕ) → is_row r ≡ true → fits r (x ∷ xs) ≡ true → Begins (length r) x xs
row-begins [] x xs g e = absurd (false≢true g)
row-begins (r ∷ []) x xs g e =
    let p : x < 128 = omega (arith, leb-true r.1 127 g, (within-true r x (both_true (within r x) true e).0).1) in
    record { some = omega arith; starts = not_low x p; low = λ h. refl; tails = tt }
row-begins (r ∷ s ∷ rs) x xs g e =
    let c = both_true (leb 192 r.0) (in_tail (s ∷ rs)) g in
    let h = both_true (within r x) (fits (s ∷ rs) xs) e in
    let p : 192 ≤ x = omega (arith, leb-true 192 r.0 c.0, (within-true r x h.0).0) in
    let n : length (s ∷ rs) ≡ length (r ∷ s ∷ rs) - 1 = omega arith in
    record { some = omega arith; starts = not-high x p; low = λ l. let z : ⊥ = omega (arith, p, l) in absurd z; tails = subst (λ m. Tails m xs) n (tails-fit (s ∷ rs) xs c.1 h.1) }

first-begins : (rs : List (List Range)) (x : ℕ) (xs : List ℕ) → are_rows rs ≡ true → 0 < first_fit rs (x ∷ xs) → Begins (first_fit rs (x ∷ xs)) x xs
first-begins [] x xs g h = let z : ⊥ = omega (arith, h) in absurd z
first-begins (r ∷ rs) x xs g h = let c = both_true (is_row r) (are_rows rs) g in at c.0 (fits r (x ∷ xs)) refl h (λ k. first-begins rs x xs c.1 k)
  where
    at : is_row r ≡ true → (t : Bool) → fits r (x ∷ xs) ≡ t → 0 < cond t (length r) (first_fit rs (x ∷ xs)) → (0 < first_fit rs (x ∷ xs) → Begins (first_fit rs (x ∷ xs)) x xs) → Begins (cond t (length r) (first_fit rs (x ∷ xs))) x xs
    at c true e h k = row-begins r x xs c e
    at c false e h k = k h

-- ---- the character at the start of a well-formed text

form-skip : (j : ℕ) (xs : List ℕ) → formed_after j xs ≡ is_formed (drop j xs)
unfolding formed_after
form-skip zero xs = refl
form-skip (suc j) [] = refl
form-skip (suc j) (x ∷ xs) = form-skip j xs

-- a well-formed text begins with a row's character, and goes on well-formed behind it
form-first : (x : ℕ) (xs : List ℕ) → is_formed (x ∷ xs) ≡ true → Begins (formed_size (x ∷ xs)) x xs × (formed_after (formed_size (x ∷ xs) - 1) xs ≡ true)
unfolding formed_size formed_after
form-first x xs e =
    let h = both_true (ltb 0 (formed_size (x ∷ xs))) (formed_after (formed_size (x ∷ xs) - 1) xs) e in
    (first-begins rows x xs refl (ltb-true 0 (formed_size (x ∷ xs)) h.0), h.1)

pub head-begins : (xs : List ℕ) → is_formed xs ≡ true → continues (get_or xs 0 0) ≡ false
head-begins [] e = refl
head-begins (x ∷ xs) e = (form-first x xs e).0.starts

-- n bytes continue, and the next one doesn't
run_is : (n : ℕ) (xs : List ℕ) → Tails n xs → continues (get_or xs n 0) ≡ false → run_length continues xs ≡ n
run_is zero [] t f = refl
run_is zero (x ∷ xs) t f = rw f
run_is (suc n) [] t f = absurd t
run_is (suc n) (x ∷ xs) t f = rw (t.0, run_is n xs t.1 f) (omega arith)

count-tails : (n : ℕ) (xs : List ℕ) → Tails n xs → characters_in (take n xs) ≡ 0
unfolding characters_in
count-tails zero xs t = refl
count-tails (suc n) [] t = absurd t
count-tails (suc n) (x ∷ xs) t = rw (t.0, count-tails n xs t.1) refl

size_is : (n x : ℕ) (xs : List ℕ) → Begins n x xs → continues (get_or xs (n - 1) 0) ≡ false → character_size (x ∷ xs) ≡ n
unfolding character_size
size_is n x xs b f = at (ltb x 128) refl
  where
    at : (t : Bool) → ltb x 128 ≡ t → cond t 1 (1 + run_length continues xs) ≡ n
    at true e = sym (b.low (ltb-true x 128 e))
    at false e = rw (run_is (n - 1) xs b.tails f) (omega (arith, b.some))

-- the character at the start of a well-formed text is the standard's; it counts as one; what follows is well-formed
pub record Character (xs : List ℕ) : Type 0 where
  pub sized : character_size xs ≡ formed_size xs
  pub counted : characters_in (take (character_size xs) xs) ≡ 1
  pub goes_on : is_formed (drop (character_size xs) xs) ≡ true

pub character : (x : ℕ) (xs : List ℕ) → is_formed (x ∷ xs) ≡ true → Character (x ∷ xs)
unfolding characters_in
character x xs e =
    let h = form-first x xs e in
    let n : ℕ = formed_size (x ∷ xs) in
    let on : is_formed (drop (n - 1) xs) ≡ true = sym (form-skip (n - 1) xs) ∙ h.1 in
    let next : continues (get_or xs (n - 1) 0) ≡ false = ap continues (sym (get_or-drop (n - 1) xs 0 0 ∙ ap (λ k. get_or xs k 0) (add-zero (n - 1)))) ∙ head-begins (drop (n - 1) xs) on in
    let size : character_size (x ∷ xs) ≡ n = size_is n x xs h.0 next in
    let count : n ≡ suc (n - 1) = omega (arith, h.0.some) in
    record {
      sized = size;
      counted = ap (λ k. characters_in (take k (x ∷ xs))) (size ∙ count) ∙ rw (h.0.starts, count-tails (n - 1) xs h.0.tails) refl;
      goes_on = ap (λ k. is_formed (drop k (x ∷ xs))) (size ∙ count) ∙ on;
    }
  where
    add-zero : (n : ℕ) → n + 0 ≡ n
    add-zero n = omega arith

-- ---- cut where a character begins

fits_more : (r : List Range) (k : ℕ) (xs : List ℕ) → fits r (take k xs) ≡ true → fits r xs ≡ true
fits_more [] k xs e = refl
fits_more (r ∷ rs) zero xs e = absurd (false≢true e)
fits_more (r ∷ rs) (suc k) [] e = e
fits_more (r ∷ rs) (suc k) (x ∷ xs) e = let h = both_true (within r x) (fits rs (take k xs)) e in rw (h.0, fits_more rs k xs h.1)

fits_cut : (r : List Range) (k : ℕ) (xs : List ℕ) → length r ≤ k → fits r (take k xs) ≡ fits r xs
fits_cut [] k xs h = refl
fits_cut (r ∷ rs) zero xs h = let z : ⊥ = omega (arith, h) in absurd z
fits_cut (r ∷ rs) (suc k) [] h = refl
fits_cut (r ∷ rs) (suc k) (x ∷ xs) h = ap (λ t. within r x && t) (fits_cut rs k xs (omega (arith, h)))

-- the same row fits what holds its bytes
first-cut : (rs : List (List Range)) (k : ℕ) (xs : List ℕ) → first_fit rs xs ≤ k → 0 < first_fit rs xs → first_fit rs (take k xs) ≡ first_fit rs xs
first-cut [] k xs l h = refl
first-cut (r ∷ rs) k xs l h = at (fits r xs) refl l h (λ l h. first-cut rs k xs l h)
  where
    misses : (t : Bool) → fits r (take k xs) ≡ t → fits r xs ≡ false → t ≡ false
    misses true e f = absurd (false≢true (sym f ∙ fits_more r k xs e))
    misses false e f = refl

    at : (t : Bool) → fits r xs ≡ t → cond t (length r) (first_fit rs xs) ≤ k → 0 < cond t (length r) (first_fit rs xs) → (first_fit rs xs ≤ k → 0 < first_fit rs xs → first_fit rs (take k xs) ≡ first_fit rs xs)
        → cond (fits r (take k xs)) (length r) (first_fit rs (take k xs)) ≡ cond t (length r) (first_fit rs xs)
    at true e l h c = rw (fits_cut r k xs l ∙ e)
    at false e l h c = rw (misses (fits r (take k xs)) refl e) (c l h)

tails-till : (n k : ℕ) (xs : List ℕ) → Tails n xs → continues (get_or xs k 0) ≡ false → n ≤ k
tails-till zero k xs t f = omega arith
tails-till (suc n) k [] t f = absurd t
tails-till (suc n) zero (x ∷ xs) t f = absurd (false≢true (sym f ∙ t.0))
tails-till (suc n) (suc k) (x ∷ xs) t f = omega (arith, tails-till n k xs t.1 f)

size-cut : (k x : ℕ) (xs : List ℕ) → formed_size (x ∷ xs) ≤ suc k → 0 < formed_size (x ∷ xs) → formed_size (x ∷ take k xs) ≡ formed_size (x ∷ xs)
unfolding formed_size
size-cut k x xs l h = first-cut rows (suc k) (x ∷ xs) l h

cut-after : (skip k : ℕ) (xs : List ℕ) → formed_after skip xs ≡ true → Tails skip xs → continues (get_or xs k 0) ≡ false → (formed_after skip (take k xs) ≡ true) × (is_formed (drop k xs) ≡ true)
unfolding formed_after
cut-after skip zero [] e t f = (refl, refl)
cut-after skip (suc k) [] e t f = (refl, refl)
cut-after zero zero (x ∷ xs) e t f = (refl, e)
cut-after (suc skip) zero (x ∷ xs) e t f = absurd (false≢true (sym f ∙ t.0))
cut-after (suc skip) (suc k) (x ∷ xs) e t f = cut-after skip k xs e t.1 f
cut-after zero (suc k) (x ∷ xs) e t f =
    let h = form-first x xs e in
    let n : ℕ = formed_size (x ∷ xs) in
    let c = cut-after (n - 1) k xs h.1 h.0.tails f in
    let s : formed_size (x ∷ take k xs) ≡ n = size-cut k x xs (omega (arith, tails-till (n - 1) k xs h.0.tails f)) h.0.some in
    (rw (s, lt-ltb 0 n h.0.some) c.0, c.1)

-- cut before a byte that continues no character, or at the end
pub cut-formed : (k : ℕ) (xs : List ℕ) → is_formed xs ≡ true → continues (get_or xs k 0) ≡ false → (is_formed (take k xs) ≡ true) × (is_formed (drop k xs) ≡ true)
cut-formed k xs e f = cut-after 0 k xs e tt f

-- a byte below 128 is a character
pub low-on : (x : ℕ) (xs : List ℕ) → x < 128 → is_formed (x ∷ xs) ≡ true → is_formed xs ≡ true
low-on x xs h e = let n : 0 ≡ formed_size (x ∷ xs) - 1 = omega (arith, (form-first x xs e).0.low h) in ap (λ k. formed_after k xs) n ∙ (form-first x xs e).1
