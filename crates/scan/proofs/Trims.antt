-- Laws of blanks at the start, of non-blanks, and of trimming from the end a byte at a time.
use Rattle.std.specs.Prelude.{if◌then◌else◌}
use Rattle.std.proofs.Common.{◌≡◌, ℕ, zero, suc, ◌+◌, ◌-◌, ◌<◌, ◌≤◌, Bool, true, false, List, [], ◌∷◌, ◌++◌, length, get_or, take, drop, refl, sym, ap, ◌∙◌, arith, length-drop, drop-cons, add-one}
use native.Mathlib.Numerals.{one-add}
use Rattle.std.specs.Prelude.{◌&&◌, eqb, not}
use mathlib.Core.Bool.{and-false, false≢true}
use lib.Dec.{eqb-zero-suc, eqb-suc-suc}
use lib.ListN.{drop_of_length-le}
use lib.Seq.{take-add, take-nil, take_all}
use Rattle.rules.specs.Characters.{continues, character_size, is_blank, in_blank, blanks_size, all_blank, non_blanks_size, trim_end}

-- the part from an offset to the end
pub part_to_end : (xs : List ℕ) (a : ℕ) → take (length xs - a) (drop a xs) ≡ drop a xs
part_to_end xs a = take_all (length xs - a) (drop a xs) (omega (arith, length-drop a xs))

-- ---- blanks at the start

pub blank_within : (xs : List ℕ) (i : ℕ) → in_blank (drop i xs) ≡ true → i < length xs
blank_within [] zero t = absurd (false≢true t)
blank_within [] (suc i) t = absurd (false≢true t)
blank_within (x ∷ xs) zero t = omega arith
blank_within (x ∷ xs) (suc i) t = omega (arith, blank_within xs i t)

module _ (xs : List ℕ) (i : ℕ) where
  pub blanks_more : i < length xs → in_blank (drop i xs) ≡ true → blanks_size (drop i xs) ≡ 1 + blanks_size (drop (i + 1) xs)
  blanks_more h t = let e = drop-cons xs i 0 h in ap blanks_size e ∙ rw (sym (ap in_blank e) ∙ t, add-one)

-- the first byte that is in no blank, or the end
pub blanks_stop : (xs : List ℕ) → in_blank xs ≡ false → blanks_size xs ≡ 0
blanks_stop [] t = refl
blanks_stop (x ∷ xs) t = rw t

pub blanks_all : (xs : List ℕ) → eqb (blanks_size xs) (length xs) ≡ all_blank xs
blanks_all [] = refl
blanks_all (x ∷ xs) = at (in_blank (x ∷ xs)) (blanks_all xs)
  where
    at : (t : Bool) → eqb (blanks_size xs) (length xs) ≡ all_blank xs → eqb (if t then 1 + blanks_size xs else 0) (suc (length xs)) ≡ (t && all_blank xs)
    at true h = rw (one-add, eqb-suc-suc) h
    at false h = eqb-zero-suc (length xs)

-- ---- non-blanks

pub non_blanks_more : (n i : ℕ) (b : ℕ) (bs : List ℕ) → i < n → is_blank (b ∷ bs) ≡ false
    → non_blanks_size (n - i) (b ∷ bs) ≡ character_size (b ∷ bs) + non_blanks_size (n - (i + 1)) (drop (character_size (b ∷ bs)) (b ∷ bs))
unfolding non_blanks_size
non_blanks_more n i b bs h f = let e : n - i ≡ suc (n - (i + 1)) = omega (arith, h) in rw (e, f) refl

pub non_blanks_stop : (n : ℕ) (b : ℕ) (bs : List ℕ) → is_blank (b ∷ bs) ≡ true → non_blanks_size n (b ∷ bs) ≡ 0
unfolding non_blanks_size
non_blanks_stop zero b bs t = refl
non_blanks_stop (suc n) b bs t = rw t refl

pub non_blanks_end : (n : ℕ) (xs : List ℕ) → length xs ≡ 0 → non_blanks_size n xs ≡ 0
unfolding non_blanks_size
non_blanks_end zero xs h = refl
non_blanks_end (suc n) [] h = refl
non_blanks_end (suc n) (x ∷ xs) h = absurd (omega (arith, h))

pub non_blanks_all : (n i : ℕ) (xs : List ℕ) → n ≤ i → non_blanks_size (n - i) xs ≡ 0
unfolding non_blanks_size
non_blanks_all n i xs h = let e : n - i ≡ 0 = omega (arith, h) in rw e refl

-- ---- trimming from the end

-- from `at` on all is blank, and the text from there is cut at `end`
pub record TrimmedFrom (xs : List ℕ) (at end : ℕ) : Type 0 where
  pub order : at ≤ end
  pub within : end ≤ length xs
  pub blank : all_blank (drop at xs) ≡ true
  pub cut : trim_end (drop at xs) ≡ take (end - at) (drop at xs)

blank_cons : (xs : List ℕ) (at : ℕ) → at < length xs → in_blank (drop at xs) ≡ true → all_blank (drop (at + 1) xs) ≡ true → all_blank (drop at xs) ≡ true
blank_cons xs at h t a = let e = drop-cons xs at 0 h in ap all_blank e ∙ rw (sym (ap in_blank e) ∙ t, sym (ap (λ (k : ℕ). all_blank (drop k xs)) (add-one at)) ∙ a)

head_cut : (b : ℕ) (bs : List ℕ) → continues b ≡ false → all_blank (b ∷ bs) ≡ true → trim_end (b ∷ bs) ≡ []
head_cut b bs f c = ap (λ (t : Bool). if not t && all_blank (b ∷ bs) then [] else b ∷ trim_end bs) f ∙ ap (λ (t : Bool). if t then [] else b ∷ trim_end bs) c

module _ (xs : List ℕ) (at end : ℕ) (h : at < length xs) (t : in_blank (drop at xs) ≡ true) (w : TrimmedFrom xs (at + 1) end) where
  -- a byte that continues a blank
  pub more_tail : continues (get_or xs at 0) ≡ true → TrimmedFrom xs at end
  more_tail f = record {
    order = omega (arith, w.order);
    within = w.within;
    blank = blank_cons xs at h t w.blank;
    cut = let e : drop at xs ≡ get_or xs at 0 ∷ drop (at + 1) xs = drop-cons xs at 0 h ∙ ap (λ (k : ℕ). get_or xs at 0 ∷ drop k xs) (sym (add-one at)) in
        let n : end - at ≡ suc (end - (at + 1)) = omega (arith, w.order) in
        rw (e, n, f) (ap (λ (l : List ℕ). get_or xs at 0 ∷ l) w.cut);
  }

  -- a byte that begins one
  pub more_head : continues (get_or xs at 0) ≡ false → TrimmedFrom xs at at
  more_head f = let b = blank_cons xs at h t w.blank in record {
    order = omega arith;
    within = omega (arith, h);
    blank = b;
    cut = let e : drop at xs ≡ get_or xs at 0 ∷ drop (at + 1) xs = drop-cons xs at 0 h ∙ ap (λ (k : ℕ). get_or xs at 0 ∷ drop k xs) (sym (add-one at)) in
        let n : at - at ≡ 0 = omega arith in
        let c : all_blank (get_or xs at 0 ∷ drop (at + 1) xs) ≡ true = sym (ap all_blank e) ∙ b in
        rw (e, n) (head_cut (get_or xs at 0) (drop (at + 1) xs) f c);
  }

not_blank : (k : ℕ) (xs : List ℕ) → all_blank (drop k xs) ≡ false → all_blank xs ≡ false
not_blank zero xs f = f
not_blank (suc k) [] f = f
not_blank (suc k) (x ∷ xs) f = rw (not_blank k xs f) (and-false (in_blank (x ∷ xs)))

-- up to a byte that is in no blank all stays
front : (k : ℕ) (xs : List ℕ) → k < length xs → all_blank (drop k xs) ≡ false → trim_end xs ≡ take (suc k) xs ++ trim_end (drop (suc k) xs)
front k [] h f = absurd (omega (arith, h))
front zero (x ∷ xs) h f = rw (f, and-false (not (continues x)))
front (suc k) (x ∷ xs) h f = rw (not_blank (suc k) (x ∷ xs) f, and-false (not (continues x))) (ap (λ (l : List ℕ). x ∷ l) (front k xs (omega (arith, h)) f))

first_not : (xs : List ℕ) → in_blank xs ≡ false → 0 < length xs → all_blank xs ≡ false
first_not [] f h = absurd (omega (arith, h))
first_not (x ∷ xs) f h = rw f

pub ends_stop : (xs : List ℕ) (at end : ℕ) → TrimmedFrom xs at end → 0 < at → in_blank (drop (at - 1) xs) ≡ false → take end xs ≡ trim_end xs
ends_stop xs at end w l f =
    let k = at - 1 in
    let e : suc k ≡ at = omega (arith, l) in
    let within : k < length xs = omega (arith, w.order, w.within, l) in
    let c : trim_end (drop (suc k) xs) ≡ take (end - suc k) (drop (suc k) xs) = rw e w.cut in
    let n : suc k + (end - suc k) ≡ end = omega (arith, w.order, l) in
    sym (front k xs within (first_not (drop k xs) f (omega (arith, length-drop k xs, within))) ∙ ap (λ (l : List ℕ). take (suc k) xs ++ l) c ∙ sym (take-add (suc k) (end - suc k) xs) ∙ ap (λ (m : ℕ). take m xs) n)

pub ends_start : (xs : List ℕ) (at end : ℕ) → TrimmedFrom xs at end → at ≡ 0 → take end xs ≡ trim_end xs
ends_start xs at end w z = let c : trim_end (drop 0 xs) ≡ take (end - 0) (drop 0 xs) = ap (λ (k : ℕ). trim_end (drop k xs)) (sym z) ∙ w.cut ∙ ap (λ (k : ℕ). take (end - k) (drop k xs)) z in let n : end - 0 ≡ end = omega arith in sym (c ∙ ap (λ (k : ℕ). take k xs) n)

pub ends_none : (xs : List ℕ) → TrimmedFrom xs (length xs) (length xs)
ends_none xs =
    let same : length xs ≤ length xs = omega arith in
    let e : drop (length xs) xs ≡ [] = drop_of_length-le xs same in
    record { order = omega arith; within = omega arith; blank = rw e; cut = rw e (sym (take-nil (length xs - length xs))) }

pub ruleset ends = (more_tail, more_head, ends_stop, ends_start, ends_none)
