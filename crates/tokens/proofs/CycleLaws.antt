-- Lengths that notes take in turn, the first ones kept.
use Rattle.std.specs.Prelude.{ℕ, ◌+◌, ◌<◌, ◌≤◌, ◌≡◌, List, [], ◌∷◌, ◌++◌, length, map, take, drop, slice_index_or, slice_set, refl}
use Rattle.std.proofs.Common.{append_assoc, add-one}
use Rattle.std.proofs.lemmas.List.{map-append, take_more_set, length-take-le, get_or-take}
use Rattle.std.proofs.Math.Seq.{drop-cons}
use Rattle.rules.specs.Values as rules
use Rattle.tokens.specs.declared.rhythm.Length.{Length}
use Rattle.tokens.specs.declared.rhythm.Pattern.{Pattern}
use Rattle.tokens.specs.declared.rhythm.Rest.{Rest}
use Rattle.tokens.specs.Rhythm.{length_in, first_of, rest_of, lengths_of, lengths_in, lengths_with, anew, next_length, lengths_after}

-- ---- lists

-- one more is kept
kept_more : (xs : List Length) (i : ℕ) (x : Length) (ys : List rules.Length) → i < length xs → map length_in (take (i + 1) (slice_set xs i x)) ++ ys ≡ map length_in (take i xs) ++ length_in x ∷ ys
kept_more xs i x ys h = rw (take_more_set xs i x h, map-append, append_assoc) refl

-- one is taken
kept_next : (xs : List Length) (n i : ℕ) (d : Length) (ys : List rules.Length) → i < n → n ≤ length xs → map length_in (drop i (take n xs)) ++ ys ≡ length_in (slice_index_or xs i d) ∷ (map length_in (drop (i + 1) (take n xs)) ++ ys)
kept_next xs n i d ys h k = rw (drop-cons (take n xs) i d (rw (length-take-le n xs k) h), get_or-take n xs i d h, add-one) refl

-- ---- patterns

pub kept_step : (xs : List Length) (i : ℕ) (x : Length) (p : Pattern) (before r : Rest) (all : List rules.Length) → i < length xs → length_in x ≡ first_of p → lengths_of p ≡ lengths_in before → lengths_in r ≡ rest_of p → lengths_with (take i xs) before ≡ all → lengths_with (take (i + 1) (slice_set xs i x)) r ≡ all
kept_step xs i x p before r all h e b t a = rw (kept_more xs i x (lengths_in r) h, e, t, b) a

-- ---- what is left

pub anew_all : (all : List rules.Length) → anew all all ≡ all
anew_all [] = refl
anew_all (l ∷ ls) = refl

after_first : (all : List rules.Length) (l : rules.Length) (ls : List rules.Length) → lengths_after all (l ∷ ls) ≡ anew all ls
after_first all l [] = refl
after_first all l (m ∷ ls) = refl

module _ (xs : List Length) (n i : ℕ) (d : Length) (whole : n ≤ length xs) where
  -- a kept one is next
  pub next_kept : (all : List rules.Length) (rest : Rest) → i < n → next_length (anew all (lengths_with (drop i (take n xs)) rest)) ≡ length_in (slice_index_or xs i d)
  next_kept all rest h = rw (kept_next xs n i d (lengths_in rest) h whole) refl

  pub left_kept : (all : List rules.Length) (rest : Rest) → i < n → lengths_after all (anew all (lengths_with (drop i (take n xs)) rest)) ≡ anew all (lengths_with (drop (i + 1) (take n xs)) rest)
  left_kept all rest h = rw (kept_next xs n i d (lengths_in rest) h whole) (after_first all (length_in (slice_index_or xs i d)) (lengths_with (drop (i + 1) (take n xs)) rest))
