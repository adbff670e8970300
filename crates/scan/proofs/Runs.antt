-- Runs and beginnings in std's words are those in the rules' words.
use Rattle.std.proofs.Common.{◌≡◌, ◌+◌, ◌-◌, ◌≤◌, ℕ, Bool, true, false, List, [], ◌∷◌, length, take, drop, arith, cond, length-drop}
use Rattle.std.specs.Prelude.{◌&&◌, eqb, refl}
use Rattle.std.specs.List.{prefix_len, starts_with}
use Rattle.std.proofs.lemmas.Bool.Decides.{nat_tests}
use mathlib.Core.Path.{ap, sym, ◌∙◌}
use mathlib.Core.Bool.{and-false}
use lib.Dec.{eqb-zero-suc, eqb-suc-zero, eqb-suc-suc}
use Rattle.std.specs.Cmp.Lexicographic.{pointwise}
use lib.Seq.{drop-drop}
use Rattle.rules.specs.Text.{run_length, every, begins, is_text}
use Rattle.rules.proofs.Runs.{run-within, run-over}
use Rattle.scan.proofs.Trims.{part_to_end}

pub prefix_len_is : (p : ℕ → Bool) (xs : List ℕ) → prefix_len p xs ≡ run_length p xs
prefix_len_is p [] = refl
prefix_len_is p (x ∷ xs) = ap (λ (n : ℕ). cond (p x) (1 + n) 0) (prefix_len_is p xs)

turned : (a b : ℕ) → eqb a b ≡ eqb b a
turned a b = grind (arith, nat_tests)

pub starts_with_is : (ks xs : List ℕ) → starts_with eqb xs ks ≡ begins ks xs
starts_with_is [] xs = refl
starts_with_is (k ∷ ks) [] = refl
starts_with_is (k ∷ ks) (x ∷ xs) = (λ i. turned k x i && starts_with_is ks xs i)

swapped : (s t u : Bool) → (s && (t && u)) ≡ (t && (s && u))
swapped true t u = refl
swapped false t u = sym (and-false t)

pub equal_is : (ks xs : List ℕ) → pointwise eqb xs ks ≡ is_text ks xs
equal_is [] [] = refl
equal_is [] (x ∷ xs) = sym (ap (λ (t : Bool). t && true) (eqb-suc-zero (length xs)))
equal_is (k ∷ ks) [] = sym (ap (λ (t : Bool). t && false) (eqb-zero-suc (length ks)))
equal_is (k ∷ ks) (x ∷ xs) =
    ap (λ (t : Bool). eqb x k && t) (equal_is ks xs) ∙ swapped (eqb x k) (eqb (length xs) (length ks)) (begins ks xs)
    ∙ sym (ap (λ (t : Bool). t && (eqb x k && begins ks xs)) (eqb-suc-suc (length xs) (length ks)))

-- ---- long runs

-- a chunk of the class lies within the run
pub run_chunk : (p : ℕ → Bool) (xs : List ℕ) (i n : ℕ) → i ≤ length xs → n ≤ length xs - i → every p (take (i + n - i) (drop i xs)) ≡ true → run_length p xs ≡ i + run_length p (drop i xs) → run_length p xs ≡ i + n + run_length p (drop (i + n) xs)
run_chunk p xs i n w h e r =
    let size : n ≡ i + n - i = omega arith in
    let over : run_length p (drop i xs) ≡ n + run_length p (drop (i + n) xs) = run-over p n (drop i xs) (omega (arith, length-drop i xs, h)) (ap (λ (m : ℕ). every p (take m (drop i xs))) size ∙ e) ∙ ap (λ (ys : List ℕ). n + run_length p ys) (drop-drop n i xs) in
    omega (arith, r, over)

-- the rest of the run stands in the part to the end
pub run_rest : (p : ℕ → Bool) (xs : List ℕ) (i : ℕ) → run_length p xs ≡ i + run_length p (drop i xs) → i + prefix_len p (take (length xs - i) (drop i xs)) ≡ run_length p xs
run_rest p xs i r = let e : prefix_len p (take (length xs - i) (drop i xs)) ≡ run_length p (drop i xs) = prefix_len_is p _ ∙ ap (run_length p) (part_to_end xs i) in omega (arith, e, r)

pub run_bound : (p : ℕ → Bool) (xs : List ℕ) → run_length p xs ≤ length xs
run_bound p xs = run-within p xs

pub ruleset long_runs = (run_chunk, run_rest, run_bound)
