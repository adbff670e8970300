-- Only a clef's value and a character of several bytes have bytes that continue a character.
-- Assumes nothing.
use Rattle.std.specs.Prelude.{if◌then◌else◌}
use Prim.Native.Nat.{ℕ, suc, ◌+◌, ◌-◌, ◌<◌}
use Prim.Native.Char.{code}
use native.Mathlib.Omega.{arith}
use native.Mathlib.Numerals.{one-add}
use mathlib.Core.Path.{◌≡◌, refl, sym, ap}
use mathlib.Core.Bool.{Bool, true, false}
use mathlib.Core.List.{List, [], ◌∷◌}
use lib.Dec.{eqb}
use lib.ListN.{length, take}
use borrow.Author.Tests.{ltb-true, lt-ltb, lt-leb}
use Rattle.rules.specs.Text.{bytes, among, is_digit, run_length, every, begins}
use Rattle.rules.specs.Characters.{continues, characters_in, character_size}
use Rattle.rules.specs.Cut.{is_duration, is_key_byte, is_meter_byte, token_size}
use Rattle.rules.proofs.Low.{Low, is_low, same_low, digit_low, duration-low, key-low, meter-low}
use Rattle.std.proofs.lemmas.Bool.{and_parts}

-- each of the first n bytes begins a character
abbrev Begun : ℕ → List ℕ → Type 0
Begun n xs = characters_in (take n xs) ≡ length (take n xs)

low-begins : (p : ℕ → Bool) → Low p → (c : ℕ) → p c ≡ true → continues c ≡ false
low-begins p l c e = rw (lt-leb 128 c (l c e))

-- ---- runs and texts

run-begun : (p : ℕ → Bool) → Low p → (xs : List ℕ) → Begun (run_length p xs) xs
unfolding characters_in
run-begun p l [] = refl
run-begun p l (x ∷ xs) = go (p x) refl (run-begun p l xs)
  where
    go : (t : Bool) → p x ≡ t → Begun (run_length p xs) xs → Begun (if t then 1 + run_length p xs else 0) (x ∷ xs)
    go true e r = rw (one-add, low-begins p l x e) (omega (arith, r))
    go false e r = refl

begins-begun : (ks xs : List ℕ) → every is_low ks ≡ true → begins ks xs ≡ true → Begun (length ks) xs
unfolding characters_in
begins-begun [] xs l e = refl
begins-begun (k ∷ ks) [] l e = refl
begins-begun (k ∷ ks) (x ∷ xs) l e =
    let t = and_parts (is_low k) (every is_low ks) l in
    let h = and_parts (eqb x k) (begins ks xs) e in
    rw (low-begins (λ c. eqb c k) (same_low k (ltb-true k 128 t.0)) x h.0, one-add) (ap suc (begins-begun ks xs t.1 h.1))

-- ---- tokens

module _ (b : ℕ) (bs : List ℕ) where
  -- of the token at the start of the text, were it of this size, each byte behind the first begins
  -- a character
  abbrev Plain : ℕ → Type 0
  Plain size = Begun (size - 1) bs

  pick : (t : Bool) (m n : ℕ) → Plain m → Plain n → Plain (if t then m else n)
  pick true m n p q = p
  pick false m n p q = q

  plain_size : (n : ℕ) → Begun n bs → Plain (1 + n)
  plain_size n r = rw size r
    where
      size : 1 + n - 1 ≡ n
      size = omega arith

  plain-one : Plain 1
  unfolding characters_in
  plain-one = refl

  plain-run : (p : ℕ → Bool) → Low p → Plain (1 + run_length p bs)
  plain-run p l = plain_size (run_length p bs) (run-begun p l bs)

  plain-text : (k : ℕ) (ks : List ℕ) (n : ℕ) → every is_low ks ≡ true → Plain n → Plain (if begins (k ∷ ks) (b ∷ bs) then length (k ∷ ks) else n)
  plain-text k ks n l r = go (begins (k ∷ ks) (b ∷ bs)) refl
    where
      go : (t : Bool) → begins (k ∷ ks) (b ∷ bs) ≡ t → Plain (if t then length (k ∷ ks) else n)
      go true e = rw (sym (one-add (length ks))) (plain_size (length ks) (begins-begun ks bs l (and_parts (eqb b k) (begins ks bs) e).1))
      go false e = r

  plain-character : b < 128 → Plain (character_size (b ∷ bs))
  unfolding character_size characters_in
  plain-character h = rw (lt-ltb b 128 h)

  -- only a clef's value and a character of several bytes have bytes that continue a character
  pub plain-tails : b < 128 → eqb b (code "%") ≡ false → characters_in (take (token_size (b ∷ bs) - 1) bs) ≡ length (take (token_size (b ∷ bs) - 1) bs)
  unfolding token_size
  plain-tails h e = rw e (
      pick (among (bytes "',xb") b) _ _ (plain-run (λ c. eqb c b) (same_low b h)) (
      pick (is_digit b) _ _ (plain-run is_duration duration-low) (
      pick (among (bytes ";=") b) _ _ (plain-run is_digit digit_low) (
      pick (eqb b (code "$")) _ _ (plain-run is_key_byte key-low) (
      pick (eqb b (code "@")) _ _ (plain-run is_meter_byte meter-low) (
      pick (eqb b (code ":")) _ _ (plain-text 58 (bytes "//:") _ refl (plain-text 58 (bytes "//") 1 refl plain-one)) (
      pick (eqb b (code "/")) _ _ (plain-text 47 (bytes "/:") _ refl (plain-text 47 (bytes "/") 1 refl plain-one)) (
      pick (eqb b (code "q")) _ _ (plain-text 113 (bytes "q") 1 refl plain-one) (plain-character h)))))))))
