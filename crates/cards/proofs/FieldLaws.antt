-- Tests, bits, and a run of records of one size, read back whatever follows. Assumes nothing.
use Prim.Native.Nat.{ℕ, zero, suc, ◌+◌, ◌/◌, ◌%◌}
use native.Mathlib.Omega.{arith}
use native.Mathlib.Nat.{add-mul-mod_self_left, add-mul-div_left, zero-add}
use mathlib.Core.Path.{◌≡◌, refl, ap}
use mathlib.Core.Bool.{Bool, true, false, cond}
use mathlib.Core.List.{List, [], ◌∷◌, ◌++◌, append_assoc}
use lib.ListN.{length, get_or}
use lib.Seq.{drop_at}
use lib.Dec.{eqb}
use borrow.Author.Tests.{eqb-true, not-false}
use Rattle.std.proofs.lemmas.Bool.{and_parts}
use Rattle.cards.specs.Fields.{stands, bit_map, each, holds, every}
use Rattle.cards.specs.Pieces.{bit_in, parts}

-- ---- tests

abbrev pub All : List Bool → Type 0
All [] = Unit
All (t ∷ ts) = (t ≡ true) × All ts

pub all_hold : (ts : List Bool) → holds ts ≡ true → All ts
unfolding holds
all_hold [] e = tt
all_hold (t ∷ ts) e = let b = and_parts t (holds ts) e in (b.0, all_hold ts b.1)

-- ---- bits

pub bit-read : (i : ℕ) (bits : List Bool) → bit_in i (bit_map bits) ≡ get_or bits i false
unfolding bit_in bit_map
bit-read zero [] = refl
bit-read (suc i) [] = bit-read i []
bit-read zero (b ∷ bits) = rw (add-mul-mod_self_left (cond b 1 0) 2 (bit_map bits)) (go b)
  where
    go : (b : Bool) → eqb (cond b 1 0 % 2) 1 ≡ b
    go true = refl
    go false = refl
bit-read (suc i) (b ∷ bits) = rw (add-mul-div_left (cond b 1 0) (bit_map bits) {y = 2} (omega arith)) (go b (bit-read i bits))
  where
    go : (b : Bool) → bit_in i (bit_map bits) ≡ get_or bits i false → bit_in i (cond b 1 0 / 2 + bit_map bits) ≡ get_or bits i false
    go true e = rw zero-add e
    go false e = rw zero-add e

-- ---- a field under a bit

-- no bit over 0
pub stands-not : (f : ℕ) → stands f ≡ false → f ≡ 0
stands-not f e = eqb-true f 0 (not-false (eqb f 0) e)

-- ---- a run of records

module _ {A B : Type 0} (f : List B → A) (g : A → List B) (size : ℕ) (len : (x : A) → length (g x) ≡ size) (p : A → Bool) (back : (x : A) (r : List B) → p x ≡ true → f (g x ++ r) ≡ x) where
  pub parts-read : (l : List A) (r : List B) → every p l ≡ true → parts f size (length l) (each g l ++ r) ≡ l
  unfolding parts each every
  parts-read [] r h = refl
  parts-read (x ∷ l) r h =
      let t = and_parts (p x) (every p l) h in
      rw (append_assoc (g x) (each g l) r, back x (each g l ++ r) t.0, drop_at (g x) (each g l ++ r) size (len x)) (ap (λ (m : List A). x ∷ m) (parts-read l r t.1))
