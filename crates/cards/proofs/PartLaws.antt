-- A run of records of one size, a record at a time. Assumes nothing.
use Prim.Native.Nat.{ℕ, zero, suc, ◌+◌, ◌-◌}
use native.Mathlib.Nat.{add-sub_cancel_left}
use mathlib.Core.Path.{◌≡◌, refl, ap}
use mathlib.Core.List.{List, [], ◌∷◌, ◌++◌, append_assoc}
use lib.ListN.{length, take, drop}
use Rattle.cards.specs.Fields.{each}
use Rattle.cards.specs.Pieces.{parts}

pub each_append : {A B : Type 0} (g : A → List B) (l m : List A) → each g (l ++ m) ≡ each g l ++ each g m
unfolding each
each_append g [] m = refl
each_append g (x ∷ l) m = rw (each_append g l m, append_assoc)

module _ {A B : Type 0} (f : List B → A) (size : ℕ) where
  pub length-parts : (count : ℕ) (l : List B) → length (parts f size count l) ≡ count
  unfolding parts
  length-parts zero l = refl
  length-parts (suc count) l = ap suc (length-parts count (drop size l))

-- a part of `size` words from `at` on
module _ {A : Type 0} (l : List A) (at size : ℕ) where
  pub part_is : take (at + size - at) (drop at l) ≡ take size (drop at l)
  part_is = rw (add-sub_cancel_left at size)
