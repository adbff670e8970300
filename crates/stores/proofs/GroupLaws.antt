-- One record more of a walk. Assumes nothing.
use Prim.Native.Nat.{ℕ, ◌+◌, ◌*◌}
use native.Mathlib.Omega.{arith}
use native.Mathlib.Numerals.{add-one}
use mathlib.Core.Path.{◌≡◌, ap, ◌∙◌}
use mathlib.Core.Bool.{Bool, not}
use mathlib.Core.List.{List}
use lib.IntN.{ℤ, pos}
use lib.ListN.{take, drop}
use lib.Seq.{get_or-take, get_or-drop}
use Rattle.std.specs.Prelude.{if◌then◌else◌}
use Rattle.rules.specs.Limits.{note_size}
use Rattle.rules.specs.Records.{is_grace_kind}
use Rattle.rules.specs.Stored.{natural}
use Rattle.stores.specs.Cells.{changed}
use Rattle.stores.specs.Groups.{timed_at, walked}

-- a record's words alone say whether it is non-grace
pub timed_record : (l : List ℤ) (k n : ℕ) → n ≡ note_size → timed_at (take n (drop (k * note_size) l)) 0 ≡ timed_at l k
timed_record l k n e = ap (λ w. not (is_grace_kind (natural w))) (get_or-take n (drop (k * note_size) l) 1 (pos 0) (omega (arith, e)) ∙ get_or-drop (k * note_size) l 1 (pos 0))

module _ (f : ℕ → List ℤ → List ℤ) (l : List ℤ) (k : ℕ) (p : List ℤ) (e : ℕ) (b : Bool) where
  pub walked-part : p ≡ (walked f l k).0 → e ≡ (walked f l k).1 → timed_at p k ≡ b → (if b then changed note_size (f e) p k else p) ≡ (walked f l (k + 1)).0
  walked-part g h i = rw (add-one k, ← g, ← h, i)

  pub walked-count : p ≡ (walked f l k).0 → e ≡ (walked f l k).1 → timed_at p k ≡ b → (if b then e + 1 else e) ≡ (walked f l (k + 1)).1
  walked-count g h i = rw (add-one k, ← g, ← h, i)
