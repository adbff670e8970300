-- Words as numbers. Assumes nothing.
use Prim.Native.Nat.{ℕ, ◌<◌, ◌≤◌}
use native.Mathlib.Omega.{arith}
use mathlib.Core.Path.{◌≡◌, refl}
use mathlib.Core.Bool.{Bool, true, false, ◌||◌}
use mathlib.Core.List.{List}
use lib.IntN.{ℤ}
use lib.ListN.{drop}
use lib.Dec.{eqb, leb, ltb}
use borrow.Author.Tests.{leb-true, ltb-true, eqb-true}
use Rattle.rules.specs.Words.{power_of_two}
use Rattle.cards.specs.Judged.{number_at, pitch_of, note_of}
use Rattle.rules.specs.Limits.{pitch_size, count_limit, mark_capacity}
use Rattle.cards.specs.Fields.{between, every}
use Rattle.cards.specs.Pieces.{capped, parts}
use Rattle.cards.specs.Card.{Form, such_pitch, such_note, note_tests}
use Rattle.std.proofs.lemmas.Bool.{and_parts}
use Rattle.cards.proofs.FieldLaws.{all_hold}
use Rattle.tokens.proofs.Below.{below as below_all}

marks-small : (count marks : ℕ) → count ≤ mark_capacity → marks < power_of_two count → marks < 256
marks-small count marks h k = omega (arith, leb-true (power_of_two count) 256 (below_all (λ (n : ℕ). leb (power_of_two n) 256) 9 refl count (omega arith)), k)

pub note-fits : (form : Form) (w : List ℤ) → such_note form (note_of w) ≡ true
    → (number_at w 2 ≤ 9) × (number_at w 3 ≤ 3) × (number_at w 1 ≤ 4) × (number_at w 4 ≤ 3) × (number_at w 5 ≤ 3) × (number_at w 6 ≤ 255) × (number_at w 8 ≤ 8) × (number_at w 9 < 256)
    × (every (such_pitch form) (parts pitch_of pitch_size (capped (number_at w 10)) (drop 12 w)) ≡ true)
unfolding such_note note_of
note-fits form w h =
    let t = all_hold (note_tests form (note_of w)) h in
    let m = and_parts (leb (number_at w 8) mark_capacity) (ltb (number_at w 9) (power_of_two (number_at w 8))) t.1.1.1.1.1.1.1.0 in
    let k : number_at w 8 ≤ 8 = leb-true (number_at w 8) 8 m.0 in (
      leb-true (number_at w 2) 9 t.1.0,
      leb-true (number_at w 3) 3 t.1.1.0,
      leb-true (number_at w 1) 4 t.1.1.1.0,
      leb-true (number_at w 4) 3 t.1.1.1.1.0,
      leb-true (number_at w 5) 3 t.1.1.1.1.1.0,
      tuplet (number_at w 6) t.1.1.1.1.1.1.0,
      k,
      marks-small (number_at w 8) (number_at w 9) k (ltb-true (number_at w 9) (power_of_two (number_at w 8)) m.1),
      t.1.1.1.1.1.1.1.1.1.1.0,
    )
  where
    tuplet : (k : ℕ) → (eqb k 0 || between 3 count_limit k) ≡ true → k ≤ 255
    tuplet k e = go (eqb k 0) refl e
      where
        go : (b : Bool) → eqb k 0 ≡ b → (b || between 3 count_limit k) ≡ true → k ≤ 255
        go true e h = omega (arith, eqb-true k 0 e)
        go false e h = leb-true k 255 (and_parts (leb 3 k) (leb k 255) h).1
