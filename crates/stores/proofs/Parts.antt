-- A part of the cells that was lent, and records in cleared cells. Assumes nothing.
use Prim.Native.Nat.{ℕ, zero, suc, ◌+◌, ◌-◌, ◌*◌, ◌≤◌}
use native.Mathlib.Omega.{arith}
use native.Mathlib.Nat.{suc-sub-suc, sub-zero, zero-sub, add_assoc}
use mathlib.Core.Path.{◌≡◌, refl, sym, ap, ◌∙◌}
use mathlib.Core.List.{List, ◌∷◌, ◌++◌, append_assoc}
use lib.IntN.{ℤ, pos}
use lib.ListN.{length, take, drop, length-append, length-replicate, take-append-drop, length-drop}
use lib.Seq.{drop-drop, drop-append-le, drop-append_seam, length-take-le}
use borrow.Rule.Slice.PartMut.{put_mid}
use Rattle.rules.specs.Limits.{note_size}
use Rattle.rules.specs.Words.{zeros}
use Rattle.stores.specs.Cells.{written, record_at, with_record, changed}

-- what was lent comes back as words written
pub put_written : (a k : ℕ) (l r : List ℤ) → length r ≡ k → put_mid a k l r ≡ written l a r
put_written a k l r e = rw (e, drop-drop)

-- a record lent comes back as f of a record of other words
pub put_other : (size n k i j : ℕ) (f : List ℤ → List ℤ) (l s r : List ℤ) → k ≡ size → j ≡ size → n * size + size ≤ length l
    → r ≡ f (take j (drop (i * size) s)) → length r ≡ length (take k (drop (n * size) l)) → put_mid (n * size) k l r ≡ with_record size l n (f (record_at size s i))
put_other size n k i j f l s r e d h g m =
    let len : length r ≡ k = m ∙ length-take-le k (drop (n * size) l) (rw (length-drop, e) (omega arith)) in
    put_written (n * size) k l r len ∙ rw (g, d)

-- a note's record lent comes back changed by f
pub put_record : (n : ℕ) (f : List ℤ → List ℤ) (l r : List ℤ) → n * note_size + note_size ≤ length l
    → let k = n * note_size + note_size - n * note_size in
    r ≡ f (take k (drop (n * note_size) l)) → length r ≡ length (take k (drop (n * note_size) l)) → put_mid (n * note_size) k l r ≡ changed note_size f l n
put_record n f l r h g m =
    let k = n * note_size + note_size - n * note_size in
    put_other note_size n k n k f l l r (omega arith) (omega arith) h g m

pub drop-zeros : (k m : ℕ) → drop k (zeros m) ≡ zeros (m - k)
drop-zeros zero m = rw sub-zero
drop-zeros (suc k) zero = rw zero-sub
drop-zeros (suc k) (suc m) = rw (suc-sub-suc m k) (drop-zeros k m)

pub take-zeros : (k n : ℕ) → k ≤ n → take k (zeros n) ≡ zeros k
take-zeros zero n h = refl
take-zeros (suc k) zero h = absurd (omega arith)
take-zeros (suc k) (suc n) h = ap (λ (l : List ℤ). pos 0 ∷ l) (take-zeros k n (omega arith))

-- words z that stand behind w already need no writing
written-front : (l : List ℤ) (at : ℕ) (w z rest : List ℤ) → drop (at + length w) l ≡ z ++ rest → written l at (w ++ z) ≡ written l at w
written-front l at w z rest h = rw (length-append w z, ← add_assoc at (length w) (length z), ← drop-drop (length z) (at + length w) l, h, drop-append_seam, append_assoc w z)

-- a record's last zeros need no writing in cleared cells
pub record-front : (size : ℕ) (l : List ℤ) (number k : ℕ) (w : List ℤ) → length w + k ≡ size → record_at size l number ≡ zeros size → with_record size l number (w ++ zeros k) ≡ with_record size l number w
record-front size l number k w e h =
    let start = number * size in
    let rest = drop size (drop start l) in
    let m : size - length w ≡ k = omega arith in
    written-front l start w (zeros k) rest
    (sym (drop-drop (length w) start l)
    ∙ ap (drop (length w)) (sym (take-append-drop size (drop start l)))
    ∙ rw (h, drop-append-le (length w) (zeros size) rest (rw length-replicate (omega arith)), drop-zeros (length w) size, m))
