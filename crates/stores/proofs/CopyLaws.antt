-- Copies of records: one more is one store more. Assumes nothing.
use Prim.Native.Nat.{ℕ, zero, suc, ◌+◌, ◌-◌, ◌*◌, ◌/◌, ◌≤◌}
use native.Mathlib.Omega.{arith}
use native.Mathlib.Nat.{zero-add, add-zero, add_assoc, zero-mul, suc-mul}
use native.Mathlib.Numerals.{add-one}
use mathlib.Core.Path.{◌≡◌, refl, sym, ap, ◌∙◌}
use mathlib.Core.List.{List, [], ◌++◌, append_assoc, append-nil}
use lib.IntN.{ℤ}
use lib.ListN.{length, take, drop, length-append, length-drop, length-set, take-append-drop}
use Rattle.std.proofs.lemmas.List.{take_all, drop_all}
use borrow.Rule.Slice.PartMut.{put_mid}
use lib.Seq.{take_at, drop_at, drop-drop, length-take-le, take-append-le, drop-append-le}
use Rattle.rules.specs.Limits.{note_size}
use Rattle.stores.specs.Cells.{written, record_at, with_record}
use Rattle.stores.specs.Copies.{copy_of, copies}

pub written_none : (l : List ℤ) (b : ℕ) → l ≡ written l b []
written_none l b = rw (add-zero, take-append-drop b l)

pub written-more : (l : List ℤ) (b : ℕ) (w v : List ℤ) (n : ℕ) → length w ≡ n → b + n ≤ length l → written (written l b w) (b + n) v ≡ written l b (w ++ v)
written-more l b w v n e h =
    let g : length (take b l ++ w) ≡ b + n = rw (length-append, length-take-le b l (omega arith), e) in
    ap (λ (m : List ℤ). written m (b + n) v) (sym (append_assoc (take b l) w (drop (b + length w) l)))
    ∙ rw (e, take_at (take b l ++ w) (drop (b + n) l) (b + n) g, ← drop-drop, drop_at (take b l ++ w) (drop (b + n) l) (b + n) g, drop-drop, length-append w v, e, add_assoc, append_assoc (take b l) w, append_assoc w v)

-- a record of a front
read-front : (size : ℕ) (xs ys : List ℤ) (i : ℕ) → i * size + size ≤ length xs → record_at size (xs ++ ys) i ≡ record_at size xs i
read-front size xs ys i h = rw (drop-append-le (i * size) xs ys (omega arith)) (take-append-le size (drop (i * size) xs) ys (rw length-drop (omega arith)))

pub length-copies : (place bar : ℕ) (source : List ℤ) (k : ℕ) → k * note_size ≤ length source → length (copies place bar source k) ≡ k * note_size
length-copies place bar source zero h = rw zero-mul
length-copies place bar source (suc k) h =
    let m : k * note_size + note_size ≤ length source = rw suc-mul at h in
    rw (length-append, length-copies place bar source k (omega arith), length-set, length-set, length-set, length-take-le note_size (drop (k * note_size) source) (rw length-drop (omega arith)), suc-mul)

-- one copy more
pub copies-more : (place bar : ℕ) (l source : List ℤ) (k : ℕ) → k * note_size + note_size ≤ length source → k * note_size + note_size ≤ length l
    → with_record note_size (written l 0 (copies place bar source k)) k (copy_of place bar (record_at note_size source k)) ≡ written l 0 (copies place bar source (k + 1))
copies-more place bar l source k h g =
    let w = copies place bar source k in
    let v = copy_of place bar (record_at note_size source k) in
    rw (add-one k) (ap (λ n. written (written l 0 w) n v) (sym (zero-add (k * note_size))) ∙ written-more l 0 w v (k * note_size) (length-copies place bar source k (omega arith)) (omega arith))

-- copies of what stands before more words
copies-front : (place bar : ℕ) (xs ys : List ℤ) (k : ℕ) → k * note_size ≤ length xs → copies place bar (xs ++ ys) k ≡ copies place bar xs k
copies-front place bar xs ys zero h = refl
copies-front place bar xs ys (suc k) h =
    let m : k * note_size + note_size ≤ length xs = rw suc-mul at h in
    rw (copies-front place bar xs ys k (omega arith), read-front note_size xs ys k m)

-- words written at the start of what stands behind
pub written_behind : (a : ℕ) (l w : List ℤ) → take a l ++ written (drop a l) 0 w ≡ written l a w
written_behind a l w = rw (drop-drop, zero-add)

-- and put back with these at its start
pub put_behind : (a k : ℕ) (l r w : List ℤ) → k ≡ length l - a → r ≡ written (take k (drop a l)) 0 w → put_mid a k l r ≡ written l a w
put_behind a k l r w e h =
    let few : length (drop a l) ≤ k = rw length-drop (omega (arith, e)) in
    rw (h, drop_all k (drop a l) few, take_all k (drop a l) few, append-nil (written (drop a l) 0 w)) (written_behind a l w)

-- copies of a part that is cut off
pub copies_part : (place bar : ℕ) (l : List ℤ) (n k : ℕ) → n ≡ k * note_size → n ≤ length l
    → copies place bar (take n l) (length (take n l) / note_size) ≡ copies place bar l k
copies_part place bar l n k e h =
    let len : length (take n l) ≡ n = length-take-le n l h in
    let count : length (take n l) / note_size ≡ k = omega (arith, len, e) in
    rw count (sym (copies-front place bar (take n l) (drop n l) k (omega (arith, len, e))) ∙ ap (λ (s : List ℤ). copies place bar s k) (take-append-drop n l))

-- copies of records before, written behind
pub copied_behind : (place bar : ℕ) (l : List ℤ) (a b n k : ℕ) → n ≡ k * note_size → a + n ≤ b → b ≤ length l
    → let part = take n (drop a (take b l)) in
    take b l ++ written (drop b l) 0 (copies place bar part (length part / note_size)) ≡ written l b (copies place bar (drop a l) k)
copied_behind place bar l a b n k e h g =
    let front = take b l in
    let part = take n (drop a front) in
    let m : length front ≡ b = length-take-le b l g in
    let d : length (drop a front) ≡ b - a = rw (length-drop, m) in
    let s : drop a front ++ drop b l ≡ drop a l = sym (drop-append-le a front (drop b l) (omega (arith, m, h))) ∙ ap (drop a) (take-append-drop b l) in
    let f = sym (copies-front place bar (drop a front) (drop b l) k (omega (arith, d, e, h))) ∙ ap (λ (s : List ℤ). copies place bar s k) s in
    written_behind b l (copies place bar part (length part / note_size)) ∙ ap (written l b) (copies_part place bar (drop a front) n k e (omega (arith, d, h)) ∙ f)
