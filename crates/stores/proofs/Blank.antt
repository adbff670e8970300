-- Cells that are 0 behind the records. Assumes nothing.
use Prim.Native.Nat.{ℕ, ◌+◌, ◌-◌, ◌*◌, ◌≤◌}
use native.Mathlib.Omega.{arith}
use native.Mathlib.Nat.{suc-mul}
use native.Mathlib.Numerals.{add-one}
use mathlib.Core.Path.{◌≡◌, sym, ap, ◌∙◌}
use mathlib.Core.List.{List, ◌++◌, append_assoc}
use lib.IntN.{ℤ}
use lib.ListN.{length, take, drop, length-append, length-drop, length-replicate}
use lib.Seq.{drop_at, drop-drop, length-take-le}
use Rattle.rules.specs.Words.{zeros}
use Rattle.stores.specs.Cells.{written, record_at, BlankFrom}
use Rattle.stores.proofs.Parts.{drop-zeros, take-zeros}

-- cleared cells
pub blank-cleared : (n at : ℕ) → BlankFrom at (zeros n)
blank-cleared n at = rw (drop-zeros at n, length-replicate)

pub ruleset blank = (blank-cleared)

-- the record behind is cleared
pub blank-record : (size n : ℕ) (l : List ℤ) → BlankFrom (n * size) l → n * size + size ≤ length l → record_at size l n ≡ zeros size
blank-record size n l b h = rw b (take-zeros size (length l - n * size) (omega arith))

-- behind one record more
pub blank-stored : (size n : ℕ) (l w m : List ℤ) → BlankFrom (n * size) l → n * size + size ≤ length l → length w ≡ size → m ≡ written l (n * size) w → BlankFrom ((n + 1) * size) m
blank-stored size n l w m b h e g =
    let a = n * size in
    let front : length (take a l ++ w) ≡ a + size = rw (length-append, length-take-le a l (omega arith), e) in
    let next : (n + 1) * size ≡ a + size = rw (add-one n, suc-mul) in
    let whole : m ≡ (take a l ++ w) ++ drop (a + size) l = g ∙ rw (e, append_assoc) in
    let len : length m ≡ length l = rw whole (rw (length-append, front, length-drop) (omega arith)) in
    let d : drop (a + size) l ≡ zeros (length l - (a + size)) = sym (drop-drop size a l) ∙ ap (drop size) b ∙ drop-zeros size (length l - a) ∙ ap zeros (omega arith) in
    rw (next, len) (ap (drop (a + size)) whole ∙ drop_at (take a l ++ w) (drop (a + size) l) (a + size) front ∙ d)
