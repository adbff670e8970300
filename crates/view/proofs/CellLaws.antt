-- The cells of records of any kind: one record added, read, changed, and a part of them. The latest record stands first in a list; `q` stands before x in the cells, and `p` after it. Assumes nothing.
use Prim.Native.Nat.{ℕ, ◌+◌, ◌-◌, ◌*◌, ◌<◌, ◌≤◌}
use native.Mathlib.Omega.{arith}
use native.Mathlib.Nat.{sub-zero, zero-mul, suc-mul}
use mathlib.Core.Path.{◌≡◌, ◌∙◌}
use mathlib.Core.List.{List, [], ◌∷◌, ◌++◌, append_assoc, append-nil}
use lib.IntN.{ℤ, pos}
use lib.ListN.{length, get_or, take, drop, length-append, get_or-append}
use lib.Seq.{take_at, drop_at, drop-drop, get_or-drop, get_or-take}
use Rattle.rules.specs.Words.{cells, zeros, padded}
use Rattle.stores.specs.Cells.{written, record_at, with_record, changed}
use Rattle.stores.proofs.Parts.{drop-zeros}

-- ---- words

-- cleared cells hold no record
pub padded-none : (n : ℕ) → zeros n ≡ padded n []
padded-none n = rw sub-zero

-- words written where xs ends
pub written_after : (xs ys v : List ℤ) (b n : ℕ) → length xs ≡ b → length v ≡ n → written (xs ++ ys) b v ≡ xs ++ (v ++ drop n ys)
written_after xs ys v b n e g = rw (take_at xs ys b e, ← drop-drop, drop_at xs ys b e, g)

-- a word of a record, read in the cells
pub record-word : (size : ℕ) (l : List ℤ) (n k : ℕ) → k < size → get_or (record_at size l n) k (pos 0) ≡ get_or l (n * size + k) (pos 0)
record-word size l n k h = rw (get_or-take, get_or-drop)

module _ {A : Type 0} (words : A → List ℤ) where
  pub cells-append : (p q : List A) → cells words (p ++ q) ≡ cells words q ++ cells words p
  cells-append [] q = rw append-nil
  cells-append (x ∷ p) q = rw (cells-append p q, append_assoc)

  -- the cells around a record
  pub around : (p : List A) (x : A) (q : List A) (zs : List ℤ) → cells words (p ++ x ∷ q) ++ zs ≡ cells words q ++ (words x ++ (cells words p ++ zs))
  around p x q zs = rw (cells-append p (x ∷ q), append_assoc, append_assoc)

module _ {A : Type 0} (words : A → List ℤ) (size : ℕ) (len : (x : A) → length (words x) ≡ size) where
  pub length-cells : (l : List A) → length (cells words l) ≡ length l * size
  length-cells [] = rw zero-mul
  length-cells (x ∷ l) = rw (length-append, length-cells l, len x, suc-mul) (omega arith)

  -- the part after q
  pub part-read : (p q : List A) (zs : List ℤ) → drop (length q * size) (cells words (p ++ q) ++ zs) ≡ cells words p ++ zs
  part-read p q zs = rw (cells-append words p q, append_assoc) (drop_at (cells words q) (cells words p ++ zs) (length q * size) (length-cells q))

  pub part-words : (p q : List A) (zs : List ℤ) → take (length p * size) (drop (length q * size) (cells words (p ++ q) ++ zs)) ≡ cells words p
  part-words p q zs = rw part-read (take_at (cells words p) zs (length p * size) (length-cells p))

  module _ (p : List A) (x : A) (q : List A) (zs : List ℤ) where
    rest : drop (length q * size) (cells words (p ++ x ∷ q) ++ zs) ≡ words x ++ (cells words p ++ zs)
    rest = rw around (drop_at (cells words q) (words x ++ (cells words p ++ zs)) (length q * size) (length-cells q))

    -- a record is read back
    pub record-read : record_at size (cells words (p ++ x ∷ q) ++ zs) (length q) ≡ words x
    record-read = rw rest (take_at (words x) (cells words p ++ zs) size (len x))

    -- one word of it
    pub word_read : (k : ℕ) → k < size → get_or (cells words (p ++ x ∷ q) ++ zs) (length q * size + k) (pos 0) ≡ get_or (words x) k (pos 0)
    word_read k h = rw (← get_or-drop, rest) (get_or-append (words x) (cells words p ++ zs) (pos 0) k (omega (arith, len x)))

    -- it is replaced
    pub record-replaced : (y : A) → with_record size (cells words (p ++ x ∷ q) ++ zs) (length q) (words y) ≡ cells words (p ++ y ∷ q) ++ zs
    record-replaced y =
        rw (around words p x q, around words p y q, written_after (cells words q) (words x ++ (cells words p ++ zs)) (words y) (length q * size) size (length-cells q) (len y), drop_at (words x) (cells words p ++ zs) size (len x))

    pub record-changed : (f : List ℤ → List ℤ) (y : A) → f (words x) ≡ words y → changed size f (cells words (p ++ x ∷ q) ++ zs) (length q) ≡ cells words (p ++ y ∷ q) ++ zs
    record-changed f y e = rw (record-read, e) (record-replaced y)

  -- a record is added where the stored ones end
  pub record-added : (x : A) (q : List A) (zs : List ℤ) → with_record size (cells words q ++ zs) (length q) (words x) ≡ cells words (x ∷ q) ++ drop size zs
  record-added x q zs = rw (written_after (cells words q) zs (words x) (length q * size) size (length-cells q) (len x), append_assoc)

  -- ---- cells that are 0 from the end of the records on

  module _ (n : ℕ) where
    pub padded-added : (x : A) (l : List A) → length l * size + size ≤ n → with_record size (padded n (cells words l)) (length l) (words x) ≡ padded n (cells words (x ∷ l))
    padded-added x l h =
        let e : n - length (cells words l) - size ≡ n - length (cells words l ++ words x) = rw (length-append, len x) (omega arith) in
        rw (record-added x l, drop-zeros, e)

    pub padded-changed : (p : List A) (x : A) (q : List A) (f : List ℤ → List ℤ) (y : A) → f (words x) ≡ words y
        → changed size f (padded n (cells words (p ++ x ∷ q))) (length q) ≡ padded n (cells words (p ++ y ∷ q))
    padded-changed p x q f y e =
        let g : length (cells words (p ++ x ∷ q)) ≡ length (cells words (p ++ y ∷ q)) = rw (length-cells, length-cells, length-append, length-append) in
        rw (record-changed p x q (zeros (n - length (cells words (p ++ x ∷ q)))) f y e, g)

    -- a run of records added
    pub padded-extended : (p l : List A) → length l * size + length p * size ≤ n → written (padded n (cells words l)) (length l * size) (cells words p) ≡ padded n (cells words (p ++ l))
    padded-extended p l h =
        let e : n - length (cells words l) - length p * size ≡ n - length (cells words l ++ cells words p) = rw (length-append, length-cells p) (omega arith) in
        rw (cells-append words p l, written_after (cells words l) (zeros (n - length (cells words l))) (cells words p) (length l * size) (length p * size) (length-cells l) (length-cells p), drop-zeros, e, append_assoc)

    -- a step f on the part after q, which leaves all else alone
    pub padded-part : (f : List ℤ → List ℤ) (p p' q : List A) → length p ≡ length p' → ((zs : List ℤ) → f (cells words p ++ zs) ≡ cells words p' ++ zs)
        → take (length q * size) (padded n (cells words (p ++ q))) ++ f (drop (length q * size) (padded n (cells words (p ++ q)))) ≡ padded n (cells words (p' ++ q))
    padded-part f p p' q e h =
        let g : length (cells words (p ++ q)) ≡ length (cells words (p' ++ q)) = rw (length-cells (p ++ q), length-cells (p' ++ q), length-append p q, length-append p' q, e) in
        let zs = zeros (n - length (cells words (p ++ q))) in
        let s : cells words (p ++ q) ++ zs ≡ cells words q ++ (cells words p ++ zs) = rw (cells-append words p q, append_assoc (cells words q)) in
        (λ i. take (length q * size) (s i) ++ f (drop (length q * size) (s i)))
        ∙ rw (take_at (cells words q) (cells words p ++ zs) (length q * size) (length-cells q), drop_at (cells words q) (cells words p ++ zs) (length q * size) (length-cells q), h zs, ← append_assoc, ← cells-append words p' q, g)
