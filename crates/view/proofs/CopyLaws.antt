-- Copies of records are the rules' copies. Assumes nothing.
use Prim.Native.Nat.{ℕ}
use native.Mathlib.Nat.{zero-add}
use mathlib.Core.Path.{◌≡◌, refl, ap, ◌∙◌}
use mathlib.Core.List.{List, [], ◌∷◌, ◌++◌, map, append_assoc}
use lib.IntN.{ℤ}
use lib.ListN.{length, drop, length-map}
use Rattle.rules.specs.Limits.{note_size}
use Rattle.rules.specs.Records.{Note}
use Rattle.rules.specs.Rules.{copied}
use Rattle.rules.specs.Words.{cells, Numbered, note_words, in_bar}
use Rattle.stores.specs.Cells.{written, record_at}
use Rattle.stores.specs.Copies.{copy_of, copies}
use Rattle.view.proofs.CellLaws.{record-read}
use Rattle.view.proofs.NoteLaws.{length-note}

-- words written at the front
pub written-first : (l w : List ℤ) → written l 0 w ≡ w ++ drop (length w) l
written-first l w = rw zero-add

copied-note : (place bar : ℕ) (r : Numbered) → copy_of place bar (note_words r) ≡ note_words (record { bar = bar; note = copied place r.note })
copied-note place bar r = refl

-- copies of stored records are the rules' copies in the open bar
pub copies-records : (place bar : ℕ) (l zs : List ℤ) (p q : List Numbered) → l ≡ cells note_words (p ++ q) ++ zs → copies place bar l (length q) ≡ cells note_words (in_bar bar (map (copied place) (map (λ r. r.note) q)))
copies-records place bar l zs p [] e = refl
copies-records place bar l zs p (x ∷ q) e =
    let m = copies-records place bar l zs (p ++ x ∷ []) q (rw append_assoc e) in
    let r : record_at note_size l (length q) ≡ note_words x = rw e (record-read note_words note_size length-note p x q zs) in
    rw (m, r, copied-note)

-- and so are those of a bar's notes
pub copies-notes : (place bar c : ℕ) (ns : List Note) (zs : List ℤ) → copies place bar (cells note_words (in_bar c ns) ++ zs) (length ns) ≡ cells note_words (in_bar bar (map (copied place) ns))
copies-notes place bar c ns zs =
    rw (← length-map {B = Numbered} ns (λ n. record { bar = c; note = n })) (copies-records place bar (cells note_words (in_bar c ns) ++ zs) zs [] (in_bar c ns) refl ∙ ap (λ (l : List Note). cells note_words (in_bar bar (map (copied place) l))) (go ns))
  where
    go : (ns : List Note) → map (λ r. r.note) (in_bar c ns) ≡ ns
    go [] = refl
    go (n ∷ ns) = ap (λ (l : List Note). n ∷ l) (go ns)
