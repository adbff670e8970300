-- Groups: a walk over a part of the cells, from its first record on, changes what the rules change from the latest record back. Assumes nothing.
use Prim.Native.Nat.{ℕ, suc, ◌<◌}
use native.Mathlib.Omega.{arith}
use native.Mathlib.Numerals.{add-one}
use mathlib.Core.Path.{◌≡◌, refl, ap}
use mathlib.Core.Bool.{Bool, true, false, cond}
use mathlib.Core.List.{List, [], ◌∷◌, ◌++◌, append_assoc}
use lib.IntN.{ℤ}
use lib.ListN.{length}
use Rattle.rules.specs.Limits.{note_size}
use Rattle.rules.specs.Records.{Notations, Note}
use Rattle.rules.specs.Rules.{is_non_grace, non_grace_in, with_mark}
use Rattle.rules.specs.Refusals as refusals
use Rattle.rules.specs.Words.{cells, note_words}
use Rattle.stores.specs.Cells.{record_at, changed}
use Rattle.stores.specs.declared.note.TheConstants.{KIND}
use Rattle.stores.specs.Notes.{marked}
use Rattle.stores.specs.Groups.{timed_at, timed_count, last_non_grace, walked, fermata_in}
use Rattle.view.proofs.CellLaws.{record-read, record-changed, word_read}
use Rattle.view.proofs.NoteLaws.{length-note, marked-note}

-- ---- the walk over the words

-- the words of a note of bar b
abbrev pub words_in : ℕ → Note → List ℤ
words_in b n = note_words (record { bar = b; note = n })

pub length-in : (b : ℕ) (n : Note) → length (words_in b n) ≡ note_size
length-in b n = length-note (record { bar = b; note = n })

-- the note with other notations
abbrev pub renoted : Notations → Note → Note
renoted d n = record { heading = n.heading; pitches = n.pitches; notations = d }

-- the non-grace notes with notations by how many such stand before
abbrev pub notated_by : (ℕ → Notations → Notations) → List Note → List Note
notated_by f [] = []
notated_by f (n ∷ l) = renoted (cond (is_non_grace n) (f (non_grace_in l) n.notations) n.notations) n ∷ notated_by f l

pub length-notated : (f : ℕ → Notations → Notations) (l : List Note) → length (notated_by f l) ≡ length l
length-notated f [] = refl
length-notated f (n ∷ l) = ap suc (length-notated f l)

module _ (b : ℕ) (zs : List ℤ) where
  abbrev Holds : List ℤ → List Note → Type 0
  Holds l ns = l ≡ cells (words_in b) ns ++ zs

  shift : {l : List ℤ} (p : List Note) (x : Note) (q : List Note) → Holds l (p ++ x ∷ q) → Holds l (p ++ x ∷ [] ++ q)
  shift p x q e = rw (append_assoc p (x ∷ []) q) e

  timed-read : (l : List ℤ) (p : List Note) (x : Note) (q : List Note) → Holds l (p ++ x ∷ q) → timed_at l (length q) ≡ is_non_grace x
  timed-read l p x q e = rw (e, word_read (words_in b) note_size (length-in b) p x q zs KIND (omega arith))

  pub count-read : (l : List ℤ) (p q : List Note) → Holds l (p ++ q) → timed_count l (length q) ≡ non_grace_in q
  count-read l p [] e = refl
  count-read l p (x ∷ q) e = rw (timed-read l p x q e, count-read l (p ++ x ∷ []) q (shift p x q e), add-one)

  -- a walk that changes the words as f changes the notations
  module _ (g : ℕ → List ℤ → List ℤ) (f : ℕ → Notations → Notations) (says : (k : ℕ) (n : Note) → g k (words_in b n) ≡ words_in b (renoted (f k n.notations) n)) where
    -- one note
    one-changed : (w : List ℤ) (p : List Note) (x : Note) (q : List Note) (k : ℕ) → Holds w (p ++ x ∷ q)
        → cond (is_non_grace x) (changed note_size (g k) w (length q)) w ≡ cells (words_in b) (p ++ renoted (cond (is_non_grace x) (f k x.notations) x.notations) x ∷ q) ++ zs
    one-changed w p x q k e = go (is_non_grace x)
      where
        go : (t : Bool) → cond t (changed note_size (g k) w (length q)) w ≡ cells (words_in b) (p ++ renoted (cond t (f k x.notations) x.notations) x ∷ q) ++ zs
        go true = rw e (record-changed (words_in b) note_size (length-in b) p x q zs (g k) (renoted (f k x.notations) x) (says k x))
        go false = e

    pub walked-read : (l : List ℤ) (p q : List Note) → Holds l (p ++ q) → ((walked g l (length q)).0 ≡ cells (words_in b) (p ++ notated_by f q) ++ zs) × ((walked g l (length q)).1 ≡ non_grace_in q)
    walked-read l p [] e = (e, refl)
    walked-read l p (x ∷ q) e =
        let r = walked-read l (p ++ x ∷ []) q (shift p x q e) in
        let w = (walked g l (length q)).0 in
        let d : Holds w (p ++ x ∷ notated_by f q) = rw (append_assoc p (x ∷ []) (notated_by f q)) at r.0 in
        let t : timed_at w (length q) ≡ is_non_grace x = rw (length-notated f q) at (timed-read w p x (notated_by f q) d) in
        let m = rw (length-notated f q) at (one-changed w p x (notated_by f q) (non_grace_in q) d) in
        rw (t, r.1, add-one) (m, refl)

  -- a fermata at the one non-grace note
  none-notated : (f : ℕ → Notations → Notations) (q : List Note) → non_grace_in q ≡ 0 → notated_by f q ≡ q
  none-notated f [] h = refl
  none-notated f (x ∷ q) h = go (is_non_grace x) h (none-notated f q)
    where
      go : (t : Bool) → cond t (suc (non_grace_in q)) (non_grace_in q) ≡ 0 → (non_grace_in q ≡ 0 → notated_by f q ≡ q) → renoted (cond t (f (non_grace_in q) x.notations) x.notations) x ∷ notated_by f q ≡ x ∷ q
      go true h r = absurd (omega arith)
      go false h r = ap (λ (l : List Note). x ∷ l) (r h)

  pub fermata-read : (l : List ℤ) (p q : List Note) → Holds l (p ++ q) → non_grace_in q ≡ 1 → fermata_in l (length q) ≡ cells (words_in b) (p ++ notated_by (λ k. with_mark false) q) ++ zs
  fermata-read l p [] e h = absurd (omega arith)
  fermata-read l p (x ∷ q) e h = rw (timed-read l p x q e) (go (is_non_grace x) h (fermata-read l (p ++ x ∷ []) q (shift p x q e)))
    where
      go : (t : Bool) → cond t (suc (non_grace_in q)) (non_grace_in q) ≡ 1 → (non_grace_in q ≡ 1 → changed note_size (marked false) l (last_non_grace l (length q)) ≡ cells (words_in b) (p ++ x ∷ [] ++ notated_by (λ k. with_mark false) q) ++ zs)
          → changed note_size (marked false) l (cond t (length q) (last_non_grace l (length q))) ≡ cells (words_in b) (p ++ renoted (cond t (with_mark false x.notations) x.notations) x ∷ notated_by (λ k. with_mark false) q) ++ zs
      go true h r =
          let n : non_grace_in q ≡ 0 = omega arith in
          rw (none-notated (λ k. with_mark false) q n, e) (record-changed (words_in b) note_size (length-in b) p x q zs (marked false) (renoted (with_mark false x.notations) x) (marked-note false (record { bar = b; note = x })))
      go false h r = rw (append_assoc p (x ∷ []) (notated_by (λ k. with_mark false) q)) at (r h)

  -- the last non-grace record, where there is one: what holds of it and its words
  pub last-read : (Q : List Note → List ℤ → Type 0) → ((x : Note) (t : List Note) → Q (x ∷ t) (words_in b x))
      → (l : List ℤ) (p q t : List Note) → Holds l (p ++ q) → 0 < non_grace_in q → Q (refusals.last_non_grace (q ++ t)) (record_at note_size l (last_non_grace l (length q)))
  last-read Q is l p [] t e h = absurd (omega arith)
  last-read Q is l p (x ∷ q) t e h = rw (timed-read l p x q e) (go (is_non_grace x) h (last-read Q is l (p ++ x ∷ []) q t (shift p x q e)))
    where
      go : (c : Bool) → 0 < cond c (suc (non_grace_in q)) (non_grace_in q) → (0 < non_grace_in q → Q (refusals.last_non_grace (q ++ t)) (record_at note_size l (last_non_grace l (length q))))
          → Q (cond c (x ∷ (q ++ t)) (refusals.last_non_grace (q ++ t))) (record_at note_size l (cond c (length q) (last_non_grace l (length q))))
      go true h r = rw (e, record-read (words_in b) note_size (length-in b) p x q zs) (is x (q ++ t))
      go false h r = r h
