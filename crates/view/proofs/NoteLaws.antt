-- What the changes of a note's words are in the rules. Assumes nothing.
use Prim.Native.Nat.{ℕ, zero, suc, ◌+◌, ◌-◌, ◌*◌, ◌^◌, ◌<◌, ◌≤◌}
use native.Mathlib.Omega.{arith}
use native.Mathlib.Nat.{pow-suc, add_assoc}
use native.Mathlib.Numerals.{add-one}
use mathlib.Core.Path.{◌≡◌, refl, ap, ◌∙◌}
use mathlib.Core.Bool.{Bool, true, false, cond}
use mathlib.Core.List.{List, [], ◌∷◌, ◌++◌, append_assoc}
use lib.IntN.{ℤ, pos}
use lib.ListN.{length, set, take, length-append, length-replicate}
use lib.Seq.{take-append-add, drop-append-add, length-take-le}
use lib.Dec.{leb}
use Rattle.rules.specs.Limits.{note_size, first_pitch, pitch_size, pitch_capacity}
use Rattle.rules.specs.Records.{Pitch, Notations}
use Rattle.rules.specs.Rules.{with_tie_start, with_mark}
use Rattle.rules.specs.Words.{cells, zeros, padded, pitch_words, pitch_cells, power_of_two, marks_word, Numbered, note_words}
use Rattle.stores.specs.Cells.{written}
use Rattle.stores.specs.declared.note.TheConstants.{TIES}
use Rattle.stores.specs.Notes.{pitched, tie_started, marked}
use Rattle.stores.proofs.Parts.{take-zeros}
use Rattle.view.proofs.CellLaws.{length-cells, padded-added}

-- ---- lengths

pub length-pitch : (q : Pitch) → length (pitch_words q) ≡ pitch_size
length-pitch q = refl

pub length-note : (r : Numbered) → length (note_words r) ≡ note_size
length-note r =
    let qs = r.note.pitches in
    ap (λ (k : ℕ). suc (suc (suc (suc (suc (suc (suc (suc (suc (suc (suc (suc k))))))))))))
    (length-take-le (pitch_size * pitch_capacity) (cells pitch_words qs ++ zeros (pitch_size * pitch_capacity)) (rw (length-append, length-replicate) (omega arith)))

-- ---- pitches

-- words that fit, cut after their zeros
cut-padded : (n : ℕ) (xs : List ℤ) → length xs ≤ n → take n (xs ++ zeros n) ≡ padded n xs
cut-padded n xs h =
    let e : n ≡ length xs + (n - length xs) = omega arith in
    ap (λ (k : ℕ). take k (xs ++ zeros n)) e ∙ rw (take-append-add, take-zeros (n - length xs) n (omega arith))

-- words written behind others
written-past : (xs ys v : List ℤ) (b : ℕ) → written (xs ++ ys) (length xs + b) v ≡ xs ++ written ys b v
written-past xs ys v b = rw (take-append-add, add_assoc, drop-append-add, append_assoc)

pitch-added : (q : Pitch) (qs : List Pitch) → length qs < pitch_capacity → written (pitch_cells qs) (length qs * pitch_size) (pitch_words q) ≡ pitch_cells (q ∷ qs)
pitch-added q qs h =
    let size = pitch_size * pitch_capacity in
    let e = length-cells pitch_words pitch_size length-pitch qs in
    let g = length-cells pitch_words pitch_size length-pitch (q ∷ qs) in
    rw (cut-padded size (cells pitch_words qs) (omega arith), cut-padded size (cells pitch_words (q ∷ qs)) (omega arith)) (padded-added pitch_words pitch_size length-pitch size q qs (omega arith))

-- `add_pitch`
pub pitched-note : (q : Pitch) (r : Numbered) → length r.note.pitches < pitch_capacity
    → pitched q (note_words r) ≡ note_words (record { bar = r.bar; note = record { heading = r.note.heading; pitches = q ∷ r.note.pitches; notations = r.note.notations } })
pitched-note q r h =
    let qs = r.note.pitches in
    let head = take first_pitch (note_words (record { bar = r.bar; note = record { heading = r.note.heading; pitches = q ∷ qs; notations = r.note.notations } })) in
    rw (add-one (length qs)) (written-past head (pitch_cells qs) (pitch_words q) (length qs * pitch_size) ∙ ap (λ (l : List ℤ). head ++ l) (pitch-added q qs h))

-- ---- notations

-- the record with other notations
abbrev pub with_notations : Notations → Numbered → Numbered
with_notations d r = record { bar = r.bar; note = record { heading = r.note.heading; pitches = r.note.pitches; notations = d } }

-- `+`
pub tie-started-note : (r : Numbered) → tie_started (note_words r) ≡ note_words (with_notations (with_tie_start r.note.notations) r)
tie-started-note r = ap (λ (k : ℕ). set (note_words r) TIES (pos k)) (go r.note.notations.tie_start r.note.notations.tie_end)
  where
    go : (s e : Bool) → cond {A = ℕ} (leb 2 (cond s (cond e 3 1) (cond e 2 0))) 3 1 ≡ cond {A = ℕ} e 3 1
    go true true = refl
    go true false = refl
    go false true = refl
    go false false = refl

-- `t` and the fermata of `)`
pub marked-note : (m : Bool) (r : Numbered) → marked m (note_words r) ≡ note_words (with_notations (with_mark m r.note.notations) r)
marked-note m r = rw (add-one (length r.note.notations.marks))

-- ---- the bits of marks

pub power-of-two : (n : ℕ) → power_of_two n ≡ 2 ^ n
power-of-two zero = refl
power-of-two (suc n) = rw (pow-suc, power-of-two n) (omega arith)

-- marks stay below the next bit
pub marks-fit : (ms : List Bool) → marks_word ms < power_of_two (length ms)
marks-fit [] = omega arith
marks-fit (m ∷ ms) = go m (marks-fit ms)
  where
    go : (m : Bool) → marks_word ms < power_of_two (length ms) → marks_word ms + cond m (power_of_two (length ms)) 0 < power_of_two (length ms) + power_of_two (length ms)
    go true h = omega arith
    go false h = omega arith
