-- What can be read out of the note cells are the rules' notes, while no note has more pitches than a record holds. Assumes nothing.
use Prim.Native.Nat.{ℕ, zero, suc, ◌+◌, ◌-◌, ◌*◌, ◌≤◌}
use mathlib.Core.Path.{◌≡◌, refl, sym, ap, ◌∙◌, subst}
use mathlib.Core.List.{List, [], ◌∷◌, ◌++◌, map, append_assoc, map-append}
use native.Mathlib.Omega.{arith}
use native.Mathlib.Nat.{zero-mul, suc-mul}
use lib.IntN.{ℤ, pos}
use lib.ListN.{length, take, length-append, length-map, length-replicate}
use lib.Seq.{take_at, drop_at, take-append-add, length-take-le}
use Rattle.rules.specs.Limits.{pitch_capacity, pitch_size, note_size}
use Rattle.rules.specs.Records.{Pitch, Heading, Note, Bar, notes_of}
use Rattle.rules.specs.Words.{cells, zeros, padded, pitch_words, pitch_cells, Numbered, note_words, in_bar, numbered, note_cells}
use Rattle.rules.specs.Stored.{record_at, first_records, StoredPitch, StoredHeading, StoredNote, pitch_in, note_in, notes_in}
use Rattle.rules.specs.Agreement.{All}

-- ---- records of a size, read back

length-cells : {A : Type 0} (words : A → List ℤ) (size : ℕ) → ((x : A) → length (words x) ≡ size) → (l : List A) → length (cells words l) ≡ length l * size
length-cells words size h [] = rw zero-mul
length-cells words size h (x ∷ l) = rw (length-append, length-cells words size h l, h x, suc-mul) (omega arith)

-- the first records in cells are the words that were written, one record after the other
read_back : {A : Type 0} (words : A → List ℤ) (size : ℕ) → ((x : A) → length (words x) ≡ size) → (l : List A) (rest : List ℤ) → first_records size (cells words l ++ rest) (length l) ≡ map words l
read_back words size h [] rest = refl
read_back words size h (x ∷ l) rest = λ i. here i ∷ (ap (λ c. first_records size c (length l)) (append_assoc (cells words l) (words x) rest) ∙ read_back words size h l (words x ++ rest)) i
  where
    here : record_at size ((cells words l ++ words x) ++ rest) (length l) ≡ words x
    here = ap (λ c. record_at size c (length l)) (append_assoc (cells words l) (words x) rest)
        ∙ ap (take size) (drop_at (cells words l) (words x ++ rest) (length l * size) (length-cells words size h l))
        ∙ take_at (words x) rest size (h x)

-- ---- a note

-- a pitch and a heading as words
abbrev pub pitch_stored : Pitch → StoredPitch
pitch_stored q = record { place = pos q.place; step = pos q.step; octave = pos q.octave; alter = q.alter }

abbrev pub heading_stored : Heading → StoredHeading
heading_stored h = record { place = pos h.place; kind = pos h.kind; duration = pos h.duration; dots = pos h.dots }

abbrev pub note_stored : Note → StoredNote
note_stored n = record { heading = heading_stored n.heading; pitches = map pitch_stored n.pitches }

-- a note with no more pitches than a record holds
abbrev Fits : Note → Type 0
Fits n = length n.pitches ≤ pitch_capacity

length-note : (r : Numbered) → length (note_words r) ≡ note_size
length-note r =
    let qs = r.note.pitches in
    ap (λ (k : ℕ). suc (suc (suc (suc (suc (suc (suc (suc (suc (suc (suc (suc k))))))))))))
    (length-take-le (pitch_size * pitch_capacity) (cells pitch_words qs ++ zeros (pitch_size * pitch_capacity)) (rw (length-append, length-replicate) (omega arith)))

-- the cells of so many pitches are their words, then 0: none is cut off
pub pitches-whole : (qs : List Pitch) → length qs ≤ pitch_capacity → pitch_cells qs ≡ padded (pitch_size * pitch_capacity) (cells pitch_words qs)
pitches-whole qs h =
    let l : length words ≡ length qs * pitch_size = length-cells pitch_words pitch_size (λ q. refl) qs in
    let e : size ≡ length words + (size - length words) = omega (arith, l, h) in
    ap (λ n. take n (words ++ zeros size)) e ∙ take-append-add words (zeros size) (size - length words)
    ∙ ap (λ ws. words ++ ws) (take-zeros (size - length words) size (omega arith))
  where
    words : List ℤ
    words = cells pitch_words qs

    size : ℕ
    size = pitch_size * pitch_capacity

    take-zeros : (m n : ℕ) → m ≤ n → take m (zeros n) ≡ zeros m
    take-zeros zero n h = refl
    take-zeros (suc m) zero h = absurd (omega (arith, h))
    take-zeros (suc m) (suc n) h = ap (λ ws. pos 0 ∷ ws) (take-zeros m n (omega (arith, h)))

pitches-back : (qs : List Pitch) → length qs ≤ pitch_capacity → map pitch_in (first_records pitch_size (pitch_cells qs) (length qs)) ≡ map pitch_stored qs
pitches-back qs h = ap (λ c. map pitch_in (first_records pitch_size c (length qs))) (pitches-whole qs h) ∙ ap (map pitch_in) (read_back pitch_words pitch_size (λ q. refl) qs _) ∙ each qs
  where
    each : (l : List Pitch) → map pitch_in (map pitch_words l) ≡ map pitch_stored l
    each [] = refl
    each (q ∷ l) = ap (λ r. pitch_stored q ∷ r) (each l)

note-back : (r : Numbered) → Fits r.note → note_in (note_words r) ≡ note_stored r.note
note-back r h = λ i. record { heading = heading_stored r.note.heading; pitches = pitches-back r.note.pitches h i }

-- ---- all notes

notes-numbered : (bs : List Bar) → map (λ (r : Numbered). r.note) (numbered bs) ≡ notes_of bs
notes-numbered [] = refl
notes-numbered (b ∷ bs) = map-append (λ (r : Numbered). r.note) (in_bar (suc (length bs)) b.notes) (numbered bs) ∙ λ i. plain b.notes i ++ notes-numbered bs i
  where
    plain : (ns : List Note) → map (λ (r : Numbered). r.note) (in_bar (suc (length bs)) ns) ≡ ns
    plain [] = refl
    plain (n ∷ ns) = ap (λ r. n ∷ r) (plain ns)

notes-back : (rs : List Numbered) → All (λ r. Fits r.note) rs → map note_in (map note_words rs) ≡ map note_stored (map (λ (r : Numbered). r.note) rs)
notes-back [] h = refl
notes-back (r ∷ rs) h = λ i. note-back r h.0 i ∷ notes-back rs h.1 i

-- the records that can be read out of the cells are the notes of the bars
pub cells-back : (size : ℕ) (bs : List Bar) → All Fits (notes_of bs) → notes_in (padded size (note_cells bs)) (length (notes_of bs)) ≡ map note_stored (notes_of bs)
cells-back size bs h =
    ap (notes_in (padded size (note_cells bs))) (ap length (sym (notes-numbered bs)) ∙ length-map (numbered bs) (λ r. r.note))
    ∙ ap (map note_in) (read_back note_words note_size length-note (numbered bs) (zeros (size - length (note_cells bs))))
    ∙ notes-back (numbered bs) (unmap (numbered bs) (subst (All Fits) (sym (notes-numbered bs)) h))
    ∙ ap (map note_stored) (notes-numbered bs)
  where
    unmap : (rs : List Numbered) → All Fits (map (λ (r : Numbered). r.note) rs) → All (λ r. Fits r.note) rs
    unmap [] h = tt
    unmap (r ∷ rs) h = (h.0, unmap rs h.1)
