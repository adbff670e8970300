-- A note is taken from bytes exactly where they begin with the bytes of such a note. Assumes nothing.
use Prim.Native.Nat.{ℕ, ◌+◌, ◌*◌, ◌/◌, ◌%◌, ◌^◌, ◌<◌, ◌≤◌}
use native.Mathlib.Omega.{arith}
use native.Mathlib.Nat.{add-mul-mod_self_left, add-mul-div_left, mod-eq_of_lt, div-eq_of_lt, mul-add-mod_self_right, mul-add-div_right, mod-add-div}
use mathlib.Core.Path.{◌≡◌, refl, ap, sym, ◌∙◌}
use mathlib.Core.Bool.{Bool, true, false, cond, ◌&&◌}
use mathlib.Core.Option.{some, none}
use mathlib.Core.List.{List, [], ◌∷◌, ◌++◌, append_assoc, append-nil}
use lib.ListN.{length}
use lib.Dec.{leb, ltb}
use borrow.Author.Tests.{leb-true, ltb-true, eqb-true, eq-eqb}
use Rattle.std.proofs.lemmas.Bool.{and_parts}
use Rattle.rules.specs.Limits.{mark_capacity, pitch_capacity}
use Rattle.rules.specs.Words.{power_of_two}
use Rattle.cards.specs.Fields.{number, stands, under, bit_map, in_row, each, every}
use Rattle.cards.specs.Pieces.{bit_in}
use Rattle.cards.specs.Card.{Pitch, Note, Form, pitch_bytes, note_bits, note_bytes, pitch_tests, note_tests, such_pitch, such_note}
use Rattle.cards.specs.Taken.{byte_taken, number_taken, field_taken, repeated, pitch_in, pitch_taken, pitches_taken, note_in, such_map, note_taken}
use Rattle.cards.proofs.FieldLaws.{All, all_hold, bit-read, stands-not}
use Rattle.cards.proofs.TakenLaws.{taken_then, if_taken, byte_sound, number_sound, number_whole, field_sound, field_whole, repeated_sound, repeated_whole, taken_each, every_more}

-- ---- two numbers in a byte

-- step plus 7 times octave
step-read : (step octave : ℕ) → step ≤ 6 → (step + 7 * octave) % 7 ≡ step
step-read step octave h = rw (add-mul-mod_self_left step 7 octave) (mod-eq_of_lt (omega arith))

octave-read : (step octave : ℕ) → step ≤ 6 → (step + 7 * octave) / 7 ≡ octave
octave-read step octave h = rw (add-mul-div_left step octave {y = 7} (omega arith), div-eq_of_lt {n = step} {m = 7} (omega arith)) (omega arith)

-- duration times 4 plus dots
dots-read : (duration dots : ℕ) → dots ≤ 3 → (duration * 4 + dots) % 4 ≡ dots
dots-read duration dots h = rw mul-add-mod_self_right (mod-eq_of_lt (omega arith))

duration-read : (duration dots : ℕ) → dots ≤ 3 → (duration * 4 + dots) / 4 ≡ duration
duration-read duration dots h = rw (mul-add-div_right {m = 4} (omega arith) duration dots, div-eq_of_lt {n = dots} {m = 4} (omega arith)) (omega arith)

-- ---- fields

-- two bytes under one bit
two-under : (bit : Bool) (x y : ℕ) (r : List ℕ) → under bit (x ∷ []) ++ (under bit (y ∷ []) ++ r) ≡ under bit (x ∷ y ∷ []) ++ r
two-under true x y r = refl
two-under false x y r = refl

-- a count and what it counts, under one bit
count-under : {A : Type 0} (g : A → List ℕ) (bit : Bool) (l : List A) (r : List ℕ) → bit ≡ stands (length l) → under bit (length l ∷ []) ++ (each g l ++ r) ≡ under bit (length l ∷ each g l) ++ r
unfolding each
count-under g true l r e = refl
count-under g false [] r e = refl
count-under g false (x ∷ l) r e = absurd (let z = stands-not (length (x ∷ l)) (sym e) in omega arith)

module _ (form : Form) where
  -- ---- a pitch

  pub pitch_sound : (bytes : List ℕ) (y : Pitch × List ℕ) → pitch_taken form bytes ≡ some y → (bytes ≡ pitch_bytes form y.0 ++ y.1) × (such_pitch form y.0 ≡ true)
  unfolding pitch_taken pitch_bytes in_row
  pitch_sound bytes y e = taken_then (number_taken form.width bytes) _ e (λ place r f k. taken_then (byte_taken r) _ k (λ tone s g m. taken_then (byte_taken s) _ m (λ alter t h n.
      let q = pitch_in place tone alter in
      let c = if_taken (such_pitch form q) q t n in
      let row : number form.width place ++ (tone ∷ alter ∷ t) ≡ pitch_bytes form q ++ t = rw (append_assoc, mod-add-div tone 7) in (
        number_sound form.width bytes f ∙ (λ i. number form.width place ++ byte_sound r g i) ∙ (λ i. number form.width place ++ (tone ∷ byte_sound s h i)) ∙ row ∙ (λ i. pitch_bytes form (c.1 i) ++ c.2 i),
        (λ i. such_pitch form (sym c.1 i)) ∙ c.0,
      ))))

  module _ (fits : form.greatest < 256 ^ form.width) where
    pub pitch_whole : (q : Pitch) (r : List ℕ) → such_pitch form q ≡ true → pitch_taken form (pitch_bytes form q ++ r) ≡ some (q, r)
    unfolding pitch_taken pitch_bytes in_row such_pitch
    pitch_whole q r h =
        let t = all_hold (pitch_tests form q) h in
        let place : q.place < 256 ^ form.width = omega (arith, leb-true q.place form.greatest (and_parts (leb 1 q.place) (leb q.place form.greatest) t.0).1) in
        let s : q.step ≤ 6 = leb-true q.step 6 t.1.0 in
        rw (append_assoc, number_whole form.width q.place _ place, step-read q.step q.octave s, octave-read q.step q.octave s, h)

  -- ---- pitches

  pub pitches_sound : (count : ℕ) (bytes : List ℕ) (y : List Pitch × List ℕ) → pitches_taken form count bytes ≡ some y
      → (length y.0 ≡ count) × (bytes ≡ each (pitch_bytes form) y.0 ++ y.1) × (every (such_pitch form) y.0 ≡ true)
  unfolding pitches_taken every
  pitches_sound count bytes y e = go (leb count pitch_capacity) e
    where
      one : (l : List Pitch) (bs : List ℕ) (z : Pitch × List ℕ) → every (such_pitch form) l ≡ true → pitch_taken form bs ≡ some z → (bs ≡ pitch_bytes form z.0 ++ z.1) × (every (such_pitch form) (l ++ z.0 ∷ []) ≡ true)
      one l bs z h f = let a = pitch_sound bs z f in (a.0, every_more (such_pitch form) l z.0 h a.1)

      go : (b : Bool) → cond b (repeated (λ _. pitch_taken form) count bytes) none ≡ some y → (length y.0 ≡ count) × (bytes ≡ each (pitch_bytes form) y.0 ++ y.1) × (every (such_pitch form) y.0 ≡ true)
      go true f = repeated_sound (λ _. pitch_taken form) (pitch_bytes form) (λ l. every (such_pitch form) l ≡ true) refl one count bytes y f
      go false f = absurd cc

  -- ---- a note

  -- a note's bytes, front to back
  row_is : (n : Note) (r : List ℕ) → bit_map (note_bits n) ∷ (number form.width n.place ++ ((n.duration * 4 + n.dots) ∷ (under (stands n.kind) (n.kind ∷ []) ++ (under (stands n.ties) (n.ties ∷ []) ++ (under (stands n.beam) (n.beam ∷ []) ++ (under (stands n.actual) (n.actual ∷ []) ++ (under (stands n.mark_count) (n.mark_count ∷ []) ++ (under (stands n.mark_count) (n.marks ∷ []) ++ (under (stands (length n.pitches)) (length n.pitches ∷ []) ++ (each (pitch_bytes form) n.pitches ++ r))))))))))
      ≡ note_bytes form n ++ r
  unfolding note_bytes in_row
  row_is n r = rw (two-under (stands n.mark_count) n.mark_count n.marks, count-under (pitch_bytes form) (stands (length n.pitches)) n.pitches r refl) (simp (append_assoc, append-nil))

  -- the same under the bits of its map
  note-row : (map place size kind ties beam actual mark_count marks count : ℕ) (pitches : List Pitch) (r : List ℕ) → bit_map (note_bits (note_in place size kind ties beam actual mark_count marks pitches)) ≡ map → length pitches ≡ count
      → map ∷ (number form.width place ++ (size ∷ (under (bit_in 0 map) (kind ∷ []) ++ (under (bit_in 1 map) (ties ∷ []) ++ (under (bit_in 2 map) (beam ∷ []) ++ (under (bit_in 3 map) (actual ∷ []) ++ (under (bit_in 4 map) (mark_count ∷ []) ++ (under (bit_in 4 map) (marks ∷ []) ++ (under (bit_in 5 map) (count ∷ []) ++ (each (pitch_bytes form) pitches ++ r))))))))))
      ≡ note_bytes form (note_in place size kind ties beam actual mark_count marks pitches) ++ r
  note-row map place size kind ties beam actual mark_count marks count pitches r e n =
      let bits = note_bits (note_in place size kind ties beam actual mark_count marks pitches) in
      let b0 : bit_in 0 map ≡ stands kind = ap (bit_in 0) (sym e) ∙ bit-read 0 bits in
      let b1 : bit_in 1 map ≡ stands ties = ap (bit_in 1) (sym e) ∙ bit-read 1 bits in
      let b2 : bit_in 2 map ≡ stands beam = ap (bit_in 2) (sym e) ∙ bit-read 2 bits in
      let b3 : bit_in 3 map ≡ stands actual = ap (bit_in 3) (sym e) ∙ bit-read 3 bits in
      let b4 : bit_in 4 map ≡ stands mark_count = ap (bit_in 4) (sym e) ∙ bit-read 4 bits in
      let b5 : bit_in 5 map ≡ stands (length pitches) = ap (bit_in 5) (sym e) ∙ bit-read 5 bits in
      let w : size / 4 * 4 + size % 4 ≡ size = omega arith in
      rw (b0, b1, b2, b3, b4, b5, ← n, ← e) (let row = row_is (note_in place size kind ties beam actual mark_count marks pitches) r in rw w at row)

  -- a note of fields that are taken
  pub note_of_fields : (bytes r0 r1 r2 r3 r4 r5 r6 r7 r8 r9 r10 : List ℕ) (map place size kind ties beam actual mark_count marks count : ℕ) (pitches : List Pitch) (n : Note)
      → byte_taken bytes ≡ some (map, r0) → number_taken form.width r0 ≡ some (place, r1) → byte_taken r1 ≡ some (size, r2) → field_taken (bit_in 0 map) r2 ≡ some (kind, r3) → field_taken (bit_in 1 map) r3 ≡ some (ties, r4)
      → field_taken (bit_in 2 map) r4 ≡ some (beam, r5) → field_taken (bit_in 3 map) r5 ≡ some (actual, r6) → field_taken (bit_in 4 map) r6 ≡ some (mark_count, r7) → field_taken (bit_in 4 map) r7 ≡ some (marks, r8)
      → field_taken (bit_in 5 map) r8 ≡ some (count, r9) → pitches_taken form count r9 ≡ some (pitches, r10)
      → note_in place size kind ties beam actual mark_count marks pitches ≡ n → such_note form n ≡ true → bit_map (note_bits n) ≡ map → note_taken form bytes ≡ some (n, r10)
  unfolding note_taken
  note_of_fields bytes r0 r1 r2 r3 r4 r5 r6 r7 r8 r9 r10 map place size kind ties beam actual mark_count marks count pitches n e0 e1 e2 e3 e4 e5 e6 e7 e8 e9 e10 is s m =
      let k = note_in place size kind ties beam actual mark_count marks pitches in
      let t : such_note form k ≡ true = ap (such_note form) is ∙ s in
      let b : bit_map (note_bits k) ≡ map = ap (λ (x : Note). bit_map (note_bits x)) is ∙ m in
      rw (e0, e1, e2, e3, e4, e5, e6, e7, e8, e9, e10, t, eq-eqb (bit_map (note_bits k)) map b) (λ i. some (is i, r10))

  pub note_sound : (bytes : List ℕ) (y : Note × List ℕ) → note_taken form bytes ≡ some y → (bytes ≡ note_bytes form y.0 ++ y.1) × (such_note form y.0 ≡ true)
  unfolding note_taken
  note_sound bytes y e =
      taken_then (byte_taken bytes) _ e (λ map r0 e0 k0.
      taken_then (number_taken form.width r0) _ k0 (λ place r1 e1 k1.
      taken_then (byte_taken r1) _ k1 (λ size r2 e2 k2.
      taken_then (field_taken (bit_in 0 map) r2) _ k2 (λ kind r3 e3 k3.
      taken_then (field_taken (bit_in 1 map) r3) _ k3 (λ ties r4 e4 k4.
      taken_then (field_taken (bit_in 2 map) r4) _ k4 (λ beam r5 e5 k5.
      taken_then (field_taken (bit_in 3 map) r5) _ k5 (λ actual r6 e6 k6.
      taken_then (field_taken (bit_in 4 map) r6) _ k6 (λ mark_count r7 e7 k7.
      taken_then (field_taken (bit_in 4 map) r7) _ k7 (λ marks r8 e8 k8.
      taken_then (field_taken (bit_in 5 map) r8) _ k8 (λ count r9 e9 k9.
      taken_then (pitches_taken form count r9) _ k9 (λ pitches r10 e10 k10.
      let n = note_in place size kind ties beam actual mark_count marks pitches in
      let c = if_taken (such_note form n && such_map (note_bits n) map) n r10 k10 in
      let t = and_parts (such_note form n) (such_map (note_bits n) map) c.0 in
      let q = pitches_sound count r9 (pitches, r10) e10 in
      let row = note-row map place size kind ties beam actual mark_count marks count pitches r10 (eqb-true (bit_map (note_bits n)) map t.1) q.0 in
      let front : bytes ≡ note_bytes form n ++ r10 = rw (byte_sound bytes e0, number_sound form.width r0 e1, byte_sound r1 e2, (field_sound (bit_in 0 map) r2 e3).0, (field_sound (bit_in 1 map) r3 e4).0, (field_sound (bit_in 2 map) r4 e5).0, (field_sound (bit_in 3 map) r5 e6).0, (field_sound (bit_in 4 map) r6 e7).0, (field_sound (bit_in 4 map) r7 e8).0, (field_sound (bit_in 5 map) r8 e9).0, q.1) row in
      (front ∙ (λ i. note_bytes form (c.1 i) ++ c.2 i), (λ i. such_note form (sym c.1 i)) ∙ t.0))))))))))))

  module _ (fits : form.greatest < 256 ^ form.width) (n : Note) (r : List ℕ) (h : such_note form n ≡ true) where
    facts : All (note_tests form n)
    unfolding such_note
    facts = all_hold (note_tests form n) h

    pitches-whole : pitches_taken form (length n.pitches) (each (pitch_bytes form) n.pitches ++ r) ≡ some (n.pitches, r)
    unfolding pitches_taken
    pitches-whole = rw facts.1.1.1.1.1.1.1.1.0 (repeated_whole (λ _. pitch_taken form) (pitch_bytes form) n.pitches r (taken_each (pitch_taken form) (pitch_bytes form) (such_pitch form) (pitch_whole fits) [] n.pitches facts.1.1.1.1.1.1.1.1.1.1.0))

    no-marks : stands n.mark_count ≡ false → n.marks ≡ 0
    no-marks e =
        let k : n.marks < power_of_two n.mark_count = ltb-true n.marks (power_of_two n.mark_count) (and_parts (leb n.mark_count mark_capacity) (ltb n.marks (power_of_two n.mark_count)) facts.1.1.1.1.1.1.1.0).1 in
        let l : n.marks < 1 = rw (stands-not n.mark_count e) at k in
        omega arith

    pub note_whole : note_taken form (note_bytes form n ++ r) ≡ some (n, r)
    unfolding note_taken
    note_whole =
        let place : n.place < 256 ^ form.width = omega (arith, leb-true n.place form.greatest (and_parts (leb 1 n.place) (leb n.place form.greatest) facts.0).1) in
        rw (
          ← row_is n r,
          number_whole form.width n.place _ place,
          bit-read 0 (note_bits n),
          bit-read 1 (note_bits n),
          bit-read 2 (note_bits n),
          bit-read 3 (note_bits n),
          bit-read 4 (note_bits n),
          bit-read 5 (note_bits n),
          field_whole (stands n.kind) n.kind _ (stands-not n.kind),
          field_whole (stands n.ties) n.ties _ (stands-not n.ties),
          field_whole (stands n.beam) n.beam _ (stands-not n.beam),
          field_whole (stands n.actual) n.actual _ (stands-not n.actual),
          field_whole (stands n.mark_count) n.mark_count _ (stands-not n.mark_count),
          field_whole (stands n.mark_count) n.marks _ no-marks,
          field_whole (stands (length n.pitches)) (length n.pitches) _ (stands-not (length n.pitches)),
          pitches-whole,
          duration-read n.duration n.dots (leb-true n.dots 3 facts.1.1.0),
          dots-read n.duration n.dots (leb-true n.dots 3 facts.1.1.0),
          h,
          eq-eqb (bit_map (note_bits n)) (bit_map (note_bits n)) refl,
        )
