-- How many bytes a card has at most. Assumes nothing.
use Prim.Native.Nat.{ℕ, zero, suc, ◌+◌, ◌*◌, ◌/◌, ◌<◌, ◌≤◌}
use native.Mathlib.Omega.{arith}
use native.Mathlib.Nat.{suc-mul}
use mathlib.Core.Path.{◌≡◌, refl, ap}
use mathlib.Core.Bool.{Bool, true, false}
use mathlib.Core.List.{List, [], ◌∷◌, ◌++◌}
use lib.ListN.{length, length-append}
use borrow.Author.Tests.{leb-true}
use Rattle.std.proofs.Math.Option.{get_or}
use Rattle.std.proofs.lemmas.Bool.{and_parts}
use Rattle.rules.specs.Limits.{note_limit}
use Rattle.rules.specs.Records.{is_some}
use Rattle.cards.specs.Fields.{number, stands, under, bit_map, in_row, each, every}
use Rattle.cards.specs.Card.{Pitch, Note, Head, Bar, Form, pitch_bytes, note_bits, note_bytes, head_bits, head_bytes, bar_bytes, card_of, such_pitch, such_note, such_bar, note_count, card_tests, such}
use Rattle.cards.proofs.FieldLaws.{all_hold}
use Rattle.cards.proofs.JudgeLaws.{note_fits}
use Rattle.cards.proofs.RecordLaws.{bar-such}

length_number : (width n : ℕ) → length (number width n) ≡ width
unfolding number
length_number zero n = refl
length_number (suc width) n = ap suc (length_number width (n / 256))

under_most : (b : Bool) (xs : List ℕ) → length (under b xs) ≤ length xs
under_most true xs = omega arith
under_most false xs = omega arith

abbrev total : List (List ℕ) → ℕ
total [] = 0
total (field ∷ fields) = length field + total fields

length_row : (fields : List (List ℕ)) → length (in_row fields) ≡ total fields
unfolding in_row
length_row [] = refl
length_row (field ∷ fields) = omega (arith, length-append field (in_row fields), length_row fields)

each_most : {A : Type 0} (f : A → List ℕ) (p : A → Bool) (k : ℕ) → ((x : A) → p x ≡ true → length (f x) ≤ k) → (l : List A) → every p l ≡ true → length (each f l) ≤ length l * k
unfolding each every
each_most f p k most [] h = omega arith
each_most f p k most (x ∷ l) h =
    let t = and_parts (p x) (every p l) h in
    rw suc-mul (omega (arith, length-append (f x) (each f l), most x t.0, each_most f p k most l t.1))

module _ (form : Form) (narrow : form.width ≤ 4) where
  pitch_most : (q : Pitch) → such_pitch form q ≡ true → length (pitch_bytes form q) ≤ 6
  unfolding pitch_bytes in_row
  pitch_most q h = omega (arith, length-append (number form.width q.place) ((q.step + 7 * q.octave) ∷ q.alter ∷ []), length_number form.width q.place)

  abbrev note_fields : Note → List (List ℕ)
  note_fields n =
      (bit_map (note_bits n) ∷ [])
      ∷ number form.width n.place
      ∷ ((n.duration * 4 + n.dots) ∷ [])
      ∷ under (stands n.kind) (n.kind ∷ [])
      ∷ under (stands n.ties) (n.ties ∷ [])
      ∷ under (stands n.beam) (n.beam ∷ [])
      ∷ under (stands n.actual) (n.actual ∷ [])
      ∷ under (stands n.mark_count) (n.mark_count ∷ n.marks ∷ [])
      ∷ under (stands (length n.pitches)) (length n.pitches ∷ each (pitch_bytes form) n.pitches)
      ∷ []

  note_most : (n : Note) → such_note form n ≡ true → length (note_bytes form n) ≤ 61
  unfolding note_bytes
  note_most n h =
      let f = note_fits form n h in
      omega (
        arith,
        length_row (note_fields n),
        length_number form.width n.place,
        under_most (stands n.kind) (n.kind ∷ []),
        under_most (stands n.ties) (n.ties ∷ []),
        under_most (stands n.beam) (n.beam ∷ []),
        under_most (stands n.actual) (n.actual ∷ []),
        under_most (stands n.mark_count) (n.mark_count ∷ n.marks ∷ []),
        under_most (stands (length n.pitches)) (length n.pitches ∷ each (pitch_bytes form) n.pitches),
        each_most (pitch_bytes form) (such_pitch form) 6 pitch_most n.pitches f.all,
        f.pitches,
      )

  head_most : (count : ℕ) (h : Head) → length (head_bytes count h) ≤ 12
  unfolding head_bytes
  head_most count h =
      omega (
        arith,
        length_row ((bit_map (head_bits h) ∷ []) ∷ number 4 count ∷ under (stands h.clef) (h.clef ∷ []) ∷ under (is_some h.key) (get_or h.key 0 ∷ []) ∷ under (stands h.numerator) (h.numerator ∷ h.denominator ∷ h.symbol ∷ []) ∷ under (stands h.left) (h.left ∷ []) ∷ under (stands h.right) (h.right ∷ []) ∷ []),
        length_number 4 count,
        under_most (stands h.clef) (h.clef ∷ []),
        under_most (is_some h.key) (get_or h.key 0 ∷ []),
        under_most (stands h.numerator) (h.numerator ∷ h.denominator ∷ h.symbol ∷ []),
        under_most (stands h.left) (h.left ∷ []),
        under_most (stands h.right) (h.right ∷ []),
      )

  bars_most : (l : List Bar) → every (such_bar form) l ≡ true → length (each (bar_bytes form) l) ≤ note_count l * 73
  unfolding each every note_count bar_bytes
  bars_most [] h = omega arith
  bars_most (b ∷ l) h =
      let t = and_parts (such_bar form b) (every (such_bar form) l) h in
      let s = bar-such form b t.0 in
      let front = head_bytes (length b.notes) b.head in
      let own = each (note_bytes form) b.notes in
      omega (arith, length-append (front ++ own) (each (bar_bytes form) l), length-append front own, head_most (length b.notes) b.head, each_most (note_bytes form) (such_note form) 61 note_most b.notes s.2, s.1, bars_most l t.1)

  -- a card's length is a number of four bytes
  pub card_most : (l : List Bar) → such form l ≡ true → length (card_of form l) < 4294967296
  unfolding card_of such
  card_most l h =
      let t = all_hold (card_tests form l) h in
      omega (arith, length-append (number 4 (length l)) (each (bar_bytes form) l), length_number 4 (length l), bars_most l t.1.1.0, leb-true (note_count l) note_limit t.1.0)
