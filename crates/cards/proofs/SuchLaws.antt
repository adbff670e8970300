-- Words are judged exactly: `such_words` says whether some such note has them, and `note_of` is that note. Assumes nothing.
use Prim.Native.Nat.{ℕ, zero, suc, ◌+◌, ◌-◌, ◌*◌, ◌<◌, ◌≤◌}
use native.Mathlib.Omega.{arith}
use native.Mathlib.Nat.{add-zero}
use mathlib.Core.Path.{◌≡◌, refl, ap, sym, ◌∙◌}
use mathlib.Core.Bool.{Bool, true, false, cond}
use mathlib.Core.List.{List, [], ◌∷◌, ◌++◌}
use lib.IntN.{ℤ, pos, negsuc, sub_ℕ}
use lib.ListN.{length, get_or, drop, length-drop}
use lib.Seq.{drop-cons, drop_at, drop-drop}
use lib.Dec.{eqb, leb, ltb}
use borrow.Author.Tests.{leb-true, ltb-true, ltb-false, eqb-true, eq-eqb, lt-ltb, le-ltb}
use Rattle.rules.specs.Limits.{pitch_capacity, pitch_size, note_size}
use Rattle.rules.specs.Words.{zeros}
use Rattle.cards.specs.Fields.{holds, every, each}
use Rattle.cards.specs.Pieces.{capped, parts}
use Rattle.cards.specs.Card.{Pitch, Note, Form, pitch_tests, note_tests, such_pitch, such_note}
use Rattle.cards.specs.Words.{pitch_words, pitch_cells, normal_word, note_words}
use Rattle.cards.specs.Judged.{natural, raised, number_at, pitch_of, note_of, all_zero, word_tests, such_words}
use Rattle.std.proofs.lemmas.Bool.{and_parts}
use Rattle.cards.proofs.FieldLaws.{All, all_hold, parts-read}
use Rattle.tokens.proofs.Below.{below as below_all}
use Rattle.cards.proofs.PartLaws.{length-parts}
use Rattle.cards.proofs.WordLaws.{note-fits}

-- ---- from a note to its words and back

-- a number less j, and j more
pub raised_of : (j k : ℕ) → raised j (sub_ℕ k j) ≡ k
raised_of j k = go (ltb k j) refl
  where
    go : (b : Bool) → ltb k j ≡ b → raised j (cond b (negsuc (j - suc k)) (pos (k - j))) ≡ k
    go true e = let h = ltb-true k j e in rw (lt-ltb (j - suc k) j (omega arith)) (omega arith)
    go false e = let h = ltb-false k j e in omega arith

pitch-back : (form : Form) (q : Pitch) (r : List ℤ) → such_pitch form q ≡ true → pitch_of (pitch_words q ++ r) ≡ q
pitch-back form q r h = rw (raised_of 2 q.alter)

zeros-all : (k : ℕ) → all_zero (zeros k) ≡ true
unfolding all_zero
zeros-all zero = refl
zeros-all (suc k) = zeros-all k

pub length-pitches : (l : List Pitch) → length (each pitch_words l) ≡ pitch_size * length l
unfolding each
length-pitches [] = refl
length-pitches (q ∷ l) = let e : length (each pitch_words l) ≡ pitch_size * length l = length-pitches l in omega arith

module _ (form : Form) (bar : ℕ) (n : Note) (h : such_note form n ≡ true) where
  few : leb (length n.pitches) pitch_capacity ≡ true
  unfolding such_note
  few = (all_hold (note_tests form n) h).1.1.1.1.1.1.1.1.0

  pub note-of-words : note_of (note_words bar n) ≡ n
  unfolding note_of note_words pitch_cells such_note
  note-of-words = rw (few, parts-read pitch_of pitch_words pitch_size (λ q. refl) (such_pitch form) (pitch-back form) n.pitches (zeros (pitch_size * (pitch_capacity - length n.pitches))) (all_hold (note_tests form n) h).1.1.1.1.1.1.1.1.1.1.0)

  kept : holds (note_tests form n) ≡ true
  unfolding such_note
  kept = h

  first : leb (number_at (note_words bar n) 10) pitch_capacity ≡ true
  unfolding note_words
  first = few

  second : eqb (number_at (note_words bar n) 7) (normal_word (number_at (note_words bar n) 6)) ≡ true
  unfolding note_words
  second = eq-eqb (normal_word n.actual) (normal_word n.actual) refl

  third : eqb (number_at (note_words bar n) 11) bar ≡ true
  unfolding note_words
  third = eq-eqb bar bar refl

  fourth : all_zero (drop (12 + pitch_size * capped (number_at (note_words bar n) 10)) (note_words bar n)) ≡ true
  unfolding note_words pitch_cells
  fourth = rw (few, ← drop-drop, drop_at (each pitch_words n.pitches) (zeros (pitch_size * (pitch_capacity - length n.pitches))) (pitch_size * length n.pitches) (length-pitches n.pitches)) (zeros-all (pitch_size * (pitch_capacity - length n.pitches)))

  -- such a note's words are judged such
  pub words-such : such_words form bar (note_words bar n) ≡ true
  unfolding such_words holds
  words-such = rw (fourth, first, second, third, note-of-words) kept

-- ---- from words to the note

pub natural-back : (z : ℤ) → natural z < 4294967295 → pos (natural z) ≡ z
natural-back (pos n) h = refl
natural-back (negsuc n) h = absurd (omega arith)

-- a word plus j, and j less
pub raised-back : (j : ℕ) (z : ℤ) → raised j z < 4294967295 → sub_ℕ (raised j z) j ≡ z
raised-back j (pos n) h = rw (le-ltb (n + j) j (omega arith)) (ap pos (omega arith))
raised-back j (negsuc n) h = go (ltb n j) refl h
  where
    go : (b : Bool) → ltb n j ≡ b → cond b (j - suc n) 4294967295 < 4294967295 → sub_ℕ (cond b (j - suc n) 4294967295) j ≡ negsuc n
    go true e k = let l = ltb-true n j e in rw (lt-ltb (j - suc n) j (omega arith)) (ap negsuc (omega arith))
    go false e k = absurd (omega arith)

zero-back : (l : List ℤ) → all_zero l ≡ true → zeros (length l) ≡ l
unfolding all_zero
zero-back [] e = refl
zero-back (z ∷ l) e = let t = and_parts (eqb (natural z) 0) (all_zero l) e in let k : natural z ≡ 0 = eqb-true (natural z) 0 t.0 in
    λ i. (sym (ap pos k) ∙ natural-back z (omega arith)) i ∷ zero-back l t.1 i

-- the first k words of a list, and the others
abbrev pub heads : ℕ → List ℤ → ℕ → List ℤ
heads zero w i = []
heads (suc k) w i = get_or w i (pos 0) ∷ heads k w (suc i)

pub heads-all : (k : ℕ) (w : List ℤ) (i : ℕ) → i + k ≤ length w → heads k w i ++ drop (i + k) w ≡ drop i w
heads-all zero w i h = rw add-zero
heads-all (suc k) w i h =
    let e : i + suc k ≡ suc i + k = omega arith in
    rw e (ap (λ (l : List ℤ). get_or w i (pos 0) ∷ l) (heads-all k w (suc i) (omega arith)) ∙ sym (drop-cons w i (pos 0) (omega arith)))

module _ (form : Form) (large : form.greatest < 4294967295) where
  pitch-words-back : (a b c d : ℤ) (l : List ℤ) → such_pitch form (pitch_of (a ∷ b ∷ c ∷ d ∷ l)) ≡ true → pitch_words (pitch_of (a ∷ b ∷ c ∷ d ∷ l)) ≡ a ∷ b ∷ c ∷ d ∷ []
  unfolding such_pitch
  pitch-words-back a b c d l h =
      let t = all_hold (pitch_tests form (pitch_of (a ∷ b ∷ c ∷ d ∷ l))) h in
      let p : natural a ≤ form.greatest = leb-true (natural a) form.greatest (and_parts (leb 1 (natural a)) (leb (natural a) form.greatest) t.0).1 in
      let s : natural b ≤ 6 = leb-true (natural b) 6 t.1.0 in
      let o : natural c ≤ 9 = leb-true (natural c) 9 t.1.1.0 in
      let r : raised 2 d ≤ 4 = leb-true (raised 2 d) 4 t.1.1.1.0 in
      λ i. natural-back a (omega arith) i ∷ natural-back b (omega arith) i ∷ natural-back c (omega arith) i ∷ raised-back 2 d (omega arith) i ∷ []

  pitches-back : (k : ℕ) (l : List ℤ) → k * pitch_size ≤ length l → every (such_pitch form) (parts pitch_of pitch_size k l) ≡ true → each pitch_words (parts pitch_of pitch_size k l) ++ drop (k * pitch_size) l ≡ l
  unfolding parts each every
  pitches-back zero l n h = refl
  pitches-back (suc k) (a ∷ b ∷ c ∷ d ∷ l) n h =
      let t = and_parts (such_pitch form (pitch_of (a ∷ b ∷ c ∷ d ∷ l))) (every (such_pitch form) (parts pitch_of pitch_size k l)) h in
      let e : suc k * pitch_size ≡ 4 + k * pitch_size = omega arith in
      let g : drop (suc k * pitch_size) (a ∷ b ∷ c ∷ d ∷ l) ≡ drop (k * pitch_size) l = rw (e, ← drop-drop) in
      rw g ((λ i. pitch-words-back a b c d l t.0 i ++ (each pitch_words (parts pitch_of pitch_size k l) ++ drop (k * pitch_size) l)) ∙ (λ i. a ∷ b ∷ c ∷ d ∷ pitches-back k l (omega arith) t.1 i))
  pitches-back (suc k) [] n h = absurd (omega arith)
  pitches-back (suc k) (a ∷ []) n h = absurd (omega arith)
  pitches-back (suc k) (a ∷ b ∷ []) n h = absurd (omega arith)
  pitches-back (suc k) (a ∷ b ∷ c ∷ []) n h = absurd (omega arith)

  -- words that are judged such are those of such a note
  module _ (bar : ℕ) (w : List ℤ) (sized : length w ≡ note_size) (judged : such_words form bar w ≡ true) where
    tests : All (word_tests form bar w)
    unfolding such_words
    tests = all_hold (word_tests form bar w) judged

    pub such-of-words : such_note form (note_of w) ≡ true
    unfolding such_note such_words holds
    such-of-words = (and_parts (all_zero (drop (12 + pitch_size * capped (number_at w 10)) w)) (holds (note_tests form (note_of w))) (and_parts (eqb (number_at w 11) bar) _ (and_parts (eqb (number_at w 7) (normal_word (number_at w 6))) _ (and_parts (leb (number_at w 10) pitch_capacity) _ judged).1).1).1).1

    -- each of the first 12 words
    place-small : number_at w 0 ≤ form.greatest
    unfolding note_of
    place-small = leb-true (number_at w 0) form.greatest (and_parts (leb 1 (number_at w 0)) (leb (number_at w 0) form.greatest) tests.1.1.1.1.0).1

    count-is : capped (number_at w 10) ≡ number_at w 10
    count-is = rw tests.0

    normal-is : number_at w 7 ≡ normal_word (number_at w 6)
    normal-is = eqb-true (number_at w 7) (normal_word (number_at w 6)) tests.1.0

    normal-small : normal_word (number_at w 6) ≤ 255
    normal-small = leb-true (normal_word (number_at w 6)) 255 (below_all (λ (k : ℕ). leb (normal_word k) 255) 256 refl (number_at w 6) (omega (arith, (note-fits form w such-of-words).5)))

    bar-is : number_at w 11 ≡ bar
    bar-is = eqb-true (number_at w 11) bar tests.1.1.0

    cells-back : pitch_cells (parts pitch_of pitch_size (number_at w 10) (drop 12 w)) ≡ drop 12 w
    unfolding pitch_cells
    cells-back =
        let k = number_at w 10 in
        let few : k ≤ 8 = leb-true k 8 tests.0 in
        let len : length (drop 12 w) ≡ 32 = length-drop 12 w ∙ omega arith in
        let tail : zeros (length (drop (12 + pitch_size * k) w)) ≡ drop (12 + pitch_size * k) w = zero-back (drop (12 + pitch_size * k) w) (rw count-is at tests.1.1.1.0) in
        let size : length (drop (12 + pitch_size * k) w) ≡ pitch_size * (pitch_capacity - k) = length-drop (12 + pitch_size * k) w ∙ omega arith in
        let rest : zeros (pitch_size * (pitch_capacity - k)) ≡ drop (k * pitch_size) (drop 12 w) = sym (ap zeros size) ∙ tail ∙ (let e : 12 + pitch_size * k ≡ 12 + k * pitch_size = omega arith in rw (e, drop-drop)) in
        rw (length-parts pitch_of pitch_size k (drop 12 w), rest) (pitches-back k (drop 12 w) (omega arith) (rw count-is at (note-fits form w such-of-words).8))

    pub words_back : bar < 4294967295 → note_words bar (note_of w) ≡ w
    unfolding note_words note_of
    words_back small =
        let f = note-fits form w such-of-words in
        let n : number_at w 10 ≤ 8 = leb-true (number_at w 10) 8 tests.0 in
        rw (count-is, length-parts pitch_of pitch_size (number_at w 10) (drop 12 w), cells-back, ← normal-is, ← bar-is)
        ((λ i. natural-back (get_or w 0 (pos 0)) (omega (arith, place-small)) i ∷ natural-back (get_or w 1 (pos 0)) (omega arith) i ∷ natural-back (get_or w 2 (pos 0)) (omega arith) i ∷ natural-back (get_or w 3 (pos 0)) (omega arith) i
        ∷ natural-back (get_or w 4 (pos 0)) (omega arith) i ∷ natural-back (get_or w 5 (pos 0)) (omega arith) i ∷ natural-back (get_or w 6 (pos 0)) (omega arith) i ∷ natural-back (get_or w 7 (pos 0)) (omega (arith, normal-is, normal-small)) i
        ∷ natural-back (get_or w 8 (pos 0)) (omega arith) i ∷ natural-back (get_or w 9 (pos 0)) (omega arith) i ∷ natural-back (get_or w 10 (pos 0)) (omega arith) i ∷ natural-back (get_or w 11 (pos 0)) (omega (arith, bar-is)) i ∷ drop 12 w)
        ∙ heads-all 12 w 0 (omega arith))
