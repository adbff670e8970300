-- Lent words are judged exactly: `such_cells` says whether some such records have them, and `bars_of` are these. Assumes nothing.
use Prim.Native.Nat.{ℕ, zero, suc, ◌+◌, ◌-◌, ◌*◌, ◌/◌, ◌<◌, ◌≤◌}
use native.Mathlib.Omega.{arith}
use native.Mathlib.Nat.{suc-mul, mul-div_cancel}
use mathlib.Core.Path.{◌≡◌, refl, ap, sym, ◌∙◌}
use mathlib.Core.Bool.{true}
use mathlib.Core.List.{List, [], ◌∷◌, ◌++◌, append_assoc, append-nil}
use lib.IntN.{ℤ, pos}
use lib.ListN.{length, take, drop, length-append, length-replicate, length-drop, take-append-drop}
use lib.Seq.{take_at, drop_at, drop-drop, length-take-le}
use lib.Dec.{eqb, leb, ltb}
use borrow.Author.Tests.{leb-true, ltb-true, eqb-true, eq-eqb, le-leb, lt-ltb}
use Rattle.rules.specs.Limits.{pitch_capacity, pitch_size, note_size, bar_size, note_limit}
use Rattle.rules.specs.Words.{zeros}
use Rattle.std.proofs.lemmas.Bool.{and_parts}
use Rattle.cards.specs.Fields.{holds, every, each}
use Rattle.cards.specs.Pieces.{parts}
use Rattle.cards.specs.Card.{Note, Bar, Form, such_note, such_head, bar_tests, such_bar, note_tests, note_count, card_tests, such}
use Rattle.cards.specs.Words.{pitch_words, pitch_cells, note_words, head_words, note_cells, bar_cells}
use Rattle.cards.specs.Judged.{number_at, note_of, head_of, such_words, such_head_words}
use Rattle.cards.specs.Records.{first_bar, count_in, later_bars, later_notes, note_records, notes_of, such_first, such_bars, such_cells, bars_of}
use Rattle.cards.specs.Answers.{Holds}
use Rattle.cards.proofs.FieldLaws.{All, all_hold}
use Rattle.cards.proofs.PartLaws.{length-parts}
use Rattle.cards.proofs.SuchLaws.{length-pitches, words-such, such-of-words, words_back}
use Rattle.cards.proofs.HeadLaws.{length-head-words, head-words-such, count-of-words, such-of-head-words, head-words-back}

-- ---- sizes

pub length-note-words : (bar : ℕ) (n : Note) → length n.pitches ≤ pitch_capacity → length (note_words bar n) ≡ note_size
unfolding note_words pitch_cells
length-note-words bar n few =
    omega (arith, length-append (each pitch_words n.pitches) (zeros (pitch_size * (pitch_capacity - length n.pitches))), length-pitches n.pitches, length-replicate (pitch_size * (pitch_capacity - length n.pitches)) (pos 0), few)

pub such-few : (form : Form) (n : Note) → such_note form n ≡ true → length n.pitches ≤ pitch_capacity
unfolding such_note
such-few form n h = leb-true (length n.pitches) pitch_capacity (all_hold (note_tests form n) h).1.1.1.1.1.1.1.1.0

module _ (form : Form) where
  pub length-notes : (bar : ℕ) (ns : List Note) → every (such_note form) ns ≡ true → length (each (note_words bar) ns) ≡ length ns * note_size
  unfolding each every
  length-notes bar [] h = refl
  length-notes bar (n ∷ ns) h =
      let t = and_parts (such_note form n) (every (such_note form) ns) h in
      omega (arith, length-append (note_words bar n) (each (note_words bar) ns), length-note-words bar n (such-few form n t.0), length-notes bar ns t.1)

  -- what a bar is
  pub bar-such : (b : Bar) → such_bar form b ≡ true → (such_head b.head ≡ true) × (0 < length b.notes) × (every (such_note form) b.notes ≡ true)
  unfolding such_bar
  bar-such b h = let t = all_hold (bar_tests form b) h in (t.0, ltb-true 0 (length b.notes) t.1.0, t.1.1.0)

  -- what the bars of such records are
  pub such-bars : (l : List Bar) → such form l ≡ true → every (such_bar form) l ≡ true
  unfolding such
  such-bars l h = (all_hold (card_tests form l) h).1.1.0

  pub length-note-cells : (number : ℕ) (l : List Bar) → every (such_bar form) l ≡ true → length (note_cells number l) ≡ note_count l * note_size
  unfolding note_cells note_count every
  length-note-cells number [] h = refl
  length-note-cells number (b ∷ l) h =
      let t = and_parts (such_bar form b) (every (such_bar form) l) h in
      omega (arith, length-append (each (note_words number) b.notes) (note_cells (suc number) l), length-notes number b.notes (bar-such b t.0).2, length-note-cells (suc number) l t.1)

pub length-bar-cells : (first : ℕ) (l : List Bar) → length (bar_cells first l) ≡ length l * bar_size
unfolding bar_cells
length-bar-cells first [] = refl
length-bar-cells first (b ∷ l) =
    omega (arith, length-append (head_words first (length b.notes) b.head) (bar_cells (first + length b.notes) l), length-head-words first (length b.notes) b.head, length-bar-cells (first + length b.notes) l)

-- ---- from records to their words

module _ (form : Form) where
  notes-such : (bar : ℕ) (ns : List Note) (r : List ℤ) → every (such_note form) ns ≡ true → every (such_words form bar) (note_records (length ns) (each (note_words bar) ns ++ r)) ≡ true
  unfolding parts each every
  notes-such bar [] r h = refl
  notes-such bar (n ∷ ns) r h =
      let t = and_parts (such_note form n) (every (such_note form) ns) h in
      let size = length-note-words bar n (such-few form n t.0) in
      let rest = each (note_words bar) ns ++ r in
      rw (append_assoc (note_words bar n) (each (note_words bar) ns) r, take_at (note_words bar n) rest note_size size, drop_at (note_words bar n) rest note_size size, words-such form bar n t.0) (notes-such bar ns r t.1)

  bars-such : (number first : ℕ) (l : List Bar) → every (such_bar form) l ≡ true → such_bars form (length l) number first (note_cells number l) (bar_cells first l) ≡ true
  unfolding such_bars such_first note_cells bar_cells every holds
  bars-such number first [] h = refl
  bars-such number first (b ∷ l) h =
      let t = and_parts (such_bar form b) (every (such_bar form) l) h in
      let s = bar-such form b t.0 in
      let c = length b.notes in
      let words = head_words first c b.head in
      let later = bar_cells (first + c) l in
      let own = each (note_words number) b.notes in
      let behind = note_cells (suc number) l in
      let front : take bar_size (words ++ later) ≡ words = take_at words later bar_size (length-head-words first c b.head) in
      let judged : such_head_words first words ≡ true = ap (such_head_words first) (sym (append-nil words)) ∙ head-words-such first c b.head [] s.0 in
      let count : number_at words 1 ≡ c = ap (λ (w : List ℤ). number_at w 1) (sym (append-nil words)) ∙ count-of-words first c b.head [] in
      let sized : length own ≡ c * note_size = length-notes form number b.notes s.2 in
      rw (
        front,
        count,
        judged,
        lt-ltb 0 c s.1,
        le-leb (c * note_size) (length (own ++ behind)) (omega (arith, length-append own behind, sized)),
        notes-such number b.notes behind s.2,
        drop_at own behind (c * note_size) sized,
        drop_at words later bar_size (length-head-words first c b.head),
      )
      (bars-such (suc number) (first + c) l t.1)

  -- such records' words are judged such
  pub cells-such : (notes bars : List ℤ) (l : List Bar) → Holds form notes bars l → such_cells form notes bars ≡ true
  unfolding such_cells such holds
  cells-such notes bars l h =
      let t = all_hold (card_tests form l) h.are in
      let some : 0 < length l = ltb-true 0 (length l) t.0 in
      let few = leb-true (note_count l) note_limit t.1.0 in
      let size : length bars ≡ length l * bar_size = ap length h.bar_words ∙ length-bar-cells 0 l in
      let left : length bars / bar_size ≡ length l = ap (λ (n : ℕ). n / bar_size) size ∙ mul-div_cancel (length l) (omega arith) in
      let all : length notes ≡ note_count l * note_size = ap length h.note_words ∙ length-note-cells form 1 l t.1.1.0 in
      let judged : such_bars form (length l) 1 0 notes bars ≡ true = (λ i. such_bars form (length l) 1 0 (h.note_words i) (h.bar_words i)) ∙ bars-such 1 0 l t.1.1.0 in
      rw (left, judged, lt-ltb 0 (length l) some, eq-eqb (length bars) (length l * bar_size) size, le-leb (length notes) (note_limit * note_size) (omega arith))

-- ---- from words to their records

module _ (form : Form) (large : form.greatest < 4294967295) where
  notes-back : (bar count : ℕ) (l : List ℤ) → bar < 4294967295 → count * note_size ≤ length l → every (such_words form bar) (note_records count l) ≡ true
      → (every (such_note form) (notes_of count l) ≡ true) × (l ≡ each (note_words bar) (notes_of count l) ++ later_notes count l)
  unfolding parts each every
  notes-back bar zero l small size h = (refl, refl)
  notes-back bar (suc count) l small size h =
      let t = and_parts (such_words form bar (take note_size l)) (every (such_words form bar) (note_records count (drop note_size l))) h in
      let w = take note_size l in
      let sized : length w ≡ note_size = length-take-le note_size l (omega arith) in
      let rest = notes-back bar count (drop note_size l) small (omega (arith, length-drop note_size l)) t.1 in
      let own : note_words bar (note_of w) ≡ w = words_back form large bar w sized t.0 small in
      let e : note_size + count * note_size ≡ suc count * note_size = rw suc-mul (omega arith) in (
        rw (such-of-words form large bar w sized t.0) rest.0,
        sym (take-append-drop note_size l) ∙ (λ i. sym own i ++ rest.1 i) ∙ sym (append_assoc (note_words bar (note_of w)) (each (note_words bar) (notes_of count (drop note_size l))) (later_notes count (drop note_size l)))
            ∙ (λ i. (note_words bar (note_of w) ++ each (note_words bar) (notes_of count (drop note_size l))) ++ (drop-drop (count * note_size) note_size l ∙ ap (λ (k : ℕ). drop k l) e) i),
      )

  -- what the words of `left` bars are
  pub record Back (left number first : ℕ) (notes bars : List ℤ) : Type 0 where
    pub are : every (such_bar form) (bars_of left notes bars) ≡ true
    pub note_words : notes ≡ note_cells number (bars_of left notes bars)
    pub bar_words : bars ≡ bar_cells first (bars_of left notes bars)
    pub count : length (bars_of left notes bars) ≡ left

  -- the first of the bars
  module _ (number first : ℕ) (notes bars : List ℤ) (small : number + length notes < 4294967295) (low : first + length notes < 4294967295) (size : bar_size ≤ length bars) (judged : such_first form number first notes bars ≡ true) where
    tests : All (such_head_words first (first_bar bars) ∷ ltb 0 (count_in bars) ∷ leb (count_in bars * note_size) (length notes) ∷ every (such_words form number) (note_records (count_in bars) notes) ∷ [])
    unfolding such_first
    tests = all_hold (such_head_words first (first_bar bars) ∷ ltb 0 (count_in bars) ∷ leb (count_in bars * note_size) (length notes) ∷ every (such_words form number) (note_records (count_in bars) notes) ∷ []) judged

    pub some : 0 < count_in bars
    some = ltb-true 0 (count_in bars) tests.1.0

    pub room : count_in bars * note_size ≤ length notes
    room = leb-true (count_in bars * note_size) (length notes) tests.1.1.0

    pub first-notes : (every (such_note form) (notes_of (count_in bars) notes) ≡ true) × (notes ≡ each (note_words number) (notes_of (count_in bars) notes) ++ later_notes (count_in bars) notes)
    first-notes = notes-back number (count_in bars) notes (omega arith) room tests.1.1.1.0

    pub first_head : such_head (head_of (first_bar bars)) ≡ true
    first_head = such-of-head-words first (first_bar bars) tests.0

    pub first-words : head_words first (count_in bars) (head_of (first_bar bars)) ≡ first_bar bars
    first-words = head-words-back first (first_bar bars) (length-take-le bar_size bars size) tests.0 (omega arith) (omega (arith, room))

  -- words that are judged such are those of such records
  pub bars-back : (left number first : ℕ) (notes bars : List ℤ) → number + length notes < 4294967295 → first + length notes < 4294967295 → length bars ≡ left * bar_size → such_bars form left number first notes bars ≡ true
      → Back left number first notes bars
  unfolding such_bars bars_of every note_cells bar_cells such_bar holds
  bars-back zero number first [] [] small low size h = record { are = refl; note_words = refl; bar_words = refl; count = refl }
  bars-back zero number first (w ∷ notes) bars small low size h = absurd (let e : suc (length notes) ≡ 0 = eqb-true (suc (length notes)) 0 h in omega arith)
  bars-back zero number first [] (w ∷ bars) small low size h = absurd (omega arith)
  bars-back (suc left) number first notes bars small low size h =
      let t = and_parts (such_first form number first notes bars) (such_bars form left (suc number) (first + count_in bars) (later_notes (count_in bars) notes) (later_bars bars)) h in
      let c = count_in bars in
      let long : bar_size ≤ length bars = omega arith in
      let one = some number first notes bars small low long t.0 in
      let fit = room number first notes bars small low long t.0 in
      let own = first-notes number first notes bars small low long t.0 in
      let words = first-words number first notes bars small low long t.0 in
      let counted : length (notes_of c notes) ≡ c = length-parts (λ (w : List ℤ). note_of (take note_size w)) note_size c notes in
      let less : length (later_notes c notes) ≡ length notes - c * note_size = length-drop (c * note_size) notes in
      let rest = bars-back left (suc number) (first + c) (later_notes c notes) (later_bars bars) (omega arith) (omega arith) (omega (arith, length-drop bar_size bars)) t.1 in
      record {
        are = rw (first_head number first notes bars small low long t.0, counted, lt-ltb 0 c one, own.0) rest.are;
        note_words = own.1 ∙ ap (λ (l : List ℤ). each (note_words number) (notes_of c notes) ++ l) rest.note_words;
        bar_words = sym (take-append-drop bar_size bars) ∙ (λ i. sym words i ++ rest.bar_words i) ∙ rw counted;
        count = ap suc rest.count;
      }

  pub cells-hold : (notes bars : List ℤ) → such_cells form notes bars ≡ true → Holds form notes bars (bars_of (length bars / bar_size) notes bars)
  unfolding such_cells such holds
  cells-hold notes bars h =
      let left = length bars / bar_size in
      let t = all_hold (ltb 0 left ∷ eqb (length bars) (left * bar_size) ∷ leb (length notes) (note_limit * note_size) ∷ such_bars form left 1 0 notes bars ∷ []) h in
      let few = leb-true (length notes) (note_limit * note_size) t.1.1.0 in
      let back = bars-back left 1 0 notes bars (omega arith) (omega arith) (eqb-true (length bars) (left * bar_size) t.1.0) t.1.1.1.0 in
      let all : length notes ≡ note_count (bars_of left notes bars) * note_size = ap length back.note_words ∙ length-note-cells form 1 (bars_of left notes bars) back.are in
      record {
        are = rw (back.count, t.0, back.are, le-leb (note_count (bars_of left notes bars)) note_limit (omega arith));
        note_words = back.note_words;
        bar_words = back.bar_words;
      }
