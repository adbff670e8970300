-- What is stored of a card that is read, step by step. Assumes nothing.
use Prim.Native.Nat.{ℕ, suc, ◌+◌, ◌-◌, ◌*◌, ◌^◌, ◌<◌, ◌≤◌}
use native.Mathlib.Omega.{arith}
use native.Mathlib.Nat.{add-zero, zero-add, zero-mul, suc-mul, lt_of_not-le}
use native.Mathlib.Numerals.{add-one}
use mathlib.Core.Path.{◌≡◌, refl, ap, sym, ◌∙◌}
use mathlib.Core.Bool.{true, false, false≢true}
use mathlib.Core.Option.{some, get_or}
use mathlib.Core.List.{List, [], ◌∷◌, ◌++◌, map, append_assoc, append-nil}
use lib.IntN.{ℤ, pos}
use lib.ListN as lists
use lib.ListN.{length, take, drop, length-append, length-drop, length-replicate, take-append-drop}
use lib.Seq.{take_at, drop_at, drop-drop, length-take-le}
use lib.Dec.{leb}
use borrow.Author.Tests.{leb-true, le-leb, lt-leb}
use denote.Ref.{MutBor}
use borrow.Rule.Slice.PartMut.{put_mid}
use Rattle.std.specs.Prelude.{◌↔◌, Option, Some, None, Result, Ok, Err, is_err, IsErr, OnOk, OnErr}
use Rattle.std.proofs.lemmas.List.{length-map}
use Rattle.rules.specs.Limits.{note_limit, note_size, bar_size, first_pitch, pitch_size, pitch_capacity}
use Rattle.std.proofs.lemmas.Bool.{and_parts}
use Rattle.rules.specs.Words.{zeros, padded, meter_words}
use Rattle.rules.specs.Words as rules
use Rattle.tokens.specs.Attributes.{clef_in, meter_in, symbol_number}
use Rattle.tokens.specs.Steps.{edge_number}
use Rattle.tokens.specs.declared.attributes.Clef.{Clef}
use Rattle.tokens.specs.declared.attributes.Symbol.{Symbol}
use Rattle.tokens.specs.declared.attributes.Meter.{Meter}
use Rattle.stores.specs.Bars.{fifths_in}
use Rattle.stores.specs.declared.cells.Records.{Records}
use Rattle.stores.specs.Cells.{written, with_record}
use Rattle.stores.proofs.Parts.{put_written}
use Rattle.stores.proofs.Blank.{blank-cleared}
use Rattle.cards.specs.Fields.{each, every, between}
use Rattle.cards.specs.Card.{Bar, Form, pitch_tests, such_pitch, note_tests, such_note, head_tests, such_head, note_count}
use Rattle.cards.specs.Card as card
use Rattle.cards.specs.Words.{pitch_words, pitch_cells, note_words, key_words, head_words, bar_words, note_cells, bar_cells}
use Rattle.cards.specs.Values.{clef_value, symbol_value, key_value, numerator_of, denominator_of, symbol_of, card_pitch, card_note, card_head}
use Rattle.cards.specs.declared.notes.Pitch.{Pitch}
use Rattle.cards.specs.declared.notes.Note.{Note}
use Rattle.cards.specs.declared.read.CardCounts.{CardCounts}
use Rattle.cards.specs.Taken.{note_taken, notes_taken, bar_behind, bars_taken, card_taken, repeated}
use Rattle.cards.specs.declared.heads.Head.{Head}
use Rattle.cards.proofs.FieldLaws.{all_hold}
use Rattle.cards.proofs.PartLaws.{each_append}
use Rattle.cards.proofs.SuchLaws.{length-pitches}
use Rattle.cards.proofs.ValueLaws.{length_pitches, each_taken, every_taken}
use Rattle.cards.proofs.CardTaken.{bars_sound, card_sound, card_found, note-count-more}
use Rattle.cards.proofs.RecordLaws.{such-bars, length-note-cells, length-bar-cells}
use Rattle.cards.specs.ReadBack.{read_back, Appends, Stores, IsCleared, NotesRead, BarRead, BarsRead, CardRead, ReadsCard}
use Rattle.cards.specs.Answers.{Read, read_refused, read_of, ReadBack}
use Rattle.cards.specs.Errors.{error_number}
use Rattle.cards.specs.declared.error.CardError.{CardError}

-- ---- words stored behind others

pub length_written : (l : List ℤ) (at : ℕ) (w : List ℤ) → at + length w ≤ length l → length (written l at w) ≡ length l
length_written l at w h = rw (length-append, length-append, length-take-le at l (omega arith), length-drop) (omega arith)

pub append_none : (l : List ℤ) (at : ℕ) → Appends [] l at l at
append_none l at = record { sized = refl; stored = λ h. sym (rw add-zero (take-append-drop at l)); next = λ h. omega arith }

-- words behind words that were stored
seam : (a b l m : List ℤ) (i j : ℕ) → m ≡ written l i a → j ≡ i + length a → i + length a + length b ≤ length l → written m j b ≡ written l i (a ++ b)
seam a b l m i j e f h =
    let d = drop (i + length a) l in
    let front : length (take i l ++ a) ≡ j = rw (length-append, length-take-le i l (omega arith)) (omega arith) in
    let whole : m ≡ (take i l ++ a) ++ d = e ∙ sym (append_assoc (take i l) a d) in
    let before : take j m ≡ take i l ++ a = ap (take j) whole ∙ take_at (take i l ++ a) d j front in
    let far : i + length a + length b ≡ i + length (a ++ b) = omega (arith, length-append a b) in
    let behind : drop (j + length b) m ≡ drop (i + length (a ++ b)) l =
    sym (drop-drop (length b) j m) ∙ ap (drop (length b)) (ap (drop j) whole ∙ drop_at (take i l ++ a) d j front) ∙ drop-drop (length b) (i + length a) l ∙ ap (λ k. drop k l) far in
    let rest = drop (i + length (a ++ b)) l in
    (λ t. before t ++ (b ++ behind t)) ∙ append_assoc (take i l) a (b ++ rest) ∙ ap (λ x. take i l ++ x) (sym (append_assoc a b rest))

pub append_then : {a b l m n : List ℤ} {i j k : ℕ} → Appends a l i m j → Appends b m j n k → Appends (a ++ b) l i n k
append_then {a} {b} {l} {m} {n} {i} {j} {k} s t = record {
  sized = t.sized ∙ s.sized;
  stored = λ h. t.stored (second h) ∙ seam a b l m i j (s.stored (first h)) (s.next (first h)) (omega (arith, h, length-append a b));
  next = λ h. omega (arith, t.next (second h), s.next (first h), length-append a b);
}
  where
    first : i + length (a ++ b) ≤ length l → i + length a ≤ length l
    first h = omega (arith, h, length-append a b)

    second : i + length (a ++ b) ≤ length l → j + length b ≤ length m
    second h = omega (arith, h, length-append a b, s.next (first h), s.sized)

pub append_as : {a b l m : List ℤ} {i j : ℕ} → a ≡ b → Appends a l i m j → Appends b l i m j
append_as {a} {b} {l} {m} {i} {j} e s = rw e at s

-- words stored in cleared cells
pub written_cleared : (n : ℕ) (w : List ℤ) → written (zeros n) 0 w ≡ padded n w
written_cleared n w = ap (λ (l : List ℤ). w ++ l) (ap (λ (k : ℕ). drop k (zeros n)) (zero-add (length w)) ∙ blank-cleared n (length w) ∙ rw length-replicate)

-- ---- one more bar

pub note_cells_more : (number : ℕ) (l : List Bar) (b : Bar) → note_cells number (l ++ b ∷ []) ≡ note_cells number l ++ each (note_words (number + length l)) b.notes
unfolding note_cells
note_cells_more number [] b = rw (append-nil, add-zero)
note_cells_more number (x ∷ l) b = let e : suc number + length l ≡ number + suc (length l) = omega arith in rw (note_cells_more (suc number) l b, e, append_assoc)

pub bar_cells_more : (first : ℕ) (l : List Bar) (b : Bar) → bar_cells first (l ++ b ∷ []) ≡ bar_cells first l ++ bar_words (first + note_count l) b
unfolding bar_cells note_count
bar_cells_more first [] b = rw (append-nil, add-zero)
bar_cells_more first (x ∷ l) b =
    let e : first + length x.notes + note_count l ≡ first + (length x.notes + note_count l) = omega arith in
    rw (bar_cells_more (first + length x.notes) l b, e, append_assoc)

-- ---- a head's words are those of a bar's record

clef_same : (c : Option Clef) → get_or (clef_in c) 0 ≡ clef_value c
clef_same (Some c) = refl
clef_same None = refl

symbol_same : (s : Option Symbol) → symbol_number s ≡ symbol_value s
symbol_same (Some s) = refl
symbol_same None = refl

meter_front : (m : Option Meter) (r : List ℤ) → meter_words (meter_in m) ++ r ≡ pos (numerator_of m) ∷ pos (denominator_of m) ∷ pos (symbol_of m) ∷ r
meter_front (Some m) r = rw (symbol_same m.symbol)
meter_front None r = refl

pub bar_same : (first count : ℕ) (h : Head) (fifths : Option ℤ) → rules.key_words (fifths_in fifths) ≡ key_words (key_value h.key)
    → pos first ∷ pos count ∷ pos (get_or (clef_in h.clef) 0) ∷ rules.key_words (fifths_in fifths) ++ meter_words (meter_in h.meter) ++ pos (edge_number h.left) ∷ pos (edge_number h.right) ∷ [] ≡ head_words first count (card_head h)
unfolding head_words
bar_same first count h fifths e =
    let ends = pos (edge_number h.left) ∷ pos (edge_number h.right) ∷ [] in
    append_assoc (pos first ∷ pos count ∷ pos (get_or (clef_in h.clef) 0) ∷ rules.key_words (fifths_in fifths)) (meter_words (meter_in h.meter)) ends
    ∙ (λ i. (pos first ∷ pos count ∷ pos (clef_same h.clef i) ∷ e i) ++ meter_front h.meter ends i)

pub head_key : (h : card.Head) → such_head h ≡ true → get_or h.key 0 ≤ 14
unfolding such_head
head_key h s = leb-true (get_or h.key 0) 14 (all_hold (head_tests h) s).1.0

-- ---- a note's words

-- places are words
pub note_place : (form : Form) (n : card.Note) → such_note form n ≡ true → n.place ≤ form.greatest
unfolding such_note
note_place form n h = leb-true n.place form.greatest (and_parts (leb 1 n.place) (leb n.place form.greatest) (all_hold (note_tests form n) h).0).1

note_pitches : (form : Form) (n : card.Note) → such_note form n ≡ true → every (such_pitch form) n.pitches ≡ true
unfolding such_note
note_pitches form n h = (all_hold (note_tests form n) h).1.1.1.1.1.1.1.1.1.1.0

pub pitch_place : (form : Form) (n : Note) (blank : Pitch) (i : ℕ) → such_note form (card_note n) ≡ true → i < n.pitches.count → (lists.get_or n.pitches.list i blank).place ≤ form.greatest
unfolding such_pitch
pitch_place form n blank i h k =
    let qs = n.pitches in
    let q = lists.get_or qs.list i blank in
    let such = every_taken card_pitch (such_pitch form) blank qs.list qs.count i k (omega (arith, qs.few, qs.whole)) (note_pitches form (card_note n) h) in
    let t = all_hold (pitch_tests form (card_pitch q)) such in
    leb-true q.place form.greatest (and_parts (leb 1 q.place) (leb q.place form.greatest) t.0).1

-- the first i pitches, and blank ones behind them
abbrev pub pitches_so_far : Note → ℕ → List ℤ
pitches_so_far n i = each pitch_words (map card_pitch (take i n.pitches.list)) ++ zeros (pitch_size * (pitch_capacity - i))

-- words written over the first of blank ones
blank_written : (f b w words : List ℤ) (z at k : ℕ) → words ≡ f ++ (b ++ zeros z) → length f + length b ≡ at → length w ≡ k → put_mid at k words w ≡ f ++ ((b ++ w) ++ zeros (z - k))
blank_written f b w words z at k e h m =
    let front : length (f ++ b) ≡ at = length-append f b ∙ h in
    let whole : words ≡ (f ++ b) ++ zeros z = e ∙ sym (append_assoc f b (zeros z)) in
    let before : take at words ≡ f ++ b = ap (take at) whole ∙ take_at (f ++ b) (zeros z) at front in
    let behind : drop (at + length w) words ≡ zeros (z - k) =
    sym (drop-drop (length w) at words) ∙ ap (drop (length w)) (ap (drop at) whole ∙ drop_at (f ++ b) (zeros z) at front) ∙ blank-cleared z (length w) ∙ rw (length-replicate, m) in
    put_written at k words w m ∙ (λ i. before i ++ (w ++ behind i)) ∙ append_assoc f b (w ++ zeros (z - k)) ∙ ap (λ x. f ++ x) (sym (append_assoc b w (zeros (z - k))))

pub one_more_pitch : (bar i at k : ℕ) (n : Note) (blank : Pitch) (words w : List ℤ) → i < n.pitches.count → at ≡ 12 + i * 4 → k ≡ 4 → w ≡ pitch_words (card_pitch (lists.get_or n.pitches.list i blank))
    → words ≡ take first_pitch (note_words bar (card_note n)) ++ pitches_so_far n i → put_mid at k words w ≡ take first_pitch (note_words bar (card_note n)) ++ pitches_so_far n (i + 1)
unfolding note_words
one_more_pitch bar i at k n blank words w h a four e s =
    let qs = n.pitches in
    let l = qs.list in
    let f = take first_pitch (note_words bar (card_note n)) in
    let b = each pitch_words (map card_pitch (take i l)) in
    let few : i < length l = omega (arith, qs.few, qs.whole) in
    let long : length b ≡ 4 * i = length-pitches (map card_pitch (take i l)) ∙ ap (λ (x : ℕ). 4 * x) (length-map (take i l) card_pitch ∙ length-take-le i l (omega arith)) in
    let size : length w ≡ k = ap length e ∙ sym four in
    let more : b ++ w ≡ each pitch_words (map card_pitch (take (i + 1) l)) = ap (λ (x : List ℤ). b ++ x) e ∙ sym (each_taken card_pitch pitch_words blank l i few) in
    let room : pitch_size * (pitch_capacity - i) - k ≡ pitch_size * (pitch_capacity - (i + 1)) = omega (arith, qs.few) in
    blank_written f b w words (pitch_size * (pitch_capacity - i)) at k s (omega (arith, long)) size ∙ (λ j. f ++ (more j ++ zeros (room j)))

pub all_pitches : (bar : ℕ) (n : Note) → take first_pitch (note_words bar (card_note n)) ++ pitches_so_far n n.pitches.count ≡ note_words bar (card_note n)
unfolding note_words pitch_cells
all_pitches bar n = rw (length_pitches n.pitches)

-- ---- a record stored

pub begun : {R E : Type 0} (r : Result R E) (size : ℕ) (words : List ℤ) (s t : Records size) → length words ≡ size → (IsErr r ↔ (length s.cells.now < s.count * size + size)) → OnErr r (t.cells ≡ s.cells)
    → OnOk r (t.cells.now ≡ with_record size s.cells.now s.count words) → OnOk r (t.count ≡ s.count + 1) → Stores words s t
begun (Ok x) size words s t e full err stored counted =
    let l = s.cells.now in
    let room : s.count * size + size < suc (length l) = lt_of_not-le (λ h. false≢true (full.1 h)) in
    let fits : s.count * size + size ≤ length l = omega (arith, room) in
    let next : t.count * size ≡ s.count * size + size = rw (counted, add-one, suc-mul) in
    record { sized = ap length stored ∙ length_written l (s.count * size) words (omega (arith, e, fits)); stored = λ h. stored; next = λ h. omega (arith, e, next) }
begun (Err x) size words s t e full err stored counted =
    let no = full.0 refl in
    record { sized = ap (λ (m : MutBor (List ℤ)). length m.now) err; stored = λ h. absurd (omega (arith, h, e, no)); next = λ h. absurd (omega (arith, h, e, no)) }

-- ---- one more note, one more bar

pub notes_more : {form : Form} {count number : ℕ} {before bytes bytes' : List ℕ} {s t u : Records note_size} → NotesRead form count number before s bytes t → (n : card.Note) → note_taken form bytes ≡ some (n, bytes') → Stores (note_words number n) t u
    → NotesRead form (count + 1) number before s bytes' u
unfolding notes_taken repeated each
notes_more {form} {count} {number} {before} {bytes} {bytes'} {s} {t} {u} v n e w = record {
  list = v.list ++ n ∷ [];
  taken = rw (add-one, v.taken, e);
  stored = append_as {b = each (note_words number) (v.list ++ n ∷ [])} (sym (each_append (note_words number) v.list (n ∷ []) ∙ rw append-nil)) (append_then v.stored w);
}

-- whether a card takes so many notes there
pub within : (before count : ℕ) → 1 ≤ count → count ≤ note_limit - before → between 1 (note_limit - before) count ≡ true
within before count low high = rw (le-leb 1 count low, le-leb count (note_limit - before) high)

pub bars_more : {form : Form} {count : ℕ} {before bytes bytes' : List ℕ} {s t u : Records note_size} {s' t' u' : Records bar_size} {counts counts' : CardCounts}
    → BarsRead form count before s s' counts bytes t t' → BarRead form counts bytes t t' counts' bytes' u u' → BarsRead form (count + 1) before s s' counts' bytes' u u'
unfolding bars_taken repeated
bars_more {form} {count} {before} {bytes} {bytes'} {s} {t} {u} {s'} {t'} {u'} {counts} {counts'} v w =
    let one : bar_behind form (note_count v.list) bytes ≡ some (w.bar, bytes') = ap (λ (k : ℕ). bar_behind form k bytes) (sym v.notes_are) ∙ w.taken in
    let size : length v.list ≡ count = (bars_sound form count before (v.list, bytes) v.taken).0 in
    let number : counts.bars + 1 ≡ 1 + length v.list = omega (arith, v.bars_are, size) in
    let first : counts.notes ≡ 0 + note_count v.list = omega (arith, v.notes_are) in
    record {
      list = v.list ++ w.bar ∷ [];
      taken = rw (add-one, v.taken, one);
      notes_are = w.notes_are ∙ ap (λ (k : ℕ). k + length w.bar.notes) v.notes_are ∙ sym (note-count-more form v.list w.bar);
      bars_are = omega (arith, w.bars_are, v.bars_are);
      notes_stored = append_as ((λ i. note_cells 1 v.list ++ each (note_words (number i)) w.bar.notes) ∙ sym (note_cells_more 1 v.list w.bar)) (append_then v.notes_stored w.notes_stored);
      bars_stored = append_as ((λ i. bar_cells 0 v.list ++ bar_words (first i) w.bar) ∙ sym (bar_cells_more 0 v.list w.bar)) (append_then v.bars_stored w.bars_stored);
    }

-- ---- the answer

-- words stored in cleared cells
stored_first : {size : ℕ} {words : List ℤ} (s t : Records size) → Stores words s t → IsCleared s → length words ≤ length t.cells.now → t.cells.now ≡ padded (length t.cells.now) words
stored_first {size} {words} s t v z h =
    let at : s.count * size ≡ 0 = ap (λ (k : ℕ). k * size) z.empty ∙ zero-mul size in
    v.stored (omega (arith, at, h, v.sized)) ∙ (λ i. written (z.blank i) (at i) words) ∙ written_cleared (length s.cells.now) words ∙ ap (λ (k : ℕ). padded k words) (sym v.sized)

module _ {form : Form} {bytes : List ℕ} {s t : Records note_size} {s' t' : Records bar_size} {counts : CardCounts} (v : CardRead form bytes s s' counts t t') where
  note_length : length (note_cells 1 v.list) ≡ counts.notes * note_size
  note_length = length-note-cells form 1 v.list (such-bars form v.list (card_sound form bytes v.list v.taken).are) ∙ ap (λ (k : ℕ). k * note_size) (sym v.notes_are)

  bar_length : length (bar_cells 0 v.list) ≡ counts.bars * bar_size
  bar_length = length-bar-cells 0 v.list ∙ ap (λ (k : ℕ). k * bar_size) (sym v.bars_are)

  abbrev pub answer : Read
  answer = read_of (length t.cells.now) (length t'.cells.now) (card_taken form bytes)

  pub few_notes : length t.cells.now < counts.notes * note_size → read_refused 15 (length t.cells.now) (length t'.cells.now) ≡ answer
  few_notes h = rw (v.taken, lt-leb (length (note_cells 1 v.list)) (length t.cells.now) (omega (arith, note_length, h)))

  module _ (notes : counts.notes * note_size ≤ length t.cells.now) where
    room : leb (length (note_cells 1 v.list)) (length t.cells.now) ≡ true
    room = le-leb (length (note_cells 1 v.list)) (length t.cells.now) (omega (arith, note_length, notes))

    pub few_bars : length t'.cells.now < counts.bars * bar_size → read_refused 15 (length t.cells.now) (length t'.cells.now) ≡ answer
    few_bars h = rw (v.taken, room, lt-leb (length (bar_cells 0 v.list)) (length t'.cells.now) (omega (arith, bar_length, h)))

    pub all_stored : IsCleared s → IsCleared s' → counts.bars * bar_size ≤ length t'.cells.now → read_back (Ok counts) t.cells.now t'.cells.now ≡ answer
    all_stored z z' h =
        let n = stored_first s t v.notes_stored z (omega (arith, note_length, notes)) in
        let b = stored_first s' t' v.bars_stored z' (omega (arith, bar_length, h)) in
        rw (v.taken, room, le-leb (length (bar_cells 0 v.list)) (length t'.cells.now) (omega (arith, bar_length, h))) (λ i. record { number = 0; notes = v.notes_are i; bars = v.bars_are i; note_cells = n i; bar_cells = b i })

pub ruleset answers = (few_notes, few_bars, all_stored)

-- cleared again after a refusal, or kept
pub answered_err : {form : Form} {bytes card : List ℕ} {n b : ℕ} {notes' bars' : List ℤ} (notes bars : List ℤ) (r : Result CardCounts CardError) → form.greatest < 256 ^ form.width → ReadsCard form bytes r notes bars → bytes ≡ card → length notes ≡ n → length bars ≡ b → is_err r ≡ true
    → notes' ≡ zeros (length notes) → bars' ≡ zeros (length bars) → ReadBack form card n b (read_back r notes' bars')
answered_err {form} {bytes} {card} {n} {b} notes bars (Ok counts) fits v same e f is z y = absurd (false≢true is)
answered_err {form} {bytes} {card} {n} {b} notes bars (Err error) fits v same e f is z y = record {
  records = card_taken form card;
  right = card_found form fits card;
  equals = (λ i. record { number = error_number error; notes = 0; bars = 0; note_cells = z i; bar_cells = y i }) ∙ v ∙ (λ i. read_of (e i) (f i) (card_taken form (same i)));
}

pub answered_ok : {form : Form} {bytes card : List ℕ} {n b : ℕ} {notes' bars' : List ℤ} (notes bars : List ℤ) (r : Result CardCounts CardError) → form.greatest < 256 ^ form.width → ReadsCard form bytes r notes bars → bytes ≡ card → length notes ≡ n → length bars ≡ b → is_err r ≡ false
    → notes' ≡ notes → bars' ≡ bars → ReadBack form card n b (read_back r notes' bars')
answered_ok {form} {bytes} {card} {n} {b} notes bars (Err error) fits v same e f is z y = absurd (false≢true (sym is))
answered_ok {form} {bytes} {card} {n} {b} notes bars (Ok counts) fits v same e f is z y = record {
  records = card_taken form card;
  right = card_found form fits card;
  equals = (λ i. record { number = 0; notes = counts.notes; bars = counts.bars; note_cells = z i; bar_cells = y i }) ∙ v ∙ (λ i. read_of (e i) (f i) (card_taken form (same i)));
}
