-- Stored bars in their ranges are a card's bars, and their words are those bars'. Assumes nothing.
use Prim.Native.Nat.{ℕ, suc, ◌+◌, ◌≤◌, ◌<◌}
use mathlib.Core.Path.{◌≡◌, refl, sym, ap, ◌∙◌}
use mathlib.Core.Bool.{true, false}
use mathlib.Core.Option.{Option, none, some, get_or}
use mathlib.Core.List.{List, [], ◌∷◌, ◌++◌, append_assoc, append-nil}
use native.Mathlib.Omega.{arith}
use native.Mathlib.Nat.{add-zero}
use borrow.Author.Tests.{leb-true, le-leb, lt-ltb, ne_eqb}
use lib.IntN.{ℤ, pos, sub_ℕ}
use lib.ListN.{length, length-append}
use lib.Dec.{eqb, leb}
use Rattle.rules.specs.Limits.{count_limit}
use Rattle.rules.specs.Values.{Meter}
use Rattle.rules.specs.Records.{given, notes_of, Note, Bar}
use Rattle.rules.specs.Words.{cells, in_bar, numbered}
use Rattle.rules.specs.Words as rules
use Rattle.rules.specs.Agreement.{All}
use Rattle.theorems.proofs.Capacity.{Fits}
use Rattle.cards.specs.Fields.{each}
use Rattle.cards.specs.Card.{form1, head_tests, such_head, such_note, bar_tests, such_bar, note_count}
use Rattle.cards.specs.Card as card
use Rattle.cards.specs.Words.{note_words, head_words, bar_words, bar_cells, note_cells}
use Rattle.cards.specs.Judged.{raised}
use Rattle.cards.proofs.SuchLaws.{raised-back}
use Rattle.cardtheorems.proofs.Ranges.{IfSome, else-in, FifthsIn, ClefIn, MeterIn, NoteIn, BarIn}
use Rattle.cardtheorems.proofs.Turned.{turned, length-turned, hold, ◌also◌, no_more, every-turned, cells-turned, cells-append, all-parts, all_both}
use Rattle.cardtheorems.proofs.CardNotes.{card_note, note-such, note-words}

-- fifths plus 7, where they are set
abbrev card_key : Option ℤ → Option ℕ
card_key none = none
card_key (some fifths) = some (raised 7 fifths)

-- numerator, denominator, symbol; 0, 0, 0 where there is no meter
abbrev head_with : Option ℕ → Option ℤ → Option Meter → ℕ → ℕ → card.Head
head_with clef fifths meter left right = record {
  clef = get_or clef 0;
  key = card_key fifths;
  numerator = given meter 0 (λ m. m.numerator);
  denominator = given meter 0 (λ m. m.denominator);
  symbol = given meter 0 (λ m. m.symbol);
  left = left;
  right = right;
}

abbrev pub card_bar : Bar → card.Bar
card_bar b = record { head = head_with b.clef b.fifths b.meter b.left b.right; notes = turned card_note b.notes }

-- ---- it is such a bar

key-such : (fifths : Option ℤ) → IfSome FifthsIn fifths → leb (get_or (card_key fifths) 0) 14 ≡ true
key-such none h = refl
key-such (some fifths) h = h

head-such : (clef : Option ℕ) (fifths : Option ℤ) (meter : Option Meter) (left right : ℕ) → IfSome ClefIn clef → IfSome FifthsIn fifths → IfSome MeterIn meter → left ≤ 3 → right ≤ 3 → such_head (head_with clef fifths meter left right) ≡ true
unfolding such_head
head-such clef fifths none left right c f m l r = hold (head_tests (head_with clef fifths none left right)) (le-leb (get_or clef 0) 8 (else-in ClefIn clef 0 c (omega arith)) also key-such fifths f also refl also refl also refl also le-leb left 3 l also le-leb right 3 r also no_more)
head-such clef fifths (some meter) left right c f m l r =
    let set : eqb meter.numerator 0 ≡ false = ne_eqb meter.numerator 0 (λ q. omega (arith, m.least)) in
    hold (head_tests (head_with clef fifths (some meter) left right))
    (le-leb (get_or clef 0) 8 (else-in ClefIn clef 0 c (omega arith))
    also key-such fifths f
    also le-leb meter.numerator count_limit m.most
    also rw set m.power
    also rw set (le-leb meter.symbol 2 m.symbol)
    also le-leb left 3 l
    also le-leb right 3 r
    also no_more)

-- a bar in its ranges, none of whose notes is cut off
abbrev pub Whole : Bar → Type 0
Whole b = BarIn b × All Fits b.notes

pub all_whole : (bs : List Bar) → All BarIn bs → All Fits (notes_of bs) → All Whole bs
all_whole [] h f = tt
all_whole (b ∷ bs) h f = let t = all-parts Fits b.notes (notes_of bs) f in ((h.0, t.0), all_whole bs h.1 t.1)

abbrev Sound : Note → Type 0
Sound n = NoteIn n × Fits n

notes-sound : (b : Bar) → Whole b → All Sound b.notes
notes-sound b h = all_both NoteIn Fits b.notes h.0.notes h.1

pub bar-such : (b : Bar) → Whole b → such_bar form1 (card_bar b) ≡ true
unfolding such_bar
bar-such b h =
    let i = h.0 in
    let some : 0 < length (turned card_note b.notes) = omega (arith, i.some, length-turned card_note b.notes) in
    hold (bar_tests form1 (card_bar b))
    (head-such b.clef b.fifths b.meter b.left b.right i.clef i.fifths i.meter i.left i.right
    also lt-ltb 0 (length (turned card_note b.notes)) some
    also every-turned Sound card_note (such_note form1) (λ n s. note-such n s.0 s.1) b.notes (notes-sound b h)
    also no_more)

count-last : (l : List card.Bar) (b : card.Bar) → note_count (l ++ b ∷ []) ≡ note_count l + length b.notes
unfolding note_count
count-last [] b = omega arith
count-last (c ∷ l) b = omega (arith, count-last l b)

pub count-turned : (bs : List Bar) → note_count (turned card_bar bs) ≡ length (notes_of bs)
unfolding note_count
count-turned [] = refl
count-turned (b ∷ bs) = omega (arith, count-last (turned card_bar bs) (card_bar b), count-turned bs, length-turned card_note b.notes, length-append b.notes (notes_of bs))

-- ---- note words

-- the notes of bar n
bar-notes : (number : ℕ) (ns : List Note) → All Sound ns → cells rules.note_words (in_bar number ns) ≡ each (note_words number) (turned card_note ns)
bar-notes number ns h = unmapped ns ∙ cells-turned Sound card_note (λ (n : Note). rules.note_words (record { bar = number; note = n })) (note_words number) (λ n s. note-words number n s.0 s.1) ns h
  where
    unmapped : (ns : List Note) → cells rules.note_words (in_bar number ns) ≡ cells (λ (n : Note). rules.note_words (record { bar = number; note = n })) ns
    unmapped [] = refl
    unmapped (n ∷ ns) = ap (λ (c : List ℤ). c ++ rules.note_words (record { bar = number; note = n })) (unmapped ns)

notes-last : (number : ℕ) (l : List card.Bar) (b : card.Bar) → note_cells number (l ++ b ∷ []) ≡ note_cells number l ++ each (note_words (number + length l)) b.notes
unfolding note_cells
notes-last number [] b = append-nil (each (note_words number) b.notes) ∙ ap (λ (n : ℕ). each (note_words n) b.notes) (sym (add-zero number))
notes-last number (c ∷ l) b =
    let e : suc number + length l ≡ number + suc (length l) = omega arith in
    ap (λ (w : List ℤ). each (note_words number) c.notes ++ w) (notes-last (suc number) l b ∙ ap (λ (n : ℕ). note_cells (suc number) l ++ each (note_words n) b.notes) e)
    ∙ sym (append_assoc (each (note_words number) c.notes) (note_cells (suc number) l) (each (note_words (number + suc (length l))) b.notes))

pub note-cells : (bs : List Bar) → All Whole bs → rules.note_cells bs ≡ note_cells 1 (turned card_bar bs)
unfolding note_cells
note-cells [] h = refl
note-cells (b ∷ bs) h =
    let e : suc (length bs) ≡ 1 + length (turned card_bar bs) = omega (arith, length-turned card_bar bs) in
    cells-append rules.note_words (in_bar (suc (length bs)) b.notes) (numbered bs)
    ∙ (λ i. note-cells bs h.1 i ++ (bar-notes (suc (length bs)) b.notes (notes-sound b h.0) ∙ ap (λ (n : ℕ). each (note_words n) (turned card_note b.notes)) e) i)
    ∙ sym (notes-last 1 (turned card_bar bs) (card_bar b))

-- ---- bar words

fifths-back : (f : ℤ) → FifthsIn f → f ≡ sub_ℕ (raised 7 f) 7
fifths-back f h = let a = leb-true (raised 7 f) 14 h in sym (raised-back 7 f (omega arith))

head-words : (first count : ℕ) (clef : Option ℕ) (fifths : Option ℤ) (meter : Option Meter) (left right : ℕ) → IfSome FifthsIn fifths
    → pos first ∷ pos count ∷ pos (get_or clef 0) ∷ rules.key_words fifths ++ rules.meter_words meter ++ pos left ∷ pos right ∷ [] ≡ head_words first count (head_with clef fifths meter left right)
unfolding head_words
head-words first count clef none none left right h = refl
head-words first count clef none (some m) left right h = refl
head-words first count clef (some f) none left right h = λ i. pos first ∷ pos count ∷ pos (get_or clef 0) ∷ pos 1 ∷ fifths-back f h i ∷ pos 0 ∷ pos 0 ∷ pos 0 ∷ pos left ∷ pos right ∷ []
head-words first count clef (some f) (some m) left right h = λ i. pos first ∷ pos count ∷ pos (get_or clef 0) ∷ pos 1 ∷ fifths-back f h i ∷ pos m.numerator ∷ pos m.denominator ∷ pos m.symbol ∷ pos left ∷ pos right ∷ []

bars-last : (first : ℕ) (l : List card.Bar) (b : card.Bar) → bar_cells first (l ++ b ∷ []) ≡ bar_cells first l ++ bar_words (first + note_count l) b
unfolding bar_cells note_count
bars-last first [] b = append-nil (bar_words first b) ∙ ap (λ (n : ℕ). bar_words n b) (sym (add-zero first))
bars-last first (c ∷ l) b =
    let e : first + length c.notes + note_count l ≡ first + (length c.notes + note_count l) = omega arith in
    ap (λ (w : List ℤ). bar_words first c ++ w) (bars-last (first + length c.notes) l b ∙ ap (λ (n : ℕ). bar_cells (first + length c.notes) l ++ bar_words n b) e)
    ∙ sym (append_assoc (bar_words first c) (bar_cells (first + length c.notes) l) (bar_words (first + (length c.notes + note_count l)) b))

pub bar-cells : (bs : List Bar) → All Whole bs → rules.bar_cells bs ≡ bar_cells 0 (turned card_bar bs)
unfolding bar_cells
bar-cells [] h = refl
bar-cells (b ∷ bs) h =
    let e : length (notes_of bs) ≡ 0 + note_count (turned card_bar bs) = omega (arith, count-turned bs) in
    (λ i. bar-cells bs h.1 i ++ (head-words (length (notes_of bs)) (length b.notes) b.clef b.fifths b.meter b.left b.right h.0.0.fifths
    ∙ λ i. head_words (e i) (sym (length-turned card_note b.notes) i) (card_bar b).head) i)
    ∙ sym (bars-last 0 (turned card_bar bs) (card_bar b))
