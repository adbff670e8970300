-- The bar that a barline and the data's end store: its words, whether it has room, and the records and bars after it. Assumes nothing.
use Prim.Native.Nat.{ℕ, ◌+◌, ◌*◌, ◌≤◌}
use native.Mathlib.Omega.{arith}
use mathlib.Core.Path.{◌≡◌, refl, sym, ap, ◌∙◌}
use mathlib.Core.Bool.{Bool, true, false, not, cond, ◌&&◌, false≢true}
use mathlib.Core.Option.{Option, none, some, get_or}
use mathlib.Core.List.{List, [], ◌∷◌, ◌++◌}
use lib.IntN.{ℤ, pos}
use lib.ListN.{length, length-append, length-replicate}
use lib.Dec.{leb, ltb}
use borrow.Author.Tests.{ltb-true, ltb-false, le-leb, lt-leb}
use Rattle.std.specs.Prelude.{Result, Ok, Err}
use Rattle.rules.specs.Limits.{bar_size}
use Rattle.rules.specs.Values.{Meter, treble}
use Rattle.rules.specs.Records.{◌or◌, is_empty, Note, Bar, notes_of}
use Rattle.rules.specs.Rules as rules
use Rattle.rules.specs.Rules.{State, close}
use Rattle.rules.specs.Refusals.{LentRecords, over_bars}
use Rattle.rules.specs.Words.{BarFrom, bars_from, key_words, meter_words, bar_words, bar_cells, padded, cells, note_words}
use Rattle.stores.specs.Cells.{with_record}
use Rattle.stores.specs.Bars.{BarNumbers, bar_numbers}
use Rattle.view.specs.declared.refusal.Refusal.{Refusal}
use Rattle.view.specs.declared.refusal.Refusal.TheVariants.{NoBar}
use Rattle.view.specs.View.{View, has_note}
use Rattle.view.specs.Steps.{finished, stored_bar}
use Rattle.view.specs.Holds.{SameValues, Stored, Barred, LentFor, records_in}
use Rattle.view.proofs.CellLaws.{length-cells, padded-added}
use Rattle.view.proofs.Facts.{length-open, has-note, no-bar}

-- ---- a bar's words

length-bar : (p : BarFrom) → length (bar_words p) ≡ bar_size
length-bar p = go p.bar.fifths p.bar.meter
  where
    go : (k : Option ℤ) (m : Option Meter) → length (pos p.first ∷ pos (length p.bar.notes) ∷ pos (get_or p.bar.clef 0) ∷ key_words k ++ meter_words m ++ pos p.bar.left ∷ pos p.bar.right ∷ []) ≡ bar_size
    go none none = refl
    go none (some m) = refl
    go (some k) none = refl
    go (some k) (some m) = refl

length-bars_from : (bs : List Bar) → length (bars_from bs) ≡ length bs
length-bars_from [] = refl
length-bars_from (b ∷ bs) = rw (length-bars_from bs)

-- bars that fit fill up to the size of the cells
length-padded_bars : (n : ℕ) (bs : List Bar) → length bs * bar_size ≤ n → length (padded n (bar_cells bs)) ≡ n
length-padded_bars n bs h = rw (length-append, length-replicate, length-cells bar_words bar_size length-bar (bars_from bs), length-bars_from bs) (omega arith)

-- a bar's numbers say the bar of the rules
pub record Says (b : BarNumbers) (p : BarFrom) : Type 0 where
  pub first : b.first ≡ p.first
  pub count : b.count ≡ length p.bar.notes
  pub clef : b.clef ≡ p.bar.clef
  pub fifths : b.fifths ≡ p.bar.fifths
  pub meter : b.meter ≡ p.bar.meter
  pub left : b.left ≡ p.bar.left
  pub right : b.right ≡ p.bar.right

-- and then its words are that bar's
pub bar-words : (b : BarNumbers) (p : BarFrom) → Says b p → bar_numbers b ≡ bar_words p
bar-words b p s = λ i.
    pos (s.first i) ∷ pos (s.count i) ∷ pos (get_or (s.clef i) 0) ∷ key_words (s.fifths i) ++ meter_words (s.meter i) ++ pos (s.left i) ∷ pos (s.right i) ∷ []

module _ {s : State} {v : View} (right : ℕ) (q : SameValues s v) (r : Stored s.open_bar s.bars v) where
  -- the words of the finished bar are those of the rules' bar
  finished-words : bar_numbers (finished right v) ≡ bar_words (record { first = length (notes_of s.bars); bar = rules.finished right s })
  finished-words = bar-words (finished right v) (record { first = length (notes_of s.bars); bar = rules.finished right s }) (record {
    first = r.first;
    count = length-open r;
    clef = λ i. cond (no-bar s.bars r i) (sym q.clef i or some treble) (sym q.clef i);
    fifths = λ i. cond (no-bar s.bars r i) (sym q.fifths i or some (pos 0)) (sym q.fifths i);
    meter = sym q.meter;
    left = sym q.left;
    right = refl;
  })

-- ---- room for it

module _ (lent : LentRecords) (s : State) {v : View} (right : ℕ) (r : Stored s.open_bar s.bars v) (l : LentFor lent v) where
  abbrev pub with_bar : View
  with_bar = record v { bars = with_record bar_size v.bars v.bar_count (bar_numbers (finished right v)); bar_count = v.bar_count + 1 }

  -- 12
  full : leb lent.bars (length s.bars) ≡ ltb (length v.bars) (v.bar_count * bar_size + bar_size)
  full = go (ltb (length v.bars) (v.bar_count * bar_size + bar_size)) refl
    where
      go : (b : Bool) → ltb (length v.bars) (v.bar_count * bar_size + bar_size) ≡ b → leb lent.bars (length s.bars) ≡ b
      go true e = le-leb lent.bars (length s.bars) (omega (arith, l.bars, r.bars, ltb-true (length v.bars) (v.bar_count * bar_size + bar_size) e))
      go false e = lt-leb lent.bars (length s.bars) (omega (arith, l.bars, r.bars, ltb-false (length v.bars) (v.bar_count * bar_size + bar_size) e))

  -- P of whether the rules' bar has no room, and of what the view's step gives: of an empty bar, without room, with room
  pub bar-ind : (P : Bool → Result View Refusal → Type 0) → (has_note v ≡ false → P false (Ok v)) → (has_note v ≡ true → P true (Err NoBar))
      → (has_note v ≡ true → (v.bar_count + 1) * bar_size ≤ length v.bars → P false (Ok with_bar)) → P (over_bars lent s) (stored_bar right v)
  bar-ind P empty none' stores = rw (full, ← has-note s.open_bar r) (go (has_note v) (ltb (length v.bars) (v.bar_count * bar_size + bar_size)) refl refl)
    where
      go : (a b : Bool) → has_note v ≡ a → ltb (length v.bars) (v.bar_count * bar_size + bar_size) ≡ b → P (a && b) (cond (not a) (Ok v) (cond b (Err NoBar) (Ok with_bar)))
      go false b e f = empty e
      go true true e f = none' e
      go true false e f = stores e (omega (arith, ltb-false (length v.bars) (v.bar_count * bar_size + bar_size) f))

-- ---- after it

module _ {s : State} {v : View} (right : ℕ) (q : SameValues s v) (r : Stored s.open_bar s.bars v) (filled : has_note v ≡ true) where
  abbrev bars : List ℤ
  bars = with_record bar_size v.bars v.bar_count (bar_numbers (finished right v))

  -- 'An empty bar isn't stored'
  pub closes : close right s ≡ rules.finished right s ∷ s.bars
  closes = go s.open_bar (sym (has-note s.open_bar r) ∙ filled)
    where
      go : (o : List Note) → not (is_empty o) ≡ true → cond (is_empty o) s.bars (rules.finished right s ∷ s.bars) ≡ rules.finished right s ∷ s.bars
      go [] e = absurd (false≢true e)
      go (x ∷ o) e = refl

  -- the bars with it
  bars-written : Barred s.bars v → (v.bar_count + 1) * bar_size ≤ length v.bars → bars ≡ padded (length v.bars) (bar_cells (rules.finished right s ∷ s.bars))
  bars-written b fits =
      let l = length-bars_from s.bars in
      let x : BarFrom = record { first = length (notes_of s.bars); bar = rules.finished right s } in
      (λ i. with_record bar_size (b.written i) ((r.bars ∙ sym l) i) (finished-words right q r i)) ∙ padded-added bar_words bar_size length-bar (length v.bars) x (bars_from s.bars) (omega (arith, l, r.bars, fits))

  -- as many bar cells
  pub length-stored_bar : Barred s.bars v → (v.bar_count + 1) * bar_size ≤ length v.bars → length bars ≡ length v.bars
  length-stored_bar b fits = rw (bars-written b fits) (length-padded_bars (length v.bars) (rules.finished right s ∷ s.bars) (omega (arith, r.bars, fits)))

  -- 'An empty bar isn't stored': of the view after one that was, with the bars' words and count
  pub bar_barred : (b : Barred s.bars v) (w : View) → w.bars ≡ bars → (v.bar_count + 1) * bar_size ≤ length v.bars → Barred (close right s) w
  bar_barred b w e fits =
      let same : length w.bars ≡ length v.bars = ap length e ∙ length-stored_bar b fits in
      rw closes (record {
        written = e ∙ bars-written b fits ∙ ap (λ (n : ℕ). padded n (bar_cells (rules.finished right s ∷ s.bars))) (sym same);
        fits = omega (arith, same, r.bars, fits);
        few = omega (arith, b.few, length-append s.open_bar (notes_of s.bars), r.count, r.first, ltb-true v.first v.note_count filled);
      })

  pub bar_records : (w : View) → w.note_count ≡ v.note_count → w.notes ≡ v.notes → w.first ≡ v.note_count → w.last ≡ v.first → w.bar_count ≡ v.bar_count + 1 → Stored [] (close right s) w
  bar_records w a b c d e =
      let all = length-append s.open_bar (notes_of s.bars) in
      rw closes (record {
        count = omega (arith, a, r.count, all);
        first = omega (arith, c, r.count, all);
        last = d ∙ r.first;
        bars = omega (arith, e, r.bars);
        written = b ∙ r.written ∙ ap (λ (n : ℕ). padded n (cells note_words (records_in s.open_bar s.bars))) (ap length (sym b));
        fits = rw (a, b) r.fits;
        capped = rw a r.capped;
      })
