-- What the view reads in its counts and in its cells is what the rules read in the open bar. Assumes nothing.
use Prim.Native.Nat.{ℕ, suc, ◌+◌, ◌-◌, ◌*◌, ◌≤◌, ◌<◌}
use native.Mathlib.Omega.{arith}
use mathlib.Core.Path.{◌≡◌, refl, sym}
use mathlib.Core.Bool.{Bool, true, false, cond, not, ◌&&◌}
use mathlib.Core.Option.{Option, none, some}
use mathlib.Core.List.{List, [], ◌∷◌}
use lib.IntN.{ℤ}
use lib.ListN.{length, length-append, length-replicate}
use borrow.Author.Tests.{lt-ltb, le-ltb, ltb-true, ltb-false, eq-eqb, ne_eqb}
use lib.Dec.{eqb, ltb}
use Rattle.std.specs.Prelude.{nat_lt, Result, Ok, Err}
use Rattle.rules.specs.Limits.{note_limit, note_size}
use Rattle.rules.specs.Records.{given, Note, Bar, is_empty, notes_of}
use Rattle.rules.specs.Rules.{State, ends_in_note, joins, further_bars, stored}
use Rattle.rules.specs.Tokens.{Item}
use Rattle.rules.specs.Refusals.{LentRecords, refusal, refusal_in_turn, passes}
use Rattle.rules.specs.Words.{padded, cells, note_words}
use Rattle.stores.specs.declared.note.TheConstants.{KIND}
use Rattle.stores.specs.Notes.{number_at}
use Rattle.view.specs.View.{View, has_note, open_length, last_number}
use Rattle.view.specs.View as view
use Rattle.view.specs.declared.refusal.Refusal.{Refusal}
use Rattle.view.specs.declared.refusal.Refusal.TheVariants.{TooManyNotes, NoNote}
use Rattle.view.specs.Steps.{with_room}
use Rattle.view.specs.Holds.{SameValues, Stored, LentFor, Taken, Follows, last_first, records_in}
use Rattle.view.proofs.GroupLaws.{words_in}
use Rattle.view.proofs.NoteLaws.{length-note}
use Rattle.view.proofs.CellLaws.{length-cells}
use Rattle.view.proofs.StoredLaws.{length-stored, last_word}

last-first : (bs : List Bar) → last_first bs ≤ length (notes_of bs)
last-first [] = omega arith
last-first (b ∷ bs) = rw length-append (omega arith)

-- ---- from the words

-- records that fit fill up to the size of the cells
length-padded : (n : ℕ) (o : List Note) (bs : List Bar) → (length o + length (notes_of bs)) * note_size ≤ n → length (padded n (cells note_words (records_in o bs))) ≡ n
length-padded n o bs h = rw (length-append, length-replicate, length-cells note_words note_size length-note (records_in o bs), length-stored o bs) (omega arith)

-- the view holds the records that its words are
pub stored-padded : (o : List Note) (bs : List Bar) (w : View) (n : ℕ) → w.notes ≡ padded n (cells note_words (records_in o bs)) → w.note_count ≡ length o + length (notes_of bs)
    → w.first ≡ length (notes_of bs) → w.last ≡ last_first bs → w.bar_count ≡ length bs → w.note_count * note_size ≤ n → w.note_count ≤ note_limit → Stored o bs w × (length w.notes ≡ n)
stored-padded o bs w n h count first last bars fits capped =
    let same : length w.notes ≡ n = rw h (length-padded n o bs (rw (← count) fits)) in
    (record { count = count; first = first; last = last; bars = bars; written = rw same h; fits = rw same fits; capped = capped }, same)

-- as many other notes in the open bar
pub renewed : {o : List Note} {bs : List Bar} {v : View} → Stored o bs v → (o' : List Note) (l : List ℤ) → length o' ≡ length o → l ≡ padded (length v.notes) (cells note_words (records_in o' bs))
    → Stored o' bs (record v { notes = l }) × (length l ≡ length v.notes)
renewed {bs = bs} {v = v} r o' l e h = stored-padded o' bs (record v { notes = l }) (length v.notes) h (rw e r.count) r.first r.last r.bars r.fits r.capped

-- ---- counts

module _ {o : List Note} {bs : List Bar} {v : View} (r : Stored o bs v) where
  pub length-open : open_length v ≡ length o
  length-open = omega (arith, r.count, r.first)

  pub first_below : v.first ≤ v.note_count
  first_below = omega (arith, r.count, r.first)

  pub last-below : v.last ≤ v.first
  last-below = omega (arith, r.first, r.last, last-first bs)

-- the open bar has a note
pub has-note : {bs : List Bar} {v : View} (o : List Note) → Stored o bs v → has_note v ≡ not (is_empty o)
has-note {v = v} [] r = le-ltb v.first v.note_count (omega (arith, r.count, r.first))
has-note {v = v} (x ∷ o) r = lt-ltb v.first v.note_count (omega (arith, r.count, r.first))

-- it has none
pub open-empty : {bs : List Bar} {v : View} (o : List Note) → Stored o bs v → is_empty o ≡ not (has_note v)
open-empty [] r = rw (has-note [] r)
open-empty (x ∷ o) r = rw (has-note (x ∷ o) r)

-- no bar is stored
pub no-bar : {o : List Note} {v : View} (bs : List Bar) → Stored o bs v → eqb v.bar_count 0 ≡ is_empty bs
no-bar {v = v} [] r = eq-eqb v.bar_count 0 r.bars
no-bar {v = v} (b ∷ bs) r = ne_eqb v.bar_count 0 (λ g. omega (arith, r.bars))

-- ---- the last record

module _ {x : Note} {o : List Note} {bs : List Bar} {v : View} (r : Stored (x ∷ o) bs v) where
  pub last-index : v.note_count - 1 ≡ length o + length (notes_of bs)
  last-index = omega (arith, r.count)

  -- a word of it
  pub last-number : (at : ℕ) → at < note_size → last_number at v ≡ number_at at (words_in (suc (length bs)) x)
  last-number at h = rw (last-index, r.written, last_word (length v.notes) o bs x at h)

  last-kind : last_number KIND v ≡ x.heading.kind
  last-kind = last-number KIND (omega arith)

-- there is a last record and it is no rest
pub ends-in-note : {bs : List Bar} {v : View} (o : List Note) → Stored o bs v → view.ends_in_note v ≡ ends_in_note o
ends-in-note [] r = rw (has-note [] r)
ends-in-note (x ∷ o) r = rw (has-note (x ∷ o) r, last-kind r)

-- a letter joins it
pub joins-same : {s : State} {v : View} → SameValues s v → Stored s.open_bar s.bars v → view.joins v ≡ joins s
joins-same {s = s} q r = λ i. sym q.chord_next i && ends-in-note s.open_bar r i

-- ---- room for notes

module _ (lent : LentRecords) (s : State) {v : View} (r : Stored s.open_bar s.bars v) (l : LentFor lent v) (n : ℕ) where
  stored-count : length (stored s) ≡ v.note_count
  stored-count = rw length-append (sym r.count)

  -- 7
  over : passes note_limit n s ≡ nat_lt note_limit (v.note_count + n)
  over = rw stored-count (go (ltb 0 n) refl)
    where
      go : (b : Bool) → ltb 0 n ≡ b → b && ltb note_limit (v.note_count + n) ≡ ltb note_limit (v.note_count + n)
      go true e = refl
      go false e = sym (le-ltb note_limit (v.note_count + n) (omega (arith, ltb-false 0 n e, r.capped)))

  -- 8
  full : passes lent.notes n s ≡ nat_lt (length v.notes) (v.note_count * note_size + n * note_size)
  full = rw stored-count (go (ltb 0 n) (ltb (length v.notes) (v.note_count * note_size + n * note_size)) refl refl)
    where
      go : (a b : Bool) → ltb 0 n ≡ a → ltb (length v.notes) (v.note_count * note_size + n * note_size) ≡ b → a && ltb lent.notes (v.note_count + n) ≡ b
      go true true e f = lt-ltb lent.notes (v.note_count + n) (omega (arith, l.notes, ltb-true (length v.notes) (v.note_count * note_size + n * note_size) f))
      go true false e f = le-ltb lent.notes (v.note_count + n) (omega (arith, l.notes, ltb-false (length v.notes) (v.note_count * note_size + n * note_size) f))
      go false true e f = absurd (omega (arith, r.fits, ltb-false 0 n e, ltb-true (length v.notes) (v.note_count * note_size + n * note_size) f))
      go false false e f = refl

  -- P of the rules' number and of what the view's step gives: where they pass the limit, the cells, and where they fit
  pub room-ind : (P : Option ℕ → Result View Refusal → Type 0) (later : Option ℕ) (next : View) → P (some 7) (Err TooManyNotes) → P (some 8) (Err NoNote)
      → (v.note_count + n ≤ note_limit → (v.note_count + n) * note_size ≤ length v.notes → P later (Ok next))
      → P (cond (passes note_limit n s) (some 7) (cond (passes lent.notes n s) (some 8) later)) (with_room n v next)
  room-ind P later next many none' fits = rw (over, full) (go (ltb note_limit (v.note_count + n)) (ltb (length v.notes) (v.note_count * note_size + n * note_size)) refl refl)
    where
      go : (a b : Bool) → ltb note_limit (v.note_count + n) ≡ a → ltb (length v.notes) (v.note_count * note_size + n * note_size) ≡ b
          → P (cond a (some 7) (cond b (some 8) later)) (cond a (Err TooManyNotes) (cond b (Err NoNote) (Ok next)))
      go true b e f = many
      go false true e f = none'
      go false false e f = fits (ltb-false note_limit (v.note_count + n) e) (omega (arith, ltb-false (length v.notes) (v.note_count * note_size + n * note_size) f))

-- a token that stores n notes and is refused by 7 and 8 alone
pub room-follows : (lent : LentRecords) (x : Item) (s : State) {v : View} → Stored s.open_bar s.bars v → LentFor lent v → (n : ℕ) (next : View)
    → refusal_in_turn lent x (further_bars x.token) s ≡ given (cond (passes note_limit n s) (some 7) (cond (passes lent.notes n s) (some 8) none)) none (λ k. some (refusal k x.place))
    → (refusal_in_turn lent x (further_bars x.token) s ≡ none → v.note_count + n ≤ note_limit → (v.note_count + n) * note_size ≤ length v.notes → Taken lent x s v next)
    → Follows lent x s v (with_room n v next)
room-follows lent x s {v} r l n next refused taken =
    room-ind lent s r l n (λ o result. refusal_in_turn lent x (further_bars x.token) s ≡ given o none (λ k. some (refusal k x.place)) → Follows lent x s v result) none next (λ e. e) (λ e. e) (λ few fits e. taken e few fits) refused
