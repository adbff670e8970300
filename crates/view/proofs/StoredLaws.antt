-- The note cells of a reading: the records of the stored bars, then those of the open bar, then zeros. Assumes nothing.
use Prim.Native.Nat.{ℕ, suc, ◌+◌, ◌-◌, ◌*◌, ◌<◌, ◌≤◌}
use native.Mathlib.Omega.{arith}
use mathlib.Core.Path.{◌≡◌, refl, sym, ap, ◌∙◌}
use mathlib.Core.List.{List, [], ◌∷◌, ◌++◌, map, append_assoc}
use lib.IntN.{ℤ, pos}
use lib.ListN.{length, get_or, take, drop, length-append, length-map, length-drop, length-take, take-append-drop}
use Rattle.rules.specs.Limits.{note_size}
use Rattle.rules.specs.Records.{Note, Bar, notes_of}
use Rattle.rules.specs.Rules.{copied, non_grace_in}
use Rattle.rules.specs.Words.{cells, zeros, padded, Numbered, note_words, in_bar, numbered}
use Rattle.stores.specs.Cells.{written, with_record, changed, on_part}
use Rattle.stores.specs.Copies.{copies}
use Rattle.stores.specs.Groups.{timed_count}
use Rattle.view.specs.Holds.{records_in}
use Rattle.view.proofs.CellLaws.{part-read, part-words, word_read, padded-added, padded-changed, padded-extended, padded-part}
use Rattle.view.proofs.NoteLaws.{length-note}
use Rattle.view.proofs.CopyLaws.{copies-notes}
use Rattle.view.proofs.GroupLaws.{words_in, count-read}

-- the n note cells
abbrev pub notes_in : ℕ → List Note → List Bar → List ℤ
notes_in n ns bars = padded n (cells note_words (records_in ns bars))

-- how many records stand
abbrev pub count_in : List Note → List Bar → ℕ
count_in ns bars = length ns + length (notes_of bars)

-- ---- lists

length-in-bar : (b : ℕ) (ns : List Note) → length (in_bar b ns) ≡ length ns
length-in-bar b [] = refl
length-in-bar b (x ∷ ns) = ap suc (length-in-bar b ns)

length-numbered : (bars : List Bar) → length (numbered bars) ≡ length (notes_of bars)
length-numbered [] = refl
length-numbered (b ∷ bars) = rw (length-append, length-append, length-in-bar, length-numbered bars)

pub length-stored : (ns : List Note) (bars : List Bar) → length (records_in ns bars) ≡ count_in ns bars
length-stored ns bars = rw (length-append, length-in-bar, length-numbered)

in-bar-append : (b : ℕ) (x z : List Note) → in_bar b (x ++ z) ≡ in_bar b x ++ in_bar b z
in-bar-append b [] z = refl
in-bar-append b (n ∷ x) z = ap (λ (l : List Numbered). record { bar = b; note = n } ∷ l) (in-bar-append b x z)

-- the cells of a bar's notes
cells-in-bar : (b : ℕ) (ns : List Note) → cells note_words (in_bar b ns) ≡ cells (words_in b) ns
cells-in-bar b [] = refl
cells-in-bar b (x ∷ ns) = ap (λ (l : List ℤ). l ++ words_in b x) (cells-in-bar b ns)

-- ---- the last record

module _ (n : ℕ) (ns : List Note) (bars : List Bar) where
  pub note-stored : (x : Note) → count_in ns bars * note_size + note_size ≤ n
      → with_record note_size (notes_in n ns bars) (count_in ns bars) (words_in (suc (length bars)) x) ≡ notes_in n (x ∷ ns) bars
  note-stored x h = rw (← length-stored ns bars) (padded-added note_words note_size length-note n (record { bar = suc (length bars); note = x }) (records_in ns bars) (rw (length-stored ns bars) h))

  pub last-changed : (x : Note) (f : List ℤ → List ℤ) (y : Note) → f (words_in (suc (length bars)) x) ≡ words_in (suc (length bars)) y
      → changed note_size f (notes_in n (x ∷ ns) bars) (count_in ns bars) ≡ notes_in n (y ∷ ns) bars
  last-changed x f y e = rw (← length-stored ns bars) (padded-changed note_words note_size length-note n [] (record { bar = suc (length bars); note = x }) (records_in ns bars) f (record { bar = suc (length bars); note = y }) e)

  pub last_word : (x : Note) (k : ℕ) → k < note_size → get_or (notes_in n (x ∷ ns) bars) (count_in ns bars * note_size + k) (pos 0) ≡ get_or (words_in (suc (length bars)) x) k (pos 0)
  last_word x k h = rw (← length-stored ns bars) (word_read note_words note_size length-note [] (record { bar = suc (length bars); note = x }) (records_in ns bars) (zeros (n - length (cells note_words (records_in (x ∷ ns) bars)))) k h)

  -- ---- notes added behind the others

  pub notes-added : (more : List Note) → count_in ns bars * note_size + length more * note_size ≤ n
      → written (notes_in n ns bars) (count_in ns bars * note_size) (cells note_words (in_bar (suc (length bars)) more)) ≡ notes_in n (more ++ ns) bars
  notes-added more h =
      rw (← length-stored ns bars, in-bar-append (suc (length bars)) more ns, append_assoc)
      (padded-extended note_words note_size length-note n (in_bar (suc (length bars)) more) (records_in ns bars) (rw (length-stored ns bars, length-in-bar) h))

  -- ---- the open bar's m latest notes, behind `start` others

  module _ (start m : ℕ) (h : start + m ≡ length ns) where
    abbrev b : ℕ
    b = suc (length bars)

    abbrev part : List Note
    part = take m ns

    abbrev before : List Numbered
    before = in_bar b (drop m ns) ++ numbered bars

    split : records_in ns bars ≡ in_bar b part ++ before
    split = ap (λ (l : List Note). in_bar b l ++ numbered bars) (sym (take-append-drop m ns)) ∙ rw (in-bar-append, append_assoc)

    pub length_part : length part ≡ m
    length_part = rw length-take (omega arith)

    length_before : length before ≡ length (notes_of bars) + start
    length_before = rw (length-append, length-in-bar, length-numbered, length-drop) (omega arith)

    -- the lent part
    pub part-cells : drop ((length (notes_of bars) + start) * note_size) (notes_in n ns bars) ≡ cells (words_in b) part ++ zeros (n - length (cells note_words (records_in ns bars)))
    part-cells =
        let zs = zeros (n - length (cells note_words (records_in ns bars))) in
        (λ i. drop (sym length_before i * note_size) (cells note_words (split i) ++ zs)) ∙ part-read note_words note_size length-note (in_bar b part) before zs ∙ rw (cells-in-bar b part)

    -- the figure that the second `!` takes
    pub figure-taken : take (m * note_size) (drop ((length (notes_of bars) + start) * note_size) (notes_in n ns bars)) ≡ cells note_words (in_bar b part)
    figure-taken =
        let zs = zeros (n - length (cells note_words (records_in ns bars))) in
        let size : m ≡ length (in_bar b part) = sym length_part ∙ sym (length-in-bar b part) in
        (λ i. take (size i * note_size) (drop (sym length_before i * note_size) (cells note_words (split i) ++ zs))) ∙ part-words note_words note_size length-note (in_bar b part) before zs

    -- its non-grace records
    pub part-timed : timed_count (drop ((length (notes_of bars) + start) * note_size) (notes_in n ns bars)) m ≡ non_grace_in part
    part-timed =
        let zs = zeros (n - length (cells note_words (records_in ns bars))) in
        (λ i. timed_count (part-cells i) (sym length_part i)) ∙ count-read b zs (cells (words_in b) part ++ zs) [] part refl

    -- a step on it
    pub part-changed : (f : List ℤ → List ℤ) (after : List Note) → length after ≡ length part → ((zs : List ℤ) → f (cells (words_in b) part ++ zs) ≡ cells (words_in b) after ++ zs)
        → on_part note_size (length (notes_of bars) + start) f (notes_in n ns bars) ≡ notes_in n (after ++ drop m ns) bars
    part-changed f after e says =
        (λ i. on_part note_size (sym length_before i) f (padded n (cells note_words (split i))))
        ∙ padded-part note_words note_size length-note n f (in_bar b part) (in_bar b after) before (rw (length-in-bar, length-in-bar, e)) (λ zs. rw (cells-in-bar, cells-in-bar) (says zs))
        ∙ rw (in-bar-append b after, append_assoc)

-- the last stored bar copied into the empty open one
pub bar-repeated : (n place : ℕ) (c : Bar) (bars : List Bar) → let count = length c.notes in let all = c ∷ bars in
    count_in [] all * note_size + count * note_size ≤ n
    → written (notes_in n [] all) (count_in [] all * note_size) (copies place (suc (length all)) (drop (length (notes_of bars) * note_size) (notes_in n [] all)) count) ≡ notes_in n (map (copied place) c.notes ++ []) all
bar-repeated n place c bars h =
    let zs = zeros (n - length (cells note_words (records_in [] (c ∷ bars)))) in
    let e : drop (length (notes_of bars) * note_size) (notes_in n [] (c ∷ bars)) ≡ cells note_words (in_bar (suc (length bars)) c.notes) ++ zs =
    rw (← length-numbered bars) (part-read note_words note_size length-note (in_bar (suc (length bars)) c.notes) (numbered bars) zs) in
    rw (e, copies-notes) (notes-added n [] (c ∷ bars) (map (copied place) c.notes) (rw length-map h))
