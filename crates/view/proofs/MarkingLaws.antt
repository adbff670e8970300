-- `}` and `)` on the note cells of a reading as the rules have them. Assumes nothing.
use Prim.Native.Nat.{ℕ, suc, ◌+◌, ◌-◌, ◌*◌}
use native.Mathlib.Omega.{arith}
use mathlib.Core.Path.{◌≡◌, refl, sym, ap, subst, ◌∙◌}
use mathlib.Core.Bool.{Bool, true, false, cond}
use mathlib.Core.List.{List, [], ◌∷◌, ◌++◌}
use lib.IntN.{ℤ}
use lib.ListN.{length, drop, take-append-drop}
use lib.Dec.{leb, ltb}
use borrow.Author.Tests.{ltb-true, ltb-false}
use Rattle.rules.specs.Limits.{note_size, mark_capacity}
use Rattle.rules.specs.Values.{normal_of}
use Rattle.rules.specs.Records.{Notations, Note, notes_of}
use Rattle.rules.specs.Rules.{Start, State, Group, is_non_grace, non_grace_in, count_from, notes_from, with_beam, with_tuplet, Closing, fermata, tuplet, closed, closing_of, group_closed, beam_closed, with_notations}
use Rattle.rules.specs.Refusals.{is_marked_full}
use Rattle.rules.specs.Refusals as refusals
use Rattle.rules.specs.Words.{cells, zeros, note_words}
use Rattle.stores.specs.Cells.{record_at, on_part}
use Rattle.stores.specs.declared.note.TheConstants.{MARK_COUNT}
use Rattle.stores.specs.Notes.{number_at}
use Rattle.stores.specs.Groups.{beam_number, beamed_words, tupled_words, walked, beamed, last_non_grace, fermata_in}
use Rattle.view.proofs.GroupLaws.{words_in, renoted, notated_by, length-notated, count-read, walked-read, fermata-read, last-read}
use Rattle.view.proofs.RenotedLaws.{with_notations-beam, with_notations-few, with_notations-group, fermata-one}
use Rattle.view.specs.Holds.{records_in}
use Rattle.view.proofs.StoredLaws.{notes_in, length_part, part-cells, part-changed}

-- ---- `}`

beam-read : (b : ℕ) (zs : List ℤ) (ns : List Note) → beamed (cells (words_in b) ns ++ zs) (length ns)
    ≡ cells (words_in b) (cond (ltb 1 (non_grace_in ns)) (notated_by (λ k. with_beam (beam_number k (non_grace_in ns))) ns) ns) ++ zs
beam-read b zs ns = rw (count-read b zs (cells (words_in b) ns ++ zs) [] ns refl) (go (ltb 1 (non_grace_in ns)))
  where
    go : (c : Bool) → cond c (walked (beamed_words (non_grace_in ns)) (cells (words_in b) ns ++ zs) (length ns)).0 (cells (words_in b) ns ++ zs) ≡ cells (words_in b) (cond c (notated_by (λ k. with_beam (beam_number k (non_grace_in ns))) ns) ns) ++ zs
    go true = (walked-read b zs (beamed_words (non_grace_in ns)) (λ k. with_beam (beam_number k (non_grace_in ns))) (λ k x. refl) (cells (words_in b) ns ++ zs) [] ns refl).0
    go false = refl

module _ (n : ℕ) (s : State) where
  pub beam-stored : (start : Start) → start.from + count_from start s ≡ length s.open_bar
      → on_part note_size (length (notes_of s.bars) + start.from) (λ part. beamed part (count_from start s)) (notes_in n s.open_bar s.bars) ≡ notes_in n (with_notations (beam_closed start s) 0 s.open_bar) s.bars
  beam-stored start h =
      part-changed n s.open_bar s.bars start.from (count_from start s) h (λ l. beamed l (count_from start s)) (cond (ltb 1 total) (notated_by beams part) part) (size (ltb 1 total))
      (λ zs. ap (beamed (cells (words_in b) part ++ zs)) (sym (length_part n s.open_bar s.bars start.from (count_from start s) h)) ∙ beam-read b zs part)
      ∙ ap (λ (l : List Note). notes_in n l s.bars) (done (ltb 1 total) refl)
    where
      b : ℕ
      b = suc (length s.bars)

      part : List Note
      part = notes_from start s

      total : ℕ
      total = non_grace_in part

      beams : ℕ → Notations → Notations
      beams k = with_beam (beam_number k total)

      size : (c : Bool) → length (cond c (notated_by beams part) part) ≡ length part
      size true = length-notated beams part
      size false = refl

      done : (c : Bool) → ltb 1 total ≡ c → cond c (notated_by beams part) part ++ drop (count_from start s) s.open_bar ≡ with_notations (beam_closed start s) 0 s.open_bar
      done true e = sym (with_notations-beam start s (ltb-true 1 total e))
      done false e = take-append-drop (count_from start s) s.open_bar ∙ sym (with_notations-few start s (ltb-false 1 total e))

  -- ---- `)`

  module _ (g : Group) (h : g.start.from + count_from g.start s ≡ length s.open_bar) where
    abbrev part : List Note
    part = notes_from g.start s

    abbrev count : ℕ
    count = count_from g.start s

    abbrev lent : List ℤ
    lent = drop ((length (notes_of s.bars) + g.start.from) * note_size) (notes_in n s.open_bar s.bars)

    -- a step that gives the part what the group closes to
    closed-stored : (f : List ℤ → ℕ → List ℤ) (c : Closing) → closing_of g s ≡ c
        → ((zs : List ℤ) → f (cells (words_in (suc (length s.bars))) part ++ zs) (length part) ≡ cells (words_in (suc (length s.bars))) (notated_by (λ k. closed c) part) ++ zs)
        → on_part note_size (length (notes_of s.bars) + g.start.from) (λ l. f l count) (notes_in n s.open_bar s.bars) ≡ notes_in n (with_notations (group_closed g s) 0 s.open_bar) s.bars
    closed-stored f c e says =
        part-changed n s.open_bar s.bars g.start.from (count_from g.start s) h (λ l. f l count) (notated_by (λ k. closed c) part) (length-notated (λ k. closed c) part)
        (λ zs. ap (f (cells (words_in (suc (length s.bars))) part ++ zs)) (sym (length_part n s.open_bar s.bars g.start.from (count_from g.start s) h)) ∙ says zs)
        ∙ ap (λ (l : List Note). notes_in n l s.bars) (sym (with_notations-group g s ∙ ap (λ (c : Closing). notated_by (λ k. closed c) part ++ drop count s.open_bar) e))

    pub tuplet-stored : (actual : ℕ) → closing_of g s ≡ tuplet actual
        → on_part note_size (length (notes_of s.bars) + g.start.from) (λ l. (walked (tupled_words actual (normal_of actual)) l (count_from g.start s)).0) (notes_in n s.open_bar s.bars)
        ≡ notes_in n (with_notations (group_closed g s) 0 s.open_bar) s.bars
    tuplet-stored actual e = closed-stored (λ l k. (walked (tupled_words actual (normal_of actual)) l k).0) (tuplet actual) e
        (λ zs. (walked-read (suc (length s.bars)) zs (tupled_words actual (normal_of actual)) (λ k. with_tuplet actual) (λ k x. refl) (cells (words_in (suc (length s.bars))) part ++ zs) [] part refl).0)

    pub fermata-stored : closing_of g s ≡ fermata
        → on_part note_size (length (notes_of s.bars) + g.start.from) (λ l. fermata_in l (count_from g.start s)) (notes_in n s.open_bar s.bars)
        ≡ notes_in n (with_notations (group_closed g s) 0 s.open_bar) s.bars
    fermata-stored e = closed-stored fermata_in fermata e
        (λ zs. fermata-read (suc (length s.bars)) zs (cells (words_in (suc (length s.bars))) part ++ zs) [] part refl (fermata-one (non_grace_in part) g.count e))

    -- the record that gets the fermata
    fermata-last : closing_of g s ≡ fermata → (Q : List Note → List ℤ → Type 0) → ((x : Note) (t : List Note) → Q (x ∷ t) (words_in (suc (length s.bars)) x))
        → Q (refusals.last_non_grace s.open_bar) (record_at note_size lent (last_non_grace lent count))
    fermata-last e Q is =
        let b = suc (length s.bars) in
        let zs = zeros (n - length (cells note_words (records_in s.open_bar s.bars))) in
        let one = fermata-one (non_grace_in part) g.count e in
        let there = last-read b zs Q is (cells (words_in b) part ++ zs) [] part (drop count s.open_bar) refl (omega arith) in
        let here : record_at note_size (cells (words_in b) part ++ zs) (last_non_grace (cells (words_in b) part ++ zs) (length part)) ≡ record_at note_size lent (last_non_grace lent count) =
        λ i. let l = sym (part-cells n s.open_bar s.bars g.start.from (count_from g.start s) h) i in record_at note_size l (last_non_grace l (length_part n s.open_bar s.bars g.start.from (count_from g.start s) h i)) in
        subst (λ (w : List ℤ). Q (refusals.last_non_grace s.open_bar) w) here
        (subst (λ (l : List Note). Q (refusals.last_non_grace l) (record_at note_size (cells (words_in b) part ++ zs) (last_non_grace (cells (words_in b) part ++ zs) (length part)))) (take-append-drop count s.open_bar) there)

    -- refusal 10
    pub fermata-full : closing_of g s ≡ fermata → is_marked_full (refusals.last_non_grace s.open_bar) ≡ leb mark_capacity (number_at MARK_COUNT (record_at note_size lent (last_non_grace lent (count_from g.start s))))
    fermata-full e = fermata-last e (λ ns w. is_marked_full ns ≡ leb mark_capacity (number_at MARK_COUNT w)) (λ x t. refl)

-- a `)` that closes to nothing or too few changes no record
pub unclosed : (g : Group) (s : State) → ((d : Notations) → closed (closing_of g s) d ≡ d) → with_notations (group_closed g s) 0 s.open_bar ≡ s.open_bar
unclosed g s same = with_notations-group g s ∙ rw (go (notes_from g.start s), take-append-drop)
  where
    go : (l : List Note) → notated_by (λ k. closed (closing_of g s)) l ≡ l
    go [] = refl
    go (x ∷ l) = (λ i. renoted (either (is_non_grace x) i) x ∷ go l i)
      where
        either : (c : Bool) → cond c (closed (closing_of g s) x.notations) x.notations ≡ x.notations
        either true = same x.notations
        either false = refl
