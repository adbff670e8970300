-- The agreement and the note count over bytes: of every text, every lent size. Assumes nothing.
use Prim.Native.Nat.{ℕ, zero, suc, ◌+◌}
use mathlib.Core.Path.{◌≡◌, refl, sym, ap, ◌∙◌}
use mathlib.Core.Bool.{Bool, true, false, cond}
use mathlib.Core.List.{List, [], ◌∷◌, map}
use lib.IntN.{ℤ, pos}
use lib.ListN.{length, replicate, length-map}
use Rattle.rules.specs.Text.{Part}
use Rattle.rules.specs.Tokens.{Item}
use Rattle.rules.specs.Records.{Heading, Note}
use Rattle.rules.specs.Rules.{whole_bar_rest, Attributes}
use Rattle.rules.specs.Fields.{data_of}
use Rattle.rules.specs.Words.{padded, note_cells}
use Rattle.rules.specs.Stored.{StoredNote, notes_in}
use Rattle.rules.specs.Reading.{attributes_of, tokens_of, bars_of, records_of, reading, Lent}
use Rattle.rules.specs.LookBack.{keep, text_of, whole_bar_rests, back_joins}
use Rattle.rules.specs.Agreement.{has_repeat, opened_letters, rest_tokens, whole_bars_stored, whole_bar_heading, copies_in, Agreement, Agrees}
use Rattle.theorems.proofs.Lists.{all-imp, all_map, some-map, keep-map}
use Rattle.theorems.proofs.Cutting.{tokens-cut}
use Rattle.theorems.proofs.TokenPlaces.{token-places}
use Rattle.theorems.proofs.DataFormed.{data-formed}
use Rattle.theorems.proofs.Places.{headings}
use Rattle.theorems.proofs.Agreement.{Agreed, agreed, at-end}
use Rattle.theorems.proofs.Count.{repeats_among, count-is}
use Rattle.theorems.proofs.Cells.{pitch_stored, heading_stored, note_stored, cells-back}
use Rattle.theorems.proofs.Accepted.{accepted-is, text-formed}
use Rattle.theorems.proofs.Capacity.{notes-fit}

-- ---- the whole

-- what agrees as notes agrees as they stand in the cells
stored-agrees : (k : Attributes) (line : Part) (all : List Item) (notes : List Note) → Agreed k line all notes → Agreement k line all (map note_stored notes)
stored-agrees k line all notes a = record {
  every_letter = λ l. some-map note_stored _ (λ r. some-map pitch_stored _ (λ q e. ap pitch_stored e) r.pitches) notes (a.has l);
  belongs = all_map note_stored _ notes (all-imp (λ r h. all_map pitch_stored _ r.pitches (all-imp (λ q g. record { letter = g.letter; place = ap pos g.place; read = ap pitch_stored g.read }) r.pitches h)) notes a.belongs);
  one_place = a.one;
  opening = λ l. ap (keep _) (same notes) ∙ keep-map heading_stored _ (headings notes) ∙ ap (map heading_stored) (a.opening l) ∙ joins-or (back_joins k line l.before) _;
  whole_bars = λ later x before stands b. ap (keep _) (same notes) ∙ keep-map heading_stored _ (headings notes) ∙ ap (map heading_stored) (a.whole_bars later x before stands b) ∙ rests x.place (whole_bar_rests (text_of line x));
}
  where
    same : (ns : List Note) → map (λ (r : StoredNote). r.heading) (map note_stored ns) ≡ map heading_stored (headings ns)
    same [] = refl
    same (n ∷ ns) = ap (λ r. heading_stored n.heading ∷ r) (same ns)

    joins-or : (b : Bool) (h : Heading) → map heading_stored (cond b [] (h ∷ [])) ≡ cond b [] (heading_stored h ∷ [])
    joins-or true h = refl
    joins-or false h = refl

    rests : (p n : ℕ) → map heading_stored (replicate n (whole_bar_rest p).heading) ≡ replicate n (whole_bar_heading p)
    rests p zero = refl
    rests p (suc n) = ap (λ l. whole_bar_heading p ∷ l) (rests p n)

-- the copies among the notes, as they stand in the cells
copies-same : (line : Part) (all : List Item) (notes : List Note) → length (repeats_among line all (headings notes)) ≡ length (copies_in line all (map note_stored notes))
copies-same line all notes =
    let copies : List Note = keep (λ r. has_repeat line all (pos r.heading.place)) notes in
    ap length (keep-map (λ (r : Note). r.heading) _ notes) ∙ length-map copies (λ r. r.heading)
    ∙ sym (ap length (keep-map note_stored _ notes) ∙ length-map copies note_stored)

-- the agreement, whole: for every text and every lent size, if the reading is accepted, then the first records in the note cells, as counted, agree with the look-back on every letter,
-- their number is opened letters plus rests plus whole-bar rests plus copies, and places count characters
pub agrees : (text : List ℕ) (lent : Lent) → (reading text lent).number ≡ 0 → Agrees text (reading text lent).notes (reading text lent).note_cells
agrees text lent e = rw (accepted-is text lent e) (record {
  placed = token-places line (data-formed text (text-formed text lent e));
  agrees = rw back (stored-agrees k line all (records_of text) (agreed k line all (tokens-cut text)));
  counted = rw back (count ∙ ap (λ n. opened_letters k line all + rest_tokens line all + whole_bars_stored line all + n) (copies-same line all (records_of text)));
})
  where
    k : Attributes
    k = attributes_of text

    line : Part
    line = data_of text

    all : List Item
    all = tokens_of text

    count : length (records_of text) ≡ opened_letters k line all + rest_tokens line all + whole_bars_stored line all + length (repeats_among line all (headings (records_of text)))
    count = rw (at-end k line all) (count-is k line all (tokens-cut text))

    back : notes_in (padded lent.notes (note_cells (bars_of text))) (length (records_of text)) ≡ map note_stored (records_of text)
    back = cells-back lent.notes (bars_of text) (all-imp (λ n h. h.pitches) (records_of text) (notes-fit text lent e))

-- and so of every count and all cells that are the reading's
pub agrees-of : (text : List ℕ) (lent : Lent) {count : ℕ} {cells : List ℤ} → (reading text lent).number ≡ 0 → count ≡ (reading text lent).notes → cells ≡ (reading text lent).note_cells → Agrees text count cells
agrees-of text lent e c w = rw (c, w) (agrees text lent e)
