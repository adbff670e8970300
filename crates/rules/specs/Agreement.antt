-- The agreement: what stands in the note cells and the look-back agree on every letter (S-14.9 to S-14.15). Assumes nothing.
use Rattle.std.specs.Prelude.{ℕ, ◌+◌, ◌-◌, ◌≡◌, Bool, true, false, ◌&&◌, ◌||◌, ◌⊎◌, List, [], ◌∷◌, ◌++◌, map, ℤ, pos, length, take, replicate, if◌then◌else◌}
use Rattle.std.proofs.Math.Option.{some}
use Rattle.rules.specs.Text.{bytes, begins, Part}
use Rattle.rules.specs.Characters.{characters_in}
use Rattle.rules.specs.Tokens.{Item}
use Rattle.rules.specs.Fields.{data_of}
use Rattle.rules.specs.Rules.{Attributes}
use Rattle.rules.specs.Reading.{attributes_of, tokens_of}
use Rattle.rules.specs.Stored.{is_place, StoredPitch, StoredHeading, StoredNote, notes_in}
use Rattle.rules.specs.LookBack.{count, never, keep, text_of, letter_of, is_dash, whole_bar_rests, is_opening, back_octave, back_alter, back_joins, back_kind, back_length}

-- P of each element
abbrev pub All : {A : Type 0} → (A → Type 0) → List A → Type 0
All P [] = Unit {0}
All P (x ∷ l) = P x × All P l

-- P of some element
abbrev pub Some : {A : Type 0} → (A → Type 0) → List A → Type 0
Some P [] = ⊥
Some P (x ∷ l) = P x ⊎ Some P l

-- a letter token of the data, with its step, the tokens behind it and those before it
pub record Letter (line : Part) (all : List Item) : Type 0 where
  pub later : List Item
  pub item : Item
  pub before : List Item
  pub step : ℕ
  pub stands : all ≡ later ++ item ∷ before
  pub is_letter : letter_of (text_of line item) ≡ some step

-- the records that have a place: their headings
abbrev pub headings_at : ℕ → List StoredNote → List StoredHeading
headings_at place notes = keep (λ h. is_place h.place place) (map (λ r. r.heading) notes)

-- ---- copies are the records with the place of an `f` or `i`

-- an `f` or `i`
abbrev pub is_repeat : List ℕ → Bool
is_repeat text = begins (bytes "f") text || begins (bytes "i") text

-- whether a word holds the place of one
abbrev pub has_repeat : Part → List Item → ℤ → Bool
has_repeat line [] place = false
has_repeat line (x ∷ before) place = (is_repeat (text_of line x) && is_place place x.place) || has_repeat line before place

-- the copies among stored notes
abbrev pub copies_in : Part → List Item → List StoredNote → List StoredNote
copies_in line all notes = keep (λ r. has_repeat line all r.heading.place) notes

-- the letters that open a record
abbrev pub opened_letters : Attributes → Part → List Item → ℕ
opened_letters k line all = count never (is_opening k line) all

-- the `-` tokens
abbrev pub rest_tokens : Part → List Item → ℕ
rest_tokens line all = count never (λ x before. is_dash (text_of line x)) all

-- the whole-bar rests of the `=` tokens
abbrev pub whole_bars_stored : Part → List Item → ℕ
whole_bars_stored line [] = 0
whole_bars_stored line (x ∷ before) = whole_bar_rests (text_of line x) + whole_bars_stored line before

-- a whole-bar rest's heading: kind 4, duration and dots 0, the `=` token's place
abbrev pub whole_bar_heading : ℕ → StoredHeading
whole_bar_heading place = record { place = pos place; kind = pos 4; duration = pos 0; dots = pos 0 }

-- ---- of the fields' attributes, the data and its tokens

module _ (k : Attributes) (line : Part) (all : List Item) where
  -- the pitch that the look-back gives a letter
  abbrev pub looked_back : Letter line all → StoredPitch
  looked_back l = record { place = pos l.item.place; step = pos l.step; octave = pos (back_octave l.before); alter = back_alter k line l.before l.step }

  -- the heading that it gives the record that the letter opens
  abbrev pub opened_back : Letter line all → StoredHeading
  opened_back l = record { place = pos l.item.place; kind = pos (back_kind k line l.before); duration = pos (back_length k line l.before).duration; dots = pos (back_length k line l.before).dots }

  -- a pitch belongs to the letter token whose place it holds, and is what the look-back says of it
  pub record Belongs (q : StoredPitch) : Type 0 where
    pub letter : Letter line all
    pub place : q.place ≡ pos letter.item.place
    pub read : q ≡ looked_back letter

  -- of the stored notes
  pub record Agreement (notes : List StoredNote) : Type 0 where
    -- every letter has a stored pitch, with the looked-back step, octave and alteration
    pub every_letter : (l : Letter line all) → Some (λ r. Some (λ q. q ≡ looked_back l) r.pitches) notes
    -- every stored pitch, in copies too, belongs to a letter and is what the look-back says
    pub belongs : All (λ r. All Belongs r.pitches) notes
    -- to one letter only: no two have one place
    pub one_place : (l m : Letter line all) → l.item.place ≡ m.item.place → (l.later ≡ m.later) × (l.item ≡ m.item) × (l.before ≡ m.before)
    -- a letter joins a chord exactly when the look-back says so, and else opens just one record, with the looked-back kind, duration and dots
    pub opening : (l : Letter line all) → headings_at l.item.place notes ≡ (if back_joins k line l.before then [] else opened_back l ∷ [])
    -- an `=` token stores as many whole-bar rests as it counts
    pub whole_bars : (later : List Item) (x : Item) (before : List Item) → all ≡ later ++ x ∷ before → begins (bytes "=") (text_of line x) ≡ true
        → headings_at x.place notes ≡ replicate (whole_bar_rests (text_of line x)) (whole_bar_heading x.place)

-- ---- of a text

-- a token's place is one more than the characters before it in the data
abbrev pub Placed : Part → Item → Type 0
Placed line x = x.place ≡ 1 + characters_in (take (x.offset - line.start) line.bytes)

-- the agreement of a text, the note count and the note cells
pub record Agrees (text : List ℕ) (count : ℕ) (cells : List ℤ) : Type 0 where
  -- places count characters
  pub placed : All (Placed (data_of text)) (tokens_of text)
  -- the first records, as counted, agree with the look-back
  pub agrees : Agreement (attributes_of text) (data_of text) (tokens_of text) (notes_in cells count)
  -- the note count is opened letters plus rests plus whole-bar rests plus copies
  pub counted : let line = data_of text in let all = tokens_of text in count ≡ opened_letters (attributes_of text) line all + rest_tokens line all + whole_bars_stored line all + length (copies_in line all (notes_in cells count))
