-- What the marks are: the tokens of the data, and the records that they stored. Assumes nothing.
use Rattle.std.specs.Prelude.{ℕ, ◌≡◌, ◌+◌, ◌-◌, ◌^◌, Bool, false, ◌&&◌, ◌||◌, ◌==◌, List, [], ◌∷◌, Option, None, Some, ℤ, pos, ⊤, eqb, ltb, length, drop, min, map, flat_map, reverse, slice_index_or, if◌then◌else◌}
use Rattle.std.specs.List.{prefix_len}
use Rattle.rules.specs.Tokens.{Item}
use Rattle.rules.specs.Tokens as t
use Rattle.rules.specs.Text.{Part}
use Rattle.rules.specs.Stored.{natural}
use Rattle.marks.specs.declared.mark.Mark.{Mark}
use Rattle.marks.specs.Kinds.{is_letter, is_rest}
use Rattle.marks.specs.Short.{token_at}

-- ---- tokens

-- the token that a mark is
abbrev pub token_of_mark : Mark → t.Token
token_of_mark m = token_at m.text.now

-- the token with its place that a mark is
abbrev pub item_in : Mark → Item
item_in m = record { place = m.place.0; offset = m.start.0; size = length m.text.now; token = token_of_mark m }

-- the tokens that marks are, the latest first
abbrev pub items_in : List Mark → List Item
items_in marks = map item_in (reverse marks)

-- the bytes of marks, one after the other
abbrev pub bytes_in : List Mark → List ℕ
bytes_in marks = flat_map (λ m. m.text.now) marks

-- ---- records

-- the place of the token that stored a note, and the note's kind
abbrev pub record_place : List ℤ → ℕ
record_place note = natural (slice_index_or note 0 (pos 0))

abbrev pub record_kind : List ℤ → ℕ
record_kind note = natural (slice_index_or note 1 (pos 0))

-- the token at a place stored a note
abbrev pub has_place : ℕ → List ℤ → Bool
has_place place note = record_place note == place

-- the end of the records from one number on that have this place
abbrev pub end_at : List (List ℤ) → ℕ → ℕ → ℕ
end_at notes first place = first + prefix_len (has_place place) (drop first notes)

-- the number of the last of these records, if there are any
abbrev pub last_of : ℕ → ℕ → Option ℕ
last_of first end = if ltb first end then Some (end - 1) else None

-- a token that stored this record took a length of the pattern: a rest, or a letter that opened a note and no grace
abbrev pub takes_length : t.Token → List ℤ → Bool
takes_length token note = is_rest token || (is_letter token && eqb (record_kind note) 0)

abbrev pub took_length : List (List ℤ) → t.Token → Option ℕ → Bool
took_length notes token None = false
took_length notes token (Some number) = takes_length token (slice_index_or notes number [])

-- a mark with this number, which stored the records from `first` on that have its place
pub record IsMark (notes : List (List ℤ)) (number first : ℕ) (m : Mark) : Type 0 where
  pub numbered : m.number ≡ number
  pub stored : m.stored ≡ last_of first (end_at notes first m.place.0)
  pub took : m.took_length ≡ took_length notes (token_of_mark m) m.stored

-- marks with these numbers and the records that they stored; both stand in order
abbrev pub AreMarks : List (List ℤ) → ℕ → ℕ → List Mark → Type 0
AreMarks notes number first [] = ⊤
AreMarks notes number first (m ∷ behind) = IsMark notes number first m × AreMarks notes (number + 1) (end_at notes first m.place.0) behind

-- ---- all of them

-- these are the marks of the data: its tokens, its bytes, and the records that they stored
pub record AreAll (notes : List (List ℤ)) (p : Part) (marks : List Mark) : Type 0 where
  pub items : items_in marks ≡ t.items_of p
  pub bytes : bytes_in marks ≡ p.bytes
  pub records : AreMarks notes 0 0 marks

-- a list with these marks in place of its first ones, as many of them as it has room for
abbrev pub entered : List Mark → List Mark → List Mark
entered [] list = list
entered (m ∷ behind) [] = []
entered (m ∷ behind) (x ∷ list) = m ∷ entered behind list

-- the marks of the data were entered
pub record Enters (notes : List (List ℤ)) (p : Part) (old new : List Mark) : Type 0 where
  pub marks : List Mark
  pub all : AreAll notes p marks
  pub kept : new ≡ entered marks old

-- ---- all of them, of data of any length

-- the data as a part: it starts at 0
abbrev pub whole : List ℕ → Part
whole bytes = record { start = 0; bytes = bytes }

-- a number, or the greatest that a u32 holds in place of a greater one
abbrev pub capped : ℕ → ℕ
capped n = min n (2 ^ 32 - 1)

-- a token with its place and its offset so
abbrev pub item_capped : Item → Item
item_capped x = record { place = capped x.place; offset = capped x.offset; size = x.size; token = x.token }

-- these are the marks of the data, but that places and offsets are capped
pub record AreAllCapped (notes : List (List ℤ)) (p : Part) (marks : List Mark) : Type 0 where
  pub items : items_in marks ≡ map item_capped (t.items_of p)
  pub bytes : bytes_in marks ≡ p.bytes
  pub records : AreMarks notes 0 0 marks

-- the marks of the data were entered, but that places and offsets are capped
pub record EntersCapped (notes : List (List ℤ)) (p : Part) (old new : List Mark) : Type 0 where
  pub marks : List Mark
  pub all : AreAllCapped notes p marks
  pub kept : new ≡ entered marks old
