-- What the card's two functions promise, on every input (specification, 15). Assumes nothing.
use Rattle.std.specs.Prelude.{ℕ, ◌-◌, ◌≡◌, true, ◌&&◌, List, ◌++◌, ℤ, length, replicate, leb, if◌then◌else◌}
use Rattle.std.proofs.Math.Option.{Option, none, some}
use Rattle.rules.specs.Words.{zeros, padded}
use Rattle.cards.specs.Card.{Bar, Form, note_count, card_of, such}
use Rattle.cards.specs.Words.{note_cells, bar_cells}

-- an x with this property, or none where no x has it
abbrev pub Found : {A : Type 0} → (A → Type 0) → Option A → Type 0
Found {A} P none = (x : A) → P x → ⊥
Found P (some x) = P x

-- ---- the writer

-- such records, and the lent words are theirs
pub record Holds (form : Form) (notes bars : List ℤ) (l : List Bar) : Type 0 where
  pub are : such form l ≡ true
  pub note_words : notes ≡ note_cells 1 l
  pub bar_words : bars ≡ bar_cells 0 l

-- number, length, and every cell of a lent card
pub record Write : Type 0 where
  pub number : ℕ
  pub length : ℕ
  pub card : List ℕ

abbrev pub no_bytes : ℕ → List ℕ
no_bytes size = replicate size 0

-- after a refusal every cell to be written is 0
abbrev pub write_refused : ℕ → ℕ → Write
write_refused number size = record { number = number; length = 0; card = no_bytes size }

-- 14 not such records; 15 the card doesn't fit, checked only after 14; cells behind what is written are 0
abbrev pub write_of : Form → ℕ → Option (List Bar) → Write
write_of form size none = write_refused 14 size
write_of form size (some l) =
    let card = card_of form l in
    if leb (length card) size then record { number = 0; length = length card; card = card ++ no_bytes (size - length card) } else write_refused 15 size

-- the answer to these lent words, a card of `size` cells being lent
pub record Written (form : Form) (notes bars : List ℤ) (size : ℕ) (answer : Write) : Type 0 where
  pub records : Option (List Bar)
  pub right : Found (Holds form notes bars) records
  pub equals : answer ≡ write_of form size records

-- ---- the reader

-- such records, and the bytes are their card
pub record HasCard (form : Form) (card : List ℕ) (l : List Bar) : Type 0 where
  pub are : such form l ≡ true
  pub bytes : card ≡ card_of form l

-- number, counts, and every lent cell
pub record Read : Type 0 where
  pub number : ℕ
  pub notes : ℕ
  pub bars : ℕ
  pub note_cells : List ℤ
  pub bar_cells : List ℤ

abbrev pub read_refused : ℕ → ℕ → ℕ → Read
read_refused number notes bars = record { number = number; notes = 0; bars = 0; note_cells = zeros notes; bar_cells = zeros bars }

-- 14 not such a card; 15 the records don't fit into the lent cells, checked only after 14
abbrev pub read_of : ℕ → ℕ → Option (List Bar) → Read
read_of notes bars none = read_refused 14 notes bars
read_of notes bars (some l) =
    if leb (length (note_cells 1 l)) notes && leb (length (bar_cells 0 l)) bars
    then record { number = 0; notes = note_count l; bars = length l; note_cells = padded notes (note_cells 1 l); bar_cells = padded bars (bar_cells 0 l) }
    else read_refused 15 notes bars

-- the answer to this card, so many words being lent
pub record ReadBack (form : Form) (card : List ℕ) (note_words bar_words : ℕ) (answer : Read) : Type 0 where
  pub records : Option (List Bar)
  pub right : Found (HasCard form card) records
  pub equals : answer ≡ read_of note_words bar_words records
