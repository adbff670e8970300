-- What a writer has put of the records in lent words. Assumes nothing.
use Rattle.std.specs.Prelude.{ℕ, Bool, ◌≡◌, ◌*◌, ◌/◌, ◌<◌, ◌≤◌, true, false, List, ◌++◌, ℤ, length, take, Result, Ok, Err, MatchResult}
use Rattle.rules.specs.Limits.{note_size, bar_size}
use Rattle.cards.specs.Fields.{each, every}
use Rattle.cards.specs.Card.{Note, Bar, Form, note_bytes, head_bytes, bar_bytes, card_of}
use Rattle.cards.specs.Judged.{number_at, head_of, such_words}
use Rattle.cards.specs.Records.{note_records, notes_of, such_first, such_bars, such_cells, bars_of}
use Rattle.cards.specs.Answers.{Write}
use Rattle.cards.specs.Errors.{error_number}
use Rattle.cards.specs.Writer.{Wrote}
use Rattle.cards.specs.declared.error.CardError.{CardError}
use Rattle.cards.specs.declared.error.CardError.TheVariants.{Invalid, NoRoom}
use Rattle.cards.specs.declared.writing.CardWriter.{CardWriter}

-- the card is the one that was lent
pub record SameCard (s t : CardWriter) : Type 0 where
  pub same_card : t.card.ghost_name ≡ s.card.ghost_name
  pub same_room : length t.card.now ≡ length s.card.now

-- ---- notes

-- the records in these words, and the notes that they are
abbrev pub all_records : List ℤ → List (List ℤ)
all_records words = note_records (length words / note_size) words

abbrev pub all_notes : List ℤ → List Note
all_notes words = notes_of (length words / note_size) words

-- such notes, and their bytes were put if they fit; or they are no such notes
pub record WritesNotes (form : Form) (bar : ℕ) (words : List ℤ)
    (s : CardWriter) (r : Result Unit CardError) (t : CardWriter) : Type 0 where
  pub same : SameCard s t
  pub wrote : MatchResult r
      (λ _. (every (such_words form bar) (all_records words) ≡ true) × Wrote (each (note_bytes form) (all_notes words)) s t)
      (λ _. every (such_words form bar) (all_records words) ≡ false)

-- ---- bars

-- the bytes of the bar of these words, its notes at the front
abbrev pub bytes_of_bar : Form → List ℤ → List ℤ → List ℕ
bytes_of_bar form notes words =
    head_bytes (number_at words 1) (head_of words) ++ each (note_bytes form) (notes_of (number_at words 1) notes)

-- such a bar, so many notes at the front, and its bytes were put if they fit
pub record PutsBar (form : Form) (number first : ℕ) (notes words : List ℤ) (s t : CardWriter) (count : ℕ) : Type 0 where
  pub counted : count ≡ number_at words 1
  pub some : 0 < count
  pub room : count * note_size ≤ length notes
  pub such : such_first form number first notes words ≡ true
  pub put : Wrote (bytes_of_bar form notes words) s t

-- or it is no such bar
pub record WritesBar (form : Form) (number first : ℕ) (notes words : List ℤ)
    (s : CardWriter) (r : Result ℕ CardError) (t : CardWriter) : Type 0 where
  pub same : SameCard s t
  pub wrote : MatchResult r (PutsBar form number first notes words s t) (λ _. such_first form number first notes words ≡ false)

-- the bars in these words
abbrev pub records_in : List ℤ → List ℤ → List Bar
records_in notes bars = bars_of (length bars / bar_size) notes bars

-- whether they are such bars, from this number and first note on
abbrev pub all_such : Form → ℕ → ℕ → List ℤ → List ℤ → Bool
all_such form number first notes bars = such_bars form (length bars / bar_size) number first notes bars

-- such bars, and their bytes were put if they fit; or they are no such bars
pub record WritesBars (form : Form) (number first : ℕ) (notes bars : List ℤ)
    (s : CardWriter) (r : Result Unit CardError) (t : CardWriter) : Type 0 where
  pub same : SameCard s t
  pub wrote : MatchResult r
      (λ _. (all_such form number first notes bars ≡ true) × Wrote (each (bar_bytes form) (records_in notes bars)) s t)
      (λ _. all_such form number first notes bars ≡ false)

-- ---- the card

-- such records, and their card was put if it fits; or they are no such records
pub record WritesRecords (form : Form) (notes bars : List ℤ)
    (s : CardWriter) (r : Result Unit CardError) (t : CardWriter) : Type 0 where
  pub same : SameCard s t
  pub wrote : MatchResult r
      (λ _. (such_cells form notes bars ≡ true) × Wrote (card_of form (records_in notes bars)) s t)
      (λ _. such_cells form notes bars ≡ false)

-- 14 where they are no such records, and 15 where their card doesn't fit
abbrev pub Refuses : Form → List ℤ → List ℤ → ℕ → CardError → Type 0
Refuses form notes bars size Invalid = such_cells form notes bars ≡ false
Refuses form notes bars size NoRoom =
    (such_cells form notes bars ≡ true) × (size < length (card_of form (records_in notes bars)))

-- such records, and the lent bytes begin with their card; or why not
pub record Puts (form : Form) (notes bars : List ℤ)
    (before : List ℕ) (r : Result ℕ CardError) (after : List ℕ) : Type 0 where
  pub same_room : length after ≡ length before
  pub put : MatchResult r
      (λ n. (such_cells form notes bars ≡ true) × (n ≤ length after) × (take n after ≡ card_of form (records_in notes bars)))
      (Refuses form notes bars (length before))

-- the answer that a result and the lent bytes are
abbrev pub written : Result ℕ CardError → List ℕ → Write
written (Ok n) card = record { number = 0; length = n; card = card }
written (Err e) card = record { number = error_number e; length = 0; card = card }
