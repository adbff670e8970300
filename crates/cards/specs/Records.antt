-- Whether lent words are those of such records, bar by bar, and the bars that they hold. Assumes nothing.
use Rattle.std.specs.Prelude.{ℕ, zero, suc, ◌+◌, ◌*◌, ◌/◌, Bool, ◌&&◌, List, [], ◌∷◌, ℤ, length, take, drop, eqb, leb, ltb}
use Rattle.rules.specs.Limits.{note_size, bar_size, note_limit}
use Rattle.cards.specs.Fields.{every, holds}
use Rattle.cards.specs.Pieces.{parts}
use Rattle.cards.specs.Card.{Note, Bar, Form}
use Rattle.cards.specs.Judged.{number_at, note_of, head_of, such_words, such_head_words}

-- the words of the first bar, and how many notes it counts
abbrev pub first_bar : List ℤ → List ℤ
first_bar bars = take bar_size bars

abbrev pub count_in : List ℤ → ℕ
count_in bars = number_at (first_bar bars) 1

-- what stands behind the first bar, and behind its notes
abbrev pub later_bars : List ℤ → List ℤ
later_bars bars = drop bar_size bars

abbrev pub later_notes : ℕ → List ℤ → List ℤ
later_notes count notes = drop (count * note_size) notes

-- the words of the first `count` notes, and these notes
abbrev pub note_records : ℕ → List ℤ → List (List ℤ)
note_records count notes = parts (take note_size) note_size count notes

abbrev pub notes_of : ℕ → List ℤ → List Note
notes_of count notes = parts (λ w. note_of (take note_size w)) note_size count notes

-- the first bar's head, its note count, at least 1, its notes
unfoldable pub such_first : Form → ℕ → ℕ → List ℤ → List ℤ → Bool
such_first form number first notes bars =
    holds (such_head_words first (first_bar bars) ∷ ltb 0 (count_in bars) ∷ leb (count_in bars * note_size) (length notes) ∷ every (such_words form number) (note_records (count_in bars) notes) ∷ [])

-- `left` bars from number `number` and first note `first` on, and no note behind them
unfoldable pub such_bars : Form → ℕ → ℕ → ℕ → List ℤ → List ℤ → Bool
such_bars form zero number first notes bars = eqb (length notes) 0
such_bars form (suc left) number first notes bars =
    such_first form number first notes bars && such_bars form left (suc number) (first + count_in bars) (later_notes (count_in bars) notes) (later_bars bars)

-- whole bars, at least one, and at most 100,000 notes
unfoldable pub such_cells : Form → List ℤ → List ℤ → Bool
such_cells form notes bars =
    let left = length bars / bar_size in
    holds (ltb 0 left ∷ eqb (length bars) (left * bar_size) ∷ leb (length notes) (note_limit * note_size) ∷ such_bars form left 1 0 notes bars ∷ [])

-- the bars that the words hold
unfoldable pub bars_of : ℕ → List ℤ → List ℤ → List Bar
bars_of zero notes bars = []
bars_of (suc left) notes bars =
    record { head = head_of (first_bar bars); notes = notes_of (count_in bars) notes } ∷ bars_of left (later_notes (count_in bars) notes) (later_bars bars)
