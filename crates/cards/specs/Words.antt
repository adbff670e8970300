-- The words of a card's records in the lent cells (specification, 13). Assumes nothing.
use Rattle.std.specs.Prelude.{ℕ, suc, ◌+◌, ◌-◌, ◌*◌, cond, List, [], ◌∷◌, ◌++◌, ℤ, pos, length}
use Rattle.std.proofs.Math.Option.{Option, none, some}
use Rattle.std.proofs.Math.IntN.{sub_ℕ}
use Rattle.rules.specs.Limits.{pitch_capacity, pitch_size, count_limit}
use Rattle.rules.specs.Values.{normal_of}
use Rattle.rules.specs.Words.{zeros}
use Rattle.cards.specs.Fields.{between, each}
use Rattle.cards.specs.Card.{Pitch, Note, Head, Bar}

-- place, step, octave, alteration
abbrev pub pitch_words : Pitch → List ℤ
pitch_words q = pos q.place ∷ pos q.step ∷ pos q.octave ∷ sub_ℕ q.alter 2 ∷ []

-- unused pitches are 0
unfoldable pub pitch_cells : List Pitch → List ℤ
pitch_cells qs = each pitch_words qs ++ zeros (pitch_size * (pitch_capacity - length qs))

-- normal follows from actual; 0, 0: none
abbrev pub normal_word : ℕ → ℕ
normal_word actual = cond (between 3 count_limit actual) (normal_of actual) 0

-- place, kind, duration, dots, ties, beam, tuplet actual and normal, mark count, marks, pitch count, bar number, then the pitches
unfoldable pub note_words : ℕ → Note → List ℤ
note_words bar n =
    pos n.place
    ∷ pos n.kind
    ∷ pos n.duration
    ∷ pos n.dots
    ∷ pos n.ties
    ∷ pos n.beam
    ∷ pos n.actual
    ∷ pos (normal_word n.actual)
    ∷ pos n.mark_count
    ∷ pos n.marks
    ∷ pos (length n.pitches)
    ∷ pos bar
    ∷ pitch_cells n.pitches

-- key set 0 or 1, fifths
abbrev pub key_words : Option ℕ → List ℤ
key_words none = pos 0 ∷ pos 0 ∷ []
key_words (some k) = pos 1 ∷ sub_ℕ k 7 ∷ []

-- first note, note count, clef, key set, fifths, numerator, denominator, symbol, left, right
unfoldable pub head_words : ℕ → ℕ → Head → List ℤ
head_words first count h =
    pos first ∷ pos count ∷ pos h.clef ∷ key_words h.key ++ pos h.numerator ∷ pos h.denominator ∷ pos h.symbol ∷ pos h.left ∷ pos h.right ∷ []

abbrev pub bar_words : ℕ → Bar → List ℤ
bar_words first b = head_words first (length b.notes) b.head

-- first notes run on without gaps
unfoldable pub bar_cells : ℕ → List Bar → List ℤ
bar_cells first [] = []
bar_cells first (b ∷ bars) = bar_words first b ++ bar_cells (first + length b.notes) bars

-- bar numbers run on without gaps
unfoldable pub note_cells : ℕ → List Bar → List ℤ
note_cells number [] = []
note_cells number (b ∷ bars) = each (note_words number) b.notes ++ note_cells (suc number) bars
