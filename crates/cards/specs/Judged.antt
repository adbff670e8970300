-- Notes and heads from any words, and whether the words are those of such a note or head; no promise names it. Assumes nothing.
use Rattle.std.specs.Prelude.{ℕ, suc, ◌+◌, ◌-◌, ◌*◌, Bool, true, cond, ◌&&◌, List, [], ◌∷◌, ℤ, pos, negsuc, get_or, drop, eqb, leb, ltb}
use Rattle.std.proofs.Math.Option.{Option, none, some}
use Rattle.rules.specs.Limits.{pitch_capacity, pitch_size}
use Rattle.cards.specs.Fields.{holds}
use Rattle.cards.specs.Pieces.{capped, parts}
use Rattle.cards.specs.Card.{Pitch, Note, Head, Form, note_tests, head_tests}
use Rattle.cards.specs.Words.{normal_word}

-- ---- a note's fields from its words

-- a word as a number; one below 0 is above every range
abbrev pub natural : ℤ → ℕ
natural (pos n) = n
natural (negsuc n) = 4294967295

-- a word plus k
abbrev pub raised : ℕ → ℤ → ℕ
raised k (pos n) = n + k
raised k (negsuc n) = cond (ltb n k) (k - suc n) 4294967295

-- word i as a number
abbrev pub number_at : List ℤ → ℕ → ℕ
number_at w i = natural (get_or w i (pos 0))

abbrev pub pitch_of : List ℤ → Pitch
pitch_of w = record { place = number_at w 0; step = number_at w 1; octave = number_at w 2; alter = raised 2 (get_or w 3 (pos 0)) }

unfoldable pub note_of : List ℤ → Note
note_of w = record {
  place = number_at w 0;
  kind = number_at w 1;
  duration = number_at w 2;
  dots = number_at w 3;
  ties = number_at w 4;
  beam = number_at w 5;
  actual = number_at w 6;
  mark_count = number_at w 8;
  marks = number_at w 9;
  pitches = parts pitch_of pitch_size (capped (number_at w 10)) (drop 12 w);
}

-- ---- whether words are those of such a note in bar `bar`

unfoldable pub all_zero : List ℤ → Bool
all_zero [] = true
all_zero (word ∷ l) = eqb (natural word) 0 && all_zero l

-- normal follows from actual, the bar number, unused pitches are 0, and the ranges
abbrev pub word_tests : Form → ℕ → List ℤ → List Bool
word_tests form bar w =
    leb (number_at w 10) pitch_capacity
    ∷ eqb (number_at w 7) (normal_word (number_at w 6))
    ∷ eqb (number_at w 11) bar
    ∷ all_zero (drop (12 + pitch_size * capped (number_at w 10)) w)
    ∷ note_tests form (note_of w)

unfoldable pub such_words : Form → ℕ → List ℤ → Bool
such_words form bar w = holds (word_tests form bar w)

-- ---- a bar's head from its words, and whether words are those of such a head

-- a key's two words: whether it is set, and its fifths
abbrev pub key_of : ℤ → ℤ → Option ℕ
key_of set fifths = cond (eqb (natural set) 0) none (some (raised 7 fifths))

-- set 0 or 1, fifths 0 where it isn't set
abbrev pub such_key : ℤ → ℤ → Bool
such_key set fifths = leb (natural set) 1 && cond (eqb (natural set) 0) (eqb (natural fifths) 0) true

unfoldable pub head_of : List ℤ → Head
head_of w = record {
  clef = number_at w 2;
  key = cond (eqb (number_at w 3) 0) none (some (raised 7 (get_or w 4 (pos 0))));
  numerator = number_at w 5;
  denominator = number_at w 6;
  symbol = number_at w 7;
  left = number_at w 8;
  right = number_at w 9;
}

-- the first note, key set 0 or 1, fifths 0 where it isn't set, and the ranges
abbrev pub head_word_tests : ℕ → List ℤ → List Bool
head_word_tests first w =
    eqb (number_at w 0) first
    ∷ leb (number_at w 3) 1
    ∷ cond (eqb (number_at w 3) 0) (eqb (number_at w 4) 0) true
    ∷ head_tests (head_of w)

unfoldable pub such_head_words : ℕ → List ℤ → Bool
such_head_words first w = holds (head_word_tests first w)
