-- What is said of the pitches in a note's words. Assumes nothing.
use Rattle.std.specs.Prelude.{◌≡◌, ◌≤◌, true, List, ℤ, drop, Result, MatchResult}
use Rattle.rules.specs.Limits.{pitch_capacity, pitch_size}
use Rattle.cards.specs.Fields.{every}
use Rattle.cards.specs.Pieces.{parts}
use Rattle.cards.specs.Judged.{number_at, pitch_of}
use Rattle.cards.specs.Card.{Form, Pitch, such_pitch}
use Rattle.cards.specs.Values.{card_pitches}
use Rattle.cards.specs.declared.notes.Pitches.{Pitches}
use Rattle.cards.specs.declared.error.CardError.{CardError}

-- the pitches that a note's words count
abbrev pub pitches_in : List ℤ → List Pitch
pitches_in w = parts pitch_of pitch_size (number_at w 10) (drop 12 w)

pub record Counts (form : Form) (w : List ℤ) (qs : Pitches) : Type 0 where
  pub few : number_at w 10 ≤ pitch_capacity
  pub count : qs.count ≡ number_at w 10
  pub are : card_pitches qs ≡ pitches_in w
  pub such : every (such_pitch form) (card_pitches qs) ≡ true

-- no more than a record takes, each of them such
abbrev pub JudgesPitches : Form → List ℤ → Result Pitches CardError → Type 0
JudgesPitches form w r = MatchResult r (Counts form w) (λ _. number_at w 10 ≤ pitch_capacity → every (such_pitch form) (pitches_in w) ≡ true → ⊥)
