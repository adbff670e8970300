-- What a writer has put into the lent card, and a byte string more behind it. Assumes nothing.
use Rattle.std.specs.Prelude.{ℕ, ◌≡◌, cond, List, ◌∷◌, ◌++◌, length, take, leb}
use Rattle.std.proofs.Math.Option.{Option, none, some}
use Rattle.cards.specs.Fields.{stands, under, each}
use Rattle.cards.specs.Card.{Form, Pitch, pitch_bytes}
use Rattle.cards.specs.declared.writing.CardWriter.{CardWriter}

-- the bytes put so far, none where they didn't fit
abbrev pub put_so_far : CardWriter → Option (List ℕ)
put_so_far w = cond w.full none (some (take w.at w.card.now))

-- more bytes in so much room
unfoldable pub with_more : {A : Type 0} → ℕ → Option (List A) → List A → Option (List A)
with_more room none bytes = none
with_more room (some before) bytes = cond (leb (length (before ++ bytes)) room) (some (before ++ bytes)) none

-- these bytes were put, if they fit, and the card is the one that was lent
pub record Wrote (bytes : List ℕ) (s t : CardWriter) : Type 0 where
  pub same_card : t.card.ghost_name ≡ s.card.ghost_name
  pub same_room : length t.card.now ≡ length s.card.now
  pub put : put_so_far t ≡ with_more (length s.card.now) (put_so_far s) bytes

-- pitches, and their count before them, under a bit
abbrev pub counted_bytes : Form → List Pitch → List ℕ
counted_bytes form qs = under (stands (length qs)) (length qs ∷ each (pitch_bytes form) qs)
