-- The tokens of the data in turn, up to one that is refused. Assumes nothing.
use Rattle.std.specs.Prelude.{◌/◌, ◌≡◌, false, List, [], ◌∷◌, length, Result, Ok, Err}
use Rattle.std.proofs.Math.Option.{none}
use Rattle.rules.specs.Limits.{note_size, bar_size}
use Rattle.rules.specs.Values.{quarter}
use Rattle.rules.specs.Text.{Part}
use Rattle.rules.specs.Tokens.{Item, items_of}
use Rattle.rules.specs.Rules.{Attributes}
use Rattle.rules.specs.Refusals as rules
use Rattle.rules.specs.Refusals.{LentRecords, refusal}
use Rattle.rules.specs.Words.{zeros}
use Rattle.tokens.specs.declared.cut.Tokens.{Tokens}
use Rattle.tokens.specs.Spans.{items_left}
use Rattle.view.specs.declared.refusal.Refusal.{Refusal}
use Rattle.view.specs.Accidentals.{no_entries}
use Rattle.view.specs.Refusals.{refusal_number}
use Rattle.view.specs.View.{View}
use Rattle.view.specs.Steps.{after_token}

-- ---- as a reading begins

-- octave 4, a quarter, nothing waits, nothing is stored, the cells of notes and bars are 0
pub record IsFresh (v : View) : Type 0 where
  pub left : v.left ≡ 0
  pub octave : v.octave ≡ 4
  pub pattern : v.pattern ≡ quarter ∷ []
  pub lengths_left : v.lengths_left ≡ quarter ∷ []
  pub pending_accidental : v.pending_accidental ≡ none
  pub accidentals : v.accidentals ≡ no_entries
  pub chord_next : v.chord_next ≡ false
  pub pending_grace : v.pending_grace ≡ none
  pub grace_group : v.grace_group ≡ false
  pub tie_pending : v.tie_pending ≡ false
  pub figure_start : v.figure_start ≡ none
  pub beam_start : v.beam_start ≡ none
  pub group : v.group ≡ none
  pub first : v.first ≡ 0
  pub last : v.last ≡ 0
  pub notes : v.notes ≡ zeros (length v.notes)
  pub note_count : v.note_count ≡ 0
  pub bars : v.bars ≡ zeros (length v.bars)
  pub bar_count : v.bar_count ≡ 0
  pub figure_count : v.figure_count ≡ 0

-- what the fields set before the data
abbrev pub attributes_in : View → Attributes
attributes_in v = record { clef = v.clef; fifths = v.fifths; key_alters = v.key_alters; meter = v.meter }

-- how many whole records are lent
abbrev pub lent_in : View → LentRecords
lent_in v = record { notes = length v.notes / note_size; bars = length v.bars / bar_size; figure = length v.figure / note_size; diagnostics = length v.diagnostics }

-- ---- token by token

-- a refusal is at its token's place
abbrev pub at_token : Item → Result View Refusal → Result View rules.Refusal
at_token x (Ok v) = Ok v
at_token x (Err e) = Err (refusal (refusal_number e) x.place)

-- one token more, unless one before it is refused
abbrev pub then_token : Item → Result View rules.Refusal → Result View rules.Refusal
then_token x (Ok v) = at_token x (after_token x x.token v)
then_token x (Err r) = Err r

-- the tokens, the latest first
abbrev pub run : View → List Item → Result View rules.Refusal
run v [] = Ok v
run v (x ∷ before) = then_token x (run v before)

-- of a part's tokens those before these are run
pub record Walked (v : View) (d : Part) (tokens : Tokens) (w : View) : Type 0 where
  pub before : List Item
  pub left : items_of d ≡ items_left tokens before
  pub ran : run v before ≡ Ok w
