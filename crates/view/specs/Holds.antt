-- A view holds the rules' state: the same values, its notes, bars and figure as words in the cells. Assumes nothing.
use Rattle.std.specs.Prelude.{ℕ, zero, suc, ◌+◌, ◌*◌, ◌/◌, ◌<◌, ◌≤◌, ◌≡◌, false, List, [], ◌∷◌, ◌++◌, map, ℤ, length, Result, Ok, Err, ⊤}
use Rattle.std.proofs.Math.Option.{Option, none, some}
use Rattle.rules.specs.Limits.{note_limit, note_size, bar_size}
use Rattle.rules.specs.Values.{Length}
use Rattle.rules.specs.Tokens.{Item}
use Rattle.rules.specs.Records.{Note, Bar, notes_of}
use Rattle.rules.specs.Rules.{State, further_bars, in_turn}
use Rattle.rules.specs.Diagnostics.{token_diagnosed}
use Rattle.rules.specs.Refusals.{LentRecords, refusal, refusal_in_turn}
use Rattle.rules.specs.Words.{Numbered, in_bar, numbered, cells, padded, note_words, bar_cells}
use Rattle.tokens.specs.Rhythm.{lengths_after}
use Rattle.stores.specs.Diagnostics.{count_after_all, list_after_all}
use Rattle.view.specs.declared.refusal.Refusal.{Refusal}
use Rattle.view.specs.Accidentals.{is_none, row, entry}
use Rattle.view.specs.Refusals.{refusal_number}
use Rattle.view.specs.View.{View}

-- ---- values

pub record SameValues (s : State) (v : View) : Type 0 where
  pub clef : s.clef ≡ v.clef
  pub fifths : s.fifths ≡ v.fifths
  pub key_alters : s.key_alters ≡ v.key_alters
  pub meter : s.meter ≡ v.meter
  pub left : s.left ≡ v.left
  pub octave : s.octave ≡ v.octave
  pub pending_accidental : s.pending_accidental ≡ v.pending_accidental
  pub chord_next : s.chord_next ≡ v.chord_next
  pub pending_grace : s.pending_grace ≡ v.pending_grace
  pub grace_group : s.grace_group ≡ v.grace_group
  pub tie_pending : s.tie_pending ≡ v.tie_pending
  pub figure_start : s.figure_start ≡ v.figure_start
  pub beam_start : s.beam_start ≡ v.beam_start
  pub group : s.group ≡ v.group

-- an accidental that waits is no entry that means none
abbrev pub IsEntry : Option ℤ → Type 0
IsEntry none = ⊤
IsEntry (some alter) = is_none alter ≡ false

-- the entries of seven steps in ten octaves are the bar's accidentals
pub record Entered (s : State) (v : View) : Type 0 where
  pub rows : length v.accidentals ≡ 7
  pub columns : (step : ℕ) → step < 7 → length (row v.accidentals step) ≡ 10
  pub entries : (step octave : ℕ) → step < 7 → octave < 10 → s.accidentals step octave ≡ entry v.accidentals step octave
  pub low : v.octave < 10
  pub waits : IsEntry v.pending_accidental

-- so many lengths taken one after the other
abbrev pub taken : ℕ → List Length → List Length → List Length
taken zero all left = left
taken (suc n) all left = lengths_after all (taken n all left)

-- the lengths that are left are those of the pattern after so many were taken
pub record InTurn (s : State) (v : View) : Type 0 where
  pub pattern : s.pattern ≡ v.pattern
  pub left : v.lengths_left ≡ taken s.values_taken v.pattern v.pattern

-- ---- records

-- the number of the first note of the last stored bar
abbrev pub last_first : List Bar → ℕ
last_first [] = 0
last_first (b ∷ bs) = length (notes_of bs)

-- every stored note with its bar's number
abbrev pub records_in : List Note → List Bar → List Numbered
records_in open' bs = in_bar (suc (length bs)) open' ++ numbered bs

-- the notes stand first in their cells
pub record Stored (open' : List Note) (bs : List Bar) (v : View) : Type 0 where
  pub count : v.note_count ≡ length open' + length (notes_of bs)
  pub first : v.first ≡ length (notes_of bs)
  pub last : v.last ≡ last_first bs
  pub bars : v.bar_count ≡ length bs
  pub written : v.notes ≡ padded (length v.notes) (cells note_words (records_in open' bs))
  pub fits : v.note_count * note_size ≤ length v.notes
  pub capped : v.note_count ≤ note_limit

-- and so do the bars, none of which is empty
pub record Barred (bs : List Bar) (v : View) : Type 0 where
  pub written : v.bars ≡ padded (length v.bars) (bar_cells bs)
  pub fits : length bs * bar_size ≤ length v.bars
  pub few : length bs ≤ length (notes_of bs)

-- the figure's notes stand first in its cells, with the numbers of the bars that they come from
pub record Figured (figure : List Note) (v : View) : Type 0 where
  pub records : List Numbered
  pub rest : List ℤ
  pub notes : figure ≡ map (λ r. r.note) records
  pub counted : v.figure_count ≡ length records
  pub written : v.figure ≡ cells note_words records ++ rest

-- whole records of so many words are lent
pub record LentFor (lent : LentRecords) (v : View) : Type 0 where
  pub notes : lent.notes ≡ length v.notes / note_size
  pub bars : lent.bars ≡ length v.bars / bar_size
  pub figure : lent.figure ≡ length v.figure / note_size

-- ---- the whole

pub record Holds (lent : LentRecords) (s : State) (v : View) : Type 0 where
  pub values : SameValues s v
  pub entered : Entered s v
  pub in_turn : InTurn s v
  pub stored : Stored s.open_bar s.bars v
  pub barred : Barred s.bars v
  pub figured : Figured s.figure v
  pub lends : LentFor lent v

-- ---- a step

-- it is the rules' step of a token that is not refused, and what it diagnoses is theirs
pub record Taken (lent : LentRecords) (x : Item) (s : State) (v w : View) : Type 0 where
  pub fine : refusal_in_turn lent x (further_bars x.token) s ≡ none
  pub holds : Holds lent (in_turn x (further_bars x.token) s) w
  pub list : w.diagnostics ≡ list_after_all v.diagnostics v.diagnostic_count (token_diagnosed x s x.token)
  pub count : w.diagnostic_count ≡ count_after_all v.diagnostic_count (token_diagnosed x s x.token)

-- a step of the view, or its refusal, is the rules' own
abbrev pub Follows : LentRecords → Item → State → View → Result View Refusal → Type 0
Follows lent x s v (Ok w) = Taken lent x s v w
Follows lent x s v (Err e) = refusal_in_turn lent x (further_bars x.token) s ≡ some (refusal (refusal_number e) x.place)
