-- Where a reading can stop (the table of specification, 2), in its order. Assumes nothing.
use Rattle.std.specs.Prelude.{ℕ, zero, suc, ◌+◌, Bool, true, false, not, ◌&&◌, List, [], ◌∷◌, length, leb, ltb, if◌then◌else◌}
use Rattle.std.proofs.Math.Option.{Option, none, some}
use Rattle.rules.specs.Limits.{text_limit, note_limit, diagnostic_limit, pitch_capacity, mark_capacity}
use Rattle.rules.specs.Text.{Part}
use Rattle.rules.specs.Characters.{is_formed, characters_in, all_blank}
use Rattle.rules.specs.Tokens.{Figure, figure_mark, figure_repeat, bar_repeat, Marking, beam_open, beam_close, group_open, group_close, group_count, tie, trill, Token, Item, items_of, letter_in, is_barline, figure_in, marking_in}
use Rattle.rules.specs.Records.{◌or◌, is_some, given, is_empty, Note}
use Rattle.rules.specs.Rules.{State, Attributes, Closing, nothing, fermata, tuplet, too_few, count_from, closing_of, is_non_grace, stores, joins, step, further_bars, inner_barline, in_turn, state_after, stored}
use Rattle.rules.specs.Fields.{fields_of, data_of}

-- how many whole records are lent for notes, bars and the figure, and how many diagnostic cells
pub record LentRecords : Type 0 where
  pub notes : ℕ
  pub bars : ℕ
  pub figure : ℕ
  pub diagnostics : ℕ

pub record Refusal : Type 0 where
  pub number : ℕ
  pub place : ℕ

abbrev pub refusal : ℕ → ℕ → Refusal
refusal number place = record { number = number; place = place }

-- a check: its number, and whether it fails
abbrev pub Check : Type 0
Check = ℕ × Bool

-- checks run in table order
abbrev pub first_failing : List Check → Option ℕ
first_failing [] = none
first_failing (c ∷ cs) = if c.1 then some c.0 else first_failing cs

-- ---- at the entry and in the fields: place 0

abbrev pub text_checks : List ℕ → LentRecords → List Check
text_checks text lent =
    (1, ltb text_limit (length text))
    ∷ (2, ltb lent.diagnostics diagnostic_limit)
    ∷ (3, not (is_formed text))
    ∷ (4, all_blank text)
    ∷ (5, not (is_some (fields_of text).data_value))
    ∷ []

abbrev pub text_refusal : List ℕ → LentRecords → Option Refusal
text_refusal text lent = given (first_failing (text_checks text lent)) none (λ n. some (refusal n 0))

-- ---- at a token: its data place

-- 9: the note has 8 pitches
abbrev pub is_full : List Note → Bool
is_full [] = false
is_full (n ∷ ns) = leb pitch_capacity (length n.pitches)

-- 10: the note has 8 marks
abbrev pub is_marked_full : List Note → Bool
is_marked_full [] = false
is_marked_full (n ∷ ns) = leb mark_capacity (length n.notations.marks)

-- the records up to the last non-grace one
abbrev pub last_non_grace : List Note → List Note
last_non_grace [] = []
last_non_grace (n ∷ ns) = if is_non_grace n then n ∷ ns else last_non_grace ns

abbrev pub is_fermata : Closing → Bool
is_fermata nothing = false
is_fermata fermata = true
is_fermata (tuplet actual) = false
is_fermata (too_few actual) = false

-- a trill marks the last record, a fermata its group's one non-grace record
abbrev pub over_marks : Marking → State → Bool
over_marks beam_open s = false
over_marks beam_close s = false
over_marks group_open s = false
over_marks group_close s = given s.group false (λ g. is_fermata (closing_of g s) && is_marked_full (last_non_grace s.open_bar))
over_marks tie s = false
over_marks trill s = is_marked_full s.open_bar
over_marks (group_count c) s = false

-- 11: the figure passes the lent figure records
abbrev pub over_figure : ℕ → Figure → State → Bool
over_figure lent figure_mark s = given s.figure_start false (λ start. ltb lent (count_from start s))
over_figure lent figure_repeat s = false
over_figure lent bar_repeat s = false

-- 12: the bar to store passes the lent bar records
abbrev pub over_bars : LentRecords → State → Bool
over_bars lent s = not (is_empty s.open_bar) && leb lent.bars (length s.bars)

-- storing notes: `added` records would pass the limit
abbrev pub passes : ℕ → ℕ → State → Bool
passes limit added s = ltb 0 added && ltb limit (length (stored s) + added)

abbrev pub token_checks : LentRecords → Token → State → List Check
token_checks lent t s = let added = length (stores 0 t s) in
    (7, passes note_limit added s)
    ∷ (8, passes lent.notes added s)
    ∷ (9, is_some (letter_in t) && joins s && is_full s.open_bar)
    ∷ (10, given (marking_in t) false (λ m. over_marks m s))
    ∷ (11, given (figure_in t) false (λ f. over_figure lent.figure f s))
    ∷ (12, is_barline t && over_bars lent s)
    ∷ []

abbrev pub token_refusal : LentRecords → Token → State → Option ℕ
token_refusal lent t s = first_failing (token_checks lent t s)

-- the first check that fails, at the token's place
abbrev pub refusal_at : LentRecords → Item → State → Option Refusal
refusal_at lent x s = given (token_refusal lent x.token s) none (λ n. some (refusal n x.place))

-- whole-bar rests and the barlines between them are checked in turn
abbrev pub refusal_in_turn : LentRecords → Item → ℕ → State → Option Refusal
refusal_in_turn lent x zero s = refusal_at lent x s
refusal_in_turn lent x (suc further) s = let t = in_turn x further s in refusal_in_turn lent x further s or refusal_at lent (inner_barline x) t or refusal_at lent x (step (inner_barline x) t)

-- within data, at each token from the left
unfoldable pub tokens_refusal : LentRecords → Attributes → List Item → Option Refusal
tokens_refusal lent k [] = none
tokens_refusal lent k (x ∷ before) = tokens_refusal lent k before or refusal_in_turn lent x (further_bars x.token) (state_after k before)

-- ---- at the end and after the data

-- 12 at the end, data length in characters plus 1; 13, no note or rest stored
abbrev pub end_refusal : LentRecords → ℕ → State → Option Refusal
end_refusal lent size s = if over_bars lent s then some (refusal 12 (size + 1)) else if is_empty (stored s) then some (refusal 13 0) else none

abbrev pub data_refusal : LentRecords → Attributes → Part → Option Refusal
data_refusal lent k d = tokens_refusal lent k (items_of d) or end_refusal lent (characters_in d.bytes) (state_after k (items_of d))

-- ---- the whole

unfoldable pub refusal_of : List ℕ → LentRecords → Option Refusal
refusal_of text lent = text_refusal text lent or data_refusal lent (fields_of text).attributes (data_of text)
