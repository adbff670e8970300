-- What is diagnosed, d1 to d20 (specification, 4 to 12); the latest first. Assumes nothing.
use Rattle.std.specs.Prelude.{ℕ, ◌+◌, Bool, not, ◌&&◌, ◌||◌, List, [], ◌∷◌, ◌++◌, if◌then◌else◌}
use Rattle.std.proofs.Math.Option.{Option}
use Rattle.rules.specs.Values.{Clef, Key, Meter}
use Rattle.rules.specs.Tokens.{Figure, figure_mark, figure_repeat, bar_repeat, Marking, beam_open, beam_close, group_open, group_close, group_count, tie, trill, Other, blank, colon, unknown, whole_bars, Token, clef, key, meter, octave, duration, accidental, letter, chord, rest, barline, grace, grace_group, figure, marking, other, Item}
use Rattle.rules.specs.Records.{is_some, given, is_empty, Position, at_data, Value, text_part, parentheses, number, Diagnostic}
use Rattle.rules.specs.Rules.{State, Attributes, Group, Closing, nothing, fermata, tuplet, too_few, in_its_bar, closing_of, ends_in_note, state_after}

abbrev pub diagnostic : ℕ → Position → Value → Diagnostic
diagnostic d position value = record { number = d; position = position; value = value }

-- nothing where the test holds, else d
abbrev pub unless : Bool → Diagnostic → List Diagnostic
unless fine d = if fine then [] else d ∷ []

-- ---- values of attributes, in tokens and in fields

-- a `+` gives d4; no clef, d5, after any d4
abbrev pub clef_diagnosed : Position → Value → Clef → List Diagnostic
clef_diagnosed position value c = unless (is_some c.clef) (diagnostic 5 position value) ++ unless (not c.mensural) (diagnostic 4 position value)

-- one d6 at most
abbrev pub key_diagnosed : Position → Value → Key → List Diagnostic
key_diagnosed position value k = unless k.standard (diagnostic 6 position value)

-- else d7
abbrev pub meter_diagnosed : Position → Value → Option Meter → List Diagnostic
meter_diagnosed position value m = unless (is_some m) (diagnostic 7 position value)

-- ---- tokens

module _ (x : Item) where
  abbrev pub here : Position
  here = at_data x.place

  -- for `%`, `$`, `@`, `;`, `=` the text after the first byte, for other tokens all of it
  abbrev pub after_first : Value
  after_first = text_part (x.offset + 1) (x.offset + x.size)

  abbrev pub all_of_it : Value
  all_of_it = text_part x.offset (x.offset + x.size)

  -- `%`, `$`, `@` are taken only while the open bar has no note; else d3
  abbrev pub if_taken : State → List Diagnostic → List Diagnostic
  if_taken s ds = if is_empty s.open_bar then ds else diagnostic 3 here after_first ∷ []

  -- below 3, d11 with the number
  abbrev pub closing_diagnosed : Closing → List Diagnostic
  closing_diagnosed nothing = []
  closing_diagnosed fermata = []
  closing_diagnosed (tuplet actual) = []
  closing_diagnosed (too_few actual) = diagnostic 11 here (number actual) ∷ []

  -- closed in a later bar, d10
  abbrev pub group_diagnosed : State → Group → List Diagnostic
  group_diagnosed s g = if in_its_bar g.start s then closing_diagnosed (closing_of g s) else diagnostic 10 here parentheses ∷ []

  -- `;` without `(` or with other digits or none, d12; `)` without `(`, d13; `t` in a bar without a record, d14; `+` after no note or grace, d16
  abbrev pub marking_diagnosed : State → Marking → List Diagnostic
  marking_diagnosed s beam_open = []
  marking_diagnosed s beam_close = []
  marking_diagnosed s group_open = []
  marking_diagnosed s (group_count count) = unless (is_some s.group && is_some count) (diagnostic 12 here after_first)
  marking_diagnosed s group_close = given s.group (diagnostic 13 here all_of_it ∷ []) (group_diagnosed s)
  marking_diagnosed s trill = unless (not (is_empty s.open_bar)) (diagnostic 14 here all_of_it)
  marking_diagnosed s tie = unless (ends_in_note s.open_bar) (diagnostic 16 here all_of_it)

  -- the second `!` in a later bar, d17; `f` of an empty figure, d18; `i` not in an empty bar after a stored one, d19
  abbrev pub figure_diagnosed : State → Figure → List Diagnostic
  figure_diagnosed s figure_mark = given s.figure_start [] (λ start. unless (in_its_bar start s) (diagnostic 17 here all_of_it))
  figure_diagnosed s figure_repeat = unless (not (is_empty s.figure)) (diagnostic 18 here all_of_it)
  figure_diagnosed s bar_repeat = unless (is_empty s.open_bar && not (is_empty s.bars)) (diagnostic 19 here all_of_it)

  -- a lone `:` is d9; a token without a rule is d15; a bad count is d20 with the digits
  abbrev pub other_diagnosed : Other → List Diagnostic
  other_diagnosed blank = []
  other_diagnosed colon = diagnostic 9 here all_of_it ∷ []
  other_diagnosed unknown = diagnostic 15 here all_of_it ∷ []
  other_diagnosed (whole_bars count) = unless (is_some count) (diagnostic 20 here after_first)

  -- an octave outside 0 to 9, d8; `r` outside a `qq` group, d15
  abbrev pub token_diagnosed : State → Token → List Diagnostic
  token_diagnosed s (clef c) = if_taken s (clef_diagnosed here after_first c)
  token_diagnosed s (key k) = if_taken s (key_diagnosed here after_first k)
  token_diagnosed s (meter m) = if_taken s (meter_diagnosed here after_first m)
  token_diagnosed s (octave o) = unless (is_some o) (diagnostic 8 here all_of_it)
  token_diagnosed s (duration p) = []
  token_diagnosed s (accidental a) = []
  token_diagnosed s (letter n) = []
  token_diagnosed s chord = []
  token_diagnosed s rest = []
  token_diagnosed s (barline r l) = []
  token_diagnosed s (grace g) = []
  token_diagnosed s (grace_group g) = unless (g || s.grace_group) (diagnostic 15 here all_of_it)
  token_diagnosed s (figure f) = figure_diagnosed s f
  token_diagnosed s (marking m) = marking_diagnosed s m
  token_diagnosed s (other o) = other_diagnosed o

-- all that the data's tokens diagnose
unfoldable pub data_diagnosed : Attributes → List Item → List Diagnostic
data_diagnosed k [] = []
data_diagnosed k (x ∷ before) = token_diagnosed x (state_after k before) x.token ++ data_diagnosed k before
