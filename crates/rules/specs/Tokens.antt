-- The tokens of the data, what each one is, and where it stands (specification, 3). Assumes nothing.
use Rattle.std.specs.Prelude.{ℕ, zero, suc, ◌+◌, ◌-◌, ◌<◌, Bool, true, false, List, [], ◌∷◌, length, take, ℤ, pos, eqb, if◌then◌else◌}
use Prim.Native.Char.{code}
use Rattle.std.proofs.Math.Option.{Option, none, some}
use Rattle.rules.specs.Text.{is_digit, is_note_letter, Part}
use Rattle.rules.specs.Characters.{begun, is_blank}
use Rattle.rules.specs.Cut.{token_size}
use Rattle.rules.specs.Values.{Clef, Key, Meter, Length, clef_of, key_of, meter_of, count_of, whole_bars_of, raised_octave, lowered_octave, pattern_of, sharpened, flattened, step_of}

-- `!`, `f`, `i`
pub data Figure : Type 0 where
  figure_mark figure_repeat bar_repeat : Figure

-- `{`, `}`, `(`, `)`, `+`, `t`, and `;` with its count, if it has one
pub data Marking : Type 0 where
  beam_open beam_close group_open group_close tie trill : Marking
  group_count : Option ℕ → Marking

-- blanks, a lone `:`, a token without a rule, and `=` with its count, if that is not bad
pub data Other : Type 0 where
  blank colon unknown : Other
  whole_bars : Option ℕ → Other

-- clef, key, meter: `%`, `$`, `@` with what their values say; octave: a run of `'` or `,` with the octave that it sets, if it is in range;
-- duration: a digit token's pattern; accidental: `x`, `xx`, `b`, `bb`, `n` with 1, 2, -1, -2, 0; letter: its step; chord: `^`; rest: `-`;
-- barline: its right and left; grace: `g` (true, slashed) or `q` (false); grace_group: `qq` (true) or `r` (false)
pub data Token : Type 0 where
  clef : Clef → Token
  key : Key → Token
  meter : Option Meter → Token
  octave : Option ℕ → Token
  duration : List Length → Token
  accidental : ℤ → Token
  letter : ℕ → Token
  chord rest : Token
  barline : ℕ → ℕ → Token
  grace grace_group : Bool → Token
  figure : Figure → Token
  marking : Marking → Token
  other : Other → Token

-- `/` `//` `//:` have right 0, 1, 0 and left 0, 0, 2
abbrev pub slashes : ℕ → Token
slashes size = if eqb size 1 then barline 0 0 else if eqb size 2 then barline 1 0 else barline 0 2

-- `://` `://:` have right 3, 3 and left 0, 2; a lone `:` is no barline
abbrev pub colons : ℕ → Token
colons size = if eqb size 1 then other colon else if eqb size 3 then barline 3 0 else barline 3 2

-- what the token is that has the first byte b and then the bytes bs. Values are the text after the first byte for `%`, `$`, `@`, `;`, `=`, for other tokens all of it
unfoldable pub token_of : ℕ → List ℕ → Token
token_of b bs = let size = 1 + length bs in
    if eqb b (code "%") then clef (clef_of bs)
    else if eqb b (code "$") then key (key_of bs)
    else if eqb b (code "@") then meter (meter_of bs)
    else if eqb b (code "'") then octave (raised_octave size)
    else if eqb b (code ",") then octave (lowered_octave size)
    else if is_digit b then duration (pattern_of (b ∷ bs))
    else if eqb b (code "x") then accidental (sharpened size)
    else if eqb b (code "b") then accidental (flattened size)
    else if eqb b (code "n") then accidental (pos 0)
    else if is_note_letter b then letter (step_of b)
    else if eqb b (code "^") then chord
    else if eqb b (code "-") then rest
    else if eqb b (code "/") then slashes size
    else if eqb b (code ":") then colons size
    else if eqb b (code "g") then grace true
    else if eqb b (code "q") then (if eqb size 1 then grace false else grace_group true)
    else if eqb b (code "r") then grace_group false
    else if eqb b (code "!") then figure figure_mark
    else if eqb b (code "f") then figure figure_repeat
    else if eqb b (code "i") then figure bar_repeat
    else if eqb b (code "{") then marking beam_open
    else if eqb b (code "}") then marking beam_close
    else if eqb b (code "(") then marking group_open
    else if eqb b (code ";") then marking (group_count (count_of bs))
    else if eqb b (code ")") then marking group_close
    else if eqb b (code "+") then marking tie
    else if eqb b (code "t") then marking trill
    else if eqb b (code "=") then other (whole_bars (whole_bars_of bs))
    else if is_blank (b ∷ bs) then other blank
    else other unknown

-- ---- tokens with their places

-- a token; its place, counted in characters of the data from 1; its offset in the whole text, from 0, and its size, both in bytes
pub record Item : Type 0 where
  pub place : ℕ
  pub offset : ℕ
  pub size : ℕ
  pub token : Token

-- the token at the start of the text b ∷ bs
unfoldable pub item_at : ℕ → ℕ → ℕ → List ℕ → Item
item_at place offset b bs = let size = token_size (b ∷ bs) in record { place = place; offset = offset; size = size; token = token_of b (take (size - 1) bs) }

-- the tokens of a text after those of `before`, the latest first; the first `skip` bytes belong to the token before. A token's first byte begins a character, another one begins one unless it continues one
unfoldable pub items_after : ℕ → ℕ → ℕ → List ℕ → List Item → List Item
items_after skip place offset [] before = before
items_after zero place offset (b ∷ bs) before = items_after (token_size (b ∷ bs) - 1) (place + 1) (offset + 1) bs (item_at place offset b bs ∷ before)
items_after (suc skip) place offset (b ∷ bs) before = items_after skip (place + begun b) (offset + 1) bs before

-- the tokens of the data, cut from the left, the latest first
abbrev pub items_of : Part → List Item
items_of p = items_after 0 1 p.start p.bytes []

-- the place of the latest token, 0 where there is none
abbrev pub latest_place : List Item → ℕ
latest_place [] = 0
latest_place (x ∷ before) = x.place

-- places rise from token to token
abbrev pub Ordered : List Item → Type 0
Ordered [] = Unit {0}
Ordered (x ∷ before) = (latest_place before < x.place) × Ordered before

-- ---- what a token says, if it is of the kind

abbrev pub clef_in : Token → Option Clef
clef_in = elim [ clef c ↦ some c | key k ↦ none | meter m ↦ none | octave o ↦ none | duration p ↦ none | accidental a ↦ none | letter n ↦ none | chord ↦ none | rest ↦ none | barline r l ↦ none | grace g ↦ none | grace_group g ↦ none | figure f ↦ none | marking m ↦ none | other o ↦ none ]

abbrev pub key_in : Token → Option Key
key_in = elim [ clef c ↦ none | key k ↦ some k | meter m ↦ none | octave o ↦ none | duration p ↦ none | accidental a ↦ none | letter n ↦ none | chord ↦ none | rest ↦ none | barline r l ↦ none | grace g ↦ none | grace_group g ↦ none | figure f ↦ none | marking m ↦ none | other o ↦ none ]

abbrev pub meter_in : Token → Option (Option Meter)
meter_in = elim [ clef c ↦ none | key k ↦ none | meter m ↦ some m | octave o ↦ none | duration p ↦ none | accidental a ↦ none | letter n ↦ none | chord ↦ none | rest ↦ none | barline r l ↦ none | grace g ↦ none | grace_group g ↦ none | figure f ↦ none | marking m ↦ none | other o ↦ none ]

-- the octave that a token sets
abbrev pub octave_in : Token → Option ℕ
octave_in = elim [ clef c ↦ none | key k ↦ none | meter m ↦ none | octave o ↦ o | duration p ↦ none | accidental a ↦ none | letter n ↦ none | chord ↦ none | rest ↦ none | barline r l ↦ none | grace g ↦ none | grace_group g ↦ none | figure f ↦ none | marking m ↦ none | other o ↦ none ]

abbrev pub duration_in : Token → Option (List Length)
duration_in = elim [ clef c ↦ none | key k ↦ none | meter m ↦ none | octave o ↦ none | duration p ↦ some p | accidental a ↦ none | letter n ↦ none | chord ↦ none | rest ↦ none | barline r l ↦ none | grace g ↦ none | grace_group g ↦ none | figure f ↦ none | marking m ↦ none | other o ↦ none ]

abbrev pub accidental_in : Token → Option ℤ
accidental_in = elim [ clef c ↦ none | key k ↦ none | meter m ↦ none | octave o ↦ none | duration p ↦ none | accidental a ↦ some a | letter n ↦ none | chord ↦ none | rest ↦ none | barline r l ↦ none | grace g ↦ none | grace_group g ↦ none | figure f ↦ none | marking m ↦ none | other o ↦ none ]

-- a letter's step
abbrev pub letter_in : Token → Option ℕ
letter_in = elim [ clef c ↦ none | key k ↦ none | meter m ↦ none | octave o ↦ none | duration p ↦ none | accidental a ↦ none | letter n ↦ some n | chord ↦ none | rest ↦ none | barline r l ↦ none | grace g ↦ none | grace_group g ↦ none | figure f ↦ none | marking m ↦ none | other o ↦ none ]

abbrev pub is_chord : Token → Bool
is_chord = elim [ clef c ↦ false | key k ↦ false | meter m ↦ false | octave o ↦ false | duration p ↦ false | accidental a ↦ false | letter n ↦ false | chord ↦ true | rest ↦ false | barline r l ↦ false | grace g ↦ false | grace_group g ↦ false | figure f ↦ false | marking m ↦ false | other o ↦ false ]

abbrev pub is_rest : Token → Bool
is_rest = elim [ clef c ↦ false | key k ↦ false | meter m ↦ false | octave o ↦ false | duration p ↦ false | accidental a ↦ false | letter n ↦ false | chord ↦ false | rest ↦ true | barline r l ↦ false | grace g ↦ false | grace_group g ↦ false | figure f ↦ false | marking m ↦ false | other o ↦ false ]

abbrev pub is_barline : Token → Bool
is_barline = elim [ clef c ↦ false | key k ↦ false | meter m ↦ false | octave o ↦ false | duration p ↦ false | accidental a ↦ false | letter n ↦ false | chord ↦ false | rest ↦ false | barline r l ↦ true | grace g ↦ false | grace_group g ↦ false | figure f ↦ false | marking m ↦ false | other o ↦ false ]

-- a barline's right and left; 0 for every other token
abbrev pub right_in : Token → ℕ
right_in = elim [ clef c ↦ 0 | key k ↦ 0 | meter m ↦ 0 | octave o ↦ 0 | duration p ↦ 0 | accidental a ↦ 0 | letter n ↦ 0 | chord ↦ 0 | rest ↦ 0 | barline r l ↦ r | grace g ↦ 0 | grace_group g ↦ 0 | figure f ↦ 0 | marking m ↦ 0 | other o ↦ 0 ]

abbrev pub left_in : Token → ℕ
left_in = elim [ clef c ↦ 0 | key k ↦ 0 | meter m ↦ 0 | octave o ↦ 0 | duration p ↦ 0 | accidental a ↦ 0 | letter n ↦ 0 | chord ↦ 0 | rest ↦ 0 | barline r l ↦ l | grace g ↦ 0 | grace_group g ↦ 0 | figure f ↦ 0 | marking m ↦ 0 | other o ↦ 0 ]

abbrev pub grace_in : Token → Option Bool
grace_in = elim [ clef c ↦ none | key k ↦ none | meter m ↦ none | octave o ↦ none | duration p ↦ none | accidental a ↦ none | letter n ↦ none | chord ↦ none | rest ↦ none | barline r l ↦ none | grace g ↦ some g | grace_group g ↦ none | figure f ↦ none | marking m ↦ none | other o ↦ none ]

abbrev pub grace_group_in : Token → Option Bool
grace_group_in = elim [ clef c ↦ none | key k ↦ none | meter m ↦ none | octave o ↦ none | duration p ↦ none | accidental a ↦ none | letter n ↦ none | chord ↦ none | rest ↦ none | barline r l ↦ none | grace g ↦ none | grace_group g ↦ some g | figure f ↦ none | marking m ↦ none | other o ↦ none ]

abbrev pub figure_in : Token → Option Figure
figure_in = elim [ clef c ↦ none | key k ↦ none | meter m ↦ none | octave o ↦ none | duration p ↦ none | accidental a ↦ none | letter n ↦ none | chord ↦ none | rest ↦ none | barline r l ↦ none | grace g ↦ none | grace_group g ↦ none | figure f ↦ some f | marking m ↦ none | other o ↦ none ]

abbrev pub marking_in : Token → Option Marking
marking_in = elim [ clef c ↦ none | key k ↦ none | meter m ↦ none | octave o ↦ none | duration p ↦ none | accidental a ↦ none | letter n ↦ none | chord ↦ none | rest ↦ none | barline r l ↦ none | grace g ↦ none | grace_group g ↦ none | figure f ↦ none | marking m ↦ some m | other o ↦ none ]

-- how many whole-bar rests an `=` token stores
abbrev pub whole_bars_in : Token → Option ℕ
whole_bars_in = elim [ clef c ↦ none | key k ↦ none | meter m ↦ none | octave o ↦ none | duration p ↦ none | accidental a ↦ none | letter n ↦ none | chord ↦ none | rest ↦ none | barline r l ↦ none | grace g ↦ none | grace_group g ↦ none | figure f ↦ none | marking m ↦ none | other o ↦ elim o [ blank ↦ none | colon ↦ none | unknown ↦ none | whole_bars c ↦ c ] ]
