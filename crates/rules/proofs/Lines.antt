-- Thirteen lines of the specification, over the bytes, as one statement; lines for mistakes to rule out; lines of characters (S-1.2, S-1.4, S-3.1) and of whole-bar rests (specification, 8) and of groups over a barline (S-10.2); and lines for slips in single rules.
-- Each holds for every lent size that suffices. Assumes nothing.
use Prim.Native.Nat.{ℕ, zero, suc, ◌*◌, ◌≤◌}
use mathlib.Core.Path.{◌≡◌, refl, ap}
use mathlib.Core.Option.{some}
use mathlib.Core.List.{List, [], ◌∷◌, ◌++◌}
use lib.IntN.{ℤ, pos, neg_ℤ}
use lib.ListN.{take, drop, get_or}
use Rattle.rules.specs.Limits.{pitch_size, first_pitch, note_size, bar_size, diagnostic_size, diagnostic_limit}
use Rattle.rules.specs.Text.{bytes}
use Rattle.rules.specs.Characters.{formed_size, formed_after, character_size, characters_in, code_point, is_blank, non_blanks_size}
use Rattle.rules.specs.Cut.{token_size}
use Rattle.rules.specs.Values.{clef_of, key_of, meter_of, count_of, whole_bars_of, pattern_of}
use Rattle.rules.specs.Tokens.{token_of, item_at, items_after}
use Rattle.rules.specs.Records.{given}
use Rattle.rules.specs.Rules.{step, state_after}
use Rattle.rules.specs.Diagnostics.{data_diagnosed}
use Rattle.rules.specs.Fields.{lines_after, fields_after, lines_diagnosed, fields_of, fields_diagnosed}
use Rattle.rules.specs.Refusals.{tokens_refusal, refusal_of}
use Rattle.rules.specs.Stored.{natural}
use Rattle.rules.specs.Reading.{Lent, Reading, accepted, refused, reading}
use Rattle.rules.proofs.Room.{refusal_with, Settled, read_as}

-- ---- what is lent

-- it suffices for so many notes, bars and figure records, and has 1,024 diagnostic cells or more
pub record Suffices (notes bars figure : ℕ) (lent : Lent) : Type 0 where
  pub note_words : notes * note_size ≤ lent.notes
  pub bar_words : bars * bar_size ≤ lent.bars
  pub figure_words : figure * note_size ≤ lent.figure
  pub diagnostic_cells : diagnostic_limit ≤ lent.diagnostics

-- ---- what a line reads to, seen in the lent cells

-- word k of each of the n records of `size` words
abbrev words : ℕ → ℕ → List ℤ → ℕ → List ℤ
words size k cells zero = []
words size k cells (suc n) = get_or cells k (pos 0) ∷ words size k (drop size cells) n

-- word k of each note
abbrev column : ℕ → Reading → List ℤ
column k r = words note_size k r.note_cells r.notes

abbrev places : Reading → List ℤ
places = column 0

abbrev kinds : Reading → List ℤ
kinds = column 1

abbrev durations : Reading → List ℤ
durations = column 2

abbrev dots : Reading → List ℤ
dots = column 3

abbrev ties : Reading → List ℤ
ties = column 4

abbrev beams : Reading → List ℤ
beams = column 5

abbrev actuals : Reading → List ℤ
actuals = column 6

abbrev normals : Reading → List ℤ
normals = column 7

abbrev mark_counts : Reading → List ℤ
mark_counts = column 8

abbrev pitch_counts : Reading → List ℤ
pitch_counts = column 10

abbrev bar_numbers : Reading → List ℤ
bar_numbers = column 11

-- of each note's first pitch
abbrev steps : Reading → List ℤ
steps = column 13

abbrev octaves : Reading → List ℤ
octaves = column 14

abbrev alterations : Reading → List ℤ
alterations = column 15

-- word k of each bar
abbrev bar_column : ℕ → Reading → List ℤ
bar_column k r = words bar_size k r.bar_cells r.bars

abbrev clefs : Reading → List ℤ
clefs = bar_column 2

abbrev fifths : Reading → List ℤ
fifths = bar_column 4

abbrev lefts : Reading → List ℤ
lefts = bar_column 8

abbrev rights : Reading → List ℤ
rights = bar_column 9

-- the words of each of the n records of `size` words
abbrev records : ℕ → List ℤ → ℕ → List (List ℤ)
records size cells zero = []
records size cells (suc n) = take size cells ∷ records size (drop size cells) n

abbrev diagnosed : Reading → List (List ℤ)
diagnosed r = records diagnostic_size r.diagnostic_cells r.diagnostics

-- of the first note, up to its count
abbrev pitches : Reading → List (List ℤ)
pitches r = records pitch_size (drop first_pitch r.note_cells) (natural (get_or r.note_cells 10 (pos 0)))

-- the refusal's number and place
abbrev outcome : Reading → List ℕ
outcome r = r.number ∷ r.place ∷ []

-- the numbers as words
abbrev these : List ℕ → List ℤ
these [] = []
these (n ∷ ns) = pos n ∷ these ns

abbrev minus : ℕ → ℤ
minus n = neg_ℤ (pos n)

-- with what suffices, a text is read, or refused, as with just that
reads : (text : List ℕ) {notes bars figure : ℕ} {lent : Lent} → Suffices notes bars figure lent → Settled text notes bars figure → reading text lent ≡ given (refusal_with text notes bars figure) (accepted text lent) (refused lent)
reads text {notes} {bars} {figure} {lent} h s = read_as text notes bars figure lent h.note_words h.bar_words h.figure_words h.diagnostic_cells s

-- ---- the thirteen lines

pub record Lines : Type 0 where
  -- `xC''C'C/C` alters 1 0 1 0
  pub sharp : (lent : Lent) → Suffices 4 2 0 lent → alterations (reading (bytes "xC''C'C/C") lent) ≡ these (1 ∷ 0 ∷ 1 ∷ 0 ∷ [])
  -- `x/C` 1
  pub sharp-waits : (lent : Lent) → Suffices 1 1 0 lent → alterations (reading (bytes "x/C") lent) ≡ these (1 ∷ [])
  -- `$xF F nF F/F` 1 0 0 1
  pub key-and-natural : (lent : Lent) → Suffices 4 2 0 lent → alterations (reading (bytes "$xF F nF F/F") lent) ≡ these (1 ∷ 0 ∷ 0 ∷ 1 ∷ [])
  -- `8.6 C D E` dotted 8th, 16th, dotted 8th
  pub pattern : (lent : Lent) → Suffices 3 1 0 lent → durations (reading (bytes "8.6 C D E") lent) ≡ these (5 ∷ 6 ∷ 5 ∷ [])
  pub pattern-dots : (lent : Lent) → Suffices 3 1 0 lent → dots (reading (bytes "8.6 C D E") lent) ≡ these (1 ∷ 0 ∷ 1 ∷ [])
  -- `86CqDE` 8th, grace 16th, 16th
  pub grace : (lent : Lent) → Suffices 3 1 0 lent → durations (reading (bytes "86CqDE") lent) ≡ these (5 ∷ 6 ∷ 6 ∷ [])
  pub grace-kinds : (lent : Lent) → Suffices 3 1 0 lent → kinds (reading (bytes "86CqDE") lent) ≡ these (0 ∷ 2 ∷ 0 ∷ [])
  -- `4C^E-^G` three records
  pub chord : (lent : Lent) → Suffices 3 1 0 lent → (reading (bytes "4C^E-^G") lent).notes ≡ 3
  -- `!CD!f` places 2 3 5 5
  pub figure : (lent : Lent) → Suffices 4 1 2 lent → places (reading (bytes "!CD!f") lent) ≡ these (2 ∷ 3 ∷ 5 ∷ 5 ∷ [])
  -- `C$xFF` one note, d3 at 2
  pub mid-bar : (lent : Lent) → Suffices 1 1 0 lent → (reading (bytes "C$xFF") lent).notes ≡ 1
  pub mid-bar-d3 : (lent : Lent) → Suffices 1 1 0 lent → diagnosed (reading (bytes "C$xFF") lent) ≡ these (3 ∷ 3 ∷ 2 ∷ 1 ∷ 2 ∷ 5 ∷ []) ∷ []
  -- six `'` then C octave 9, seven d8
  pub high : (lent : Lent) → Suffices 1 1 0 lent → octaves (reading (bytes "''''''C") lent) ≡ these (9 ∷ [])
  pub too-high : (lent : Lent) → Suffices 1 1 0 lent → diagnosed (reading (bytes "'''''''C") lent) ≡ these (8 ∷ 3 ∷ 1 ∷ 1 ∷ 0 ∷ 7 ∷ []) ∷ []
  -- `(CDEFG;5)` 5 to 4
  pub tuplet : (lent : Lent) → Suffices 5 1 0 lent → actuals (reading (bytes "(CDEFG;5)") lent) ≡ these (5 ∷ 5 ∷ 5 ∷ 5 ∷ 5 ∷ [])
  pub tuplet-normal : (lent : Lent) → Suffices 5 1 0 lent → normals (reading (bytes "(CDEFG;5)") lent) ≡ these (4 ∷ 4 ∷ 4 ∷ 4 ∷ 4 ∷ [])
  -- `(CD;2)` d11 at 6
  pub too_few_lem : (lent : Lent) → Suffices 2 1 0 lent → diagnosed (reading (bytes "(CD;2)") lent) ≡ these (11 ∷ 3 ∷ 6 ∷ 3 ∷ 2 ∷ 0 ∷ []) ∷ []
  -- `@c:C` refused 5
  pub no-data : (lent : Lent) → Suffices 0 0 0 lent → outcome (reading (bytes "@c:C") lent) ≡ 5 ∷ 0 ∷ []
  -- `C=` two records, kinds 0 and 4, in one bar
  pub whole-bar : (lent : Lent) → Suffices 2 1 0 lent → kinds (reading (bytes "C=") lent) ≡ these (0 ∷ 4 ∷ [])
  pub whole-bar-bars : (lent : Lent) → Suffices 2 1 0 lent → (reading (bytes "C=") lent).bars ≡ 1

pub lines : Lines
unfolding formed_size formed_after character_size characters_in code_point is_blank non_blanks_size token_size clef_of key_of meter_of count_of whole_bars_of pattern_of token_of item_at items_after step state_after data_diagnosed lines_after fields_after lines_diagnosed fields_of fields_diagnosed tokens_refusal refusal_of
lines = record {
  sharp = λ lent h. ap alterations (reads _ h tt);
  sharp-waits = λ lent h. ap alterations (reads _ h tt);
  key-and-natural = λ lent h. ap alterations (reads _ h tt);
  pattern = λ lent h. ap durations (reads _ h tt);
  pattern-dots = λ lent h. ap dots (reads _ h tt);
  grace = λ lent h. ap durations (reads _ h tt);
  grace-kinds = λ lent h. ap kinds (reads _ h tt);
  chord = λ lent h. ap (λ r. r.notes) (reads _ h tt);
  figure = λ lent h. ap places (reads _ h tt);
  mid-bar = λ lent h. ap (λ r. r.notes) (reads _ h tt);
  mid-bar-d3 = λ lent h. ap diagnosed (reads _ h tt);
  high = λ lent h. ap octaves (reads _ h tt);
  too-high = λ lent h. ap diagnosed (reads _ h tt);
  tuplet = λ lent h. ap actuals (reads _ h tt);
  tuplet-normal = λ lent h. ap normals (reads _ h tt);
  too_few_lem = λ lent h. ap diagnosed (reads _ h tt);
  no-data = λ lent h. ap outcome (reads _ h tt);
  whole-bar = λ lent h. ap kinds (reads _ h tt);
  whole-bar-bars = λ lent h. ap (λ r. r.bars) (reads _ h tt);
}

-- ---- the mistakes to rule out

pub record Mistakes : Type 0 where
  -- a mark lost at a rest or barline: a sharp (at a barline: `sharp-waits`)
  pub sign-rest : (lent : Lent) → Suffices 2 1 0 lent → alterations (reading (bytes "x-C") lent) ≡ these (0 ∷ 1 ∷ [])
  -- a `g`, a `q`, an open `qq` group
  pub slash-rest : (lent : Lent) → Suffices 2 1 0 lent → kinds (reading (bytes "g-C") lent) ≡ these (1 ∷ 3 ∷ [])
  pub grace-barline : (lent : Lent) → Suffices 1 1 0 lent → kinds (reading (bytes "q/C") lent) ≡ these (2 ∷ [])
  pub group-barline : (lent : Lent) → Suffices 1 1 0 lent → kinds (reading (bytes "qq/C") lent) ≡ these (2 ∷ [])
  -- a `^`: the next letter joins the last record, here a copy, but never a rest
  pub caret-waits : (lent : Lent) → Suffices 3 2 1 lent → pitch_counts (reading (bytes "!C!^-/fE") lent) ≡ these (1 ∷ 0 ∷ 2 ∷ [])
  pub caret-rest : (lent : Lent) → Suffices 3 1 0 lent → kinds (reading (bytes "C^-E") lent) ≡ these (0 ∷ 1 ∷ 0 ∷ [])
  -- a sharp carried to another octave
  pub octave : (lent : Lent) → Suffices 2 1 0 lent → alterations (reading (bytes "xC''C") lent) ≡ these (1 ∷ 0 ∷ [])
  -- a chord letter stepping the pattern
  pub chord : (lent : Lent) → Suffices 2 1 0 lent → durations (reading (bytes "86C^DE") lent) ≡ these (5 ∷ 6 ∷ [])
  -- a copied note fixing accidentals, by `i` and by `f`
  pub copied-bar : (lent : Lent) → Suffices 3 2 0 lent → alterations (reading (bytes "xC/iC") lent) ≡ these (1 ∷ 1 ∷ 0 ∷ [])
  pub copied-figure : (lent : Lent) → Suffices 3 2 1 lent → alterations (reading (bytes "!xC!/fC") lent) ≡ these (1 ∷ 1 ∷ 0 ∷ [])
  -- a clef after the data line ignored
  pub clef : (lent : Lent) → Suffices 1 1 0 lent → clefs (reading (bytes "@data:C" ++ 10 ∷ bytes "@clef:F-4") lent) ≡ these (3 ∷ [])

pub mistakes : Mistakes
unfolding formed_size formed_after character_size characters_in code_point is_blank non_blanks_size token_size clef_of key_of meter_of count_of whole_bars_of pattern_of token_of item_at items_after step state_after data_diagnosed lines_after fields_after lines_diagnosed fields_of fields_diagnosed tokens_refusal refusal_of
mistakes = record {
  sign-rest = λ lent h. ap alterations (reads _ h tt);
  slash-rest = λ lent h. ap kinds (reads _ h tt);
  grace-barline = λ lent h. ap kinds (reads _ h tt);
  group-barline = λ lent h. ap kinds (reads _ h tt);
  caret-waits = λ lent h. ap pitch_counts (reads _ h tt);
  caret-rest = λ lent h. ap kinds (reads _ h tt);
  octave = λ lent h. ap alterations (reads _ h tt);
  chord = λ lent h. ap durations (reads _ h tt);
  copied-bar = λ lent h. ap alterations (reads _ h tt);
  copied-figure = λ lent h. ap alterations (reads _ h tt);
  clef = λ lent h. ap clefs (reads _ h tt);
}

-- ---- characters (S-1.2, S-1.4, S-3.1)

-- the bytes of `é`, `ü`, `ï`; a blank, U+00A0; a line separator, U+2028; a zero-width space, U+200B, which is no blank
abbrev é : List ℕ
é = 195 ∷ 169 ∷ []

abbrev ü : List ℕ
ü = 195 ∷ 188 ∷ []

abbrev ï : List ℕ
ï = 195 ∷ 175 ∷ []

abbrev no_break : List ℕ
no_break = 194 ∷ 160 ∷ []

abbrev separator : List ℕ
separator = 226 ∷ 128 ∷ 168 ∷ []

abbrev zero_width : List ℕ
zero_width = 226 ∷ 128 ∷ 139 ∷ []

-- a note's words are lent, but no bar's
abbrev barless : Lent
barless = record { notes = note_size; bars = 0; figure = 0; diagnostics = diagnostic_limit }

pub record Characters : Type 0 where
  -- `éC`: d15 at 1, offsets 0 to 2; the note at place 2
  pub unknown : (lent : Lent) → Suffices 1 1 0 lent → diagnosed (reading (é ++ bytes "C") lent) ≡ these (15 ∷ 3 ∷ 1 ∷ 1 ∷ 0 ∷ 2 ∷ []) ∷ []
  pub unknown-place : (lent : Lent) → Suffices 1 1 0 lent → places (reading (é ++ bytes "C") lent) ≡ these (2 ∷ [])
  -- with no bar lent 12 at 3
  pub no-bar : outcome (reading (é ++ bytes "C") barless) ≡ 12 ∷ 3 ∷ []
  -- U+00A0 before `C`: a blank, one note at 2, no diagnostic; alone it is refused 4
  pub blank : (lent : Lent) → Suffices 1 1 0 lent → diagnosed (reading (no_break ++ bytes "C") lent) ≡ []
  pub blank-place : (lent : Lent) → Suffices 1 1 0 lent → places (reading (no_break ++ bytes "C") lent) ≡ these (2 ∷ [])
  pub blank-text : (lent : Lent) → Suffices 0 0 0 lent → outcome (reading no_break lent) ≡ 4 ∷ 0 ∷ []
  -- U+200B is none
  pub no-blank : (lent : Lent) → Suffices 1 1 0 lent → diagnosed (reading (zero_width ++ bytes "C") lent) ≡ these (15 ∷ 3 ∷ 1 ∷ 1 ∷ 0 ∷ 3 ∷ []) ∷ []
  -- `%é+üC`: three characters, a `+` in the middle: d4, then d5 (the latest last); the note at place 5
  pub clef : (lent : Lent) → Suffices 1 1 0 lent → diagnosed (reading (bytes "%" ++ é ++ bytes "+" ++ ü ++ bytes "C") lent) ≡ these (4 ∷ 3 ∷ 1 ∷ 1 ∷ 1 ∷ 6 ∷ []) ∷ these (5 ∷ 3 ∷ 1 ∷ 1 ∷ 1 ∷ 6 ∷ []) ∷ []
  pub clef-place : (lent : Lent) → Suffices 1 1 0 lent → places (reading (bytes "%" ++ é ++ bytes "+" ++ ü ++ bytes "C") lent) ≡ these (5 ∷ [])
  -- `@tïtle:x`, `@data:C`: no field, d1
  pub key : (lent : Lent) → Suffices 1 1 0 lent → diagnosed (reading (bytes "@t" ++ ï ++ bytes "tle:x" ++ 10 ∷ bytes "@data:C") lent) ≡ these (1 ∷ 1 ∷ 1 ∷ 1 ∷ 0 ∷ 9 ∷ []) ∷ []
  -- U+2028 ends no line and is trimmed: `@data:` U+2028 `C` U+2028
  pub trimmed : (lent : Lent) → Suffices 1 1 0 lent → places (reading (bytes "@data:" ++ separator ++ bytes "C" ++ separator) lent) ≡ these (1 ∷ [])
  -- a character at the end of a value stays whole: `@title:é`, d2 with offsets 7 to 9
  pub kept : (lent : Lent) → Suffices 1 1 0 lent → diagnosed (reading (bytes "@title:" ++ é ++ 10 ∷ bytes "@data:C") lent) ≡ these (2 ∷ 2 ∷ 1 ∷ 1 ∷ 7 ∷ 9 ∷ []) ∷ []
  -- a surrogate, an overlong form, above U+10FFFF, a character cut off, in a field that isn't read too: refused 3
  pub surrogate : (lent : Lent) → Suffices 0 0 0 lent → outcome (reading (bytes "C" ++ 237 ∷ 160 ∷ 128 ∷ []) lent) ≡ 3 ∷ 0 ∷ []
  pub overlong : (lent : Lent) → Suffices 0 0 0 lent → outcome (reading (bytes "C" ++ 192 ∷ 175 ∷ []) lent) ≡ 3 ∷ 0 ∷ []
  pub beyond : (lent : Lent) → Suffices 0 0 0 lent → outcome (reading (bytes "C" ++ 244 ∷ 144 ∷ 128 ∷ 128 ∷ []) lent) ≡ 3 ∷ 0 ∷ []
  pub cut_off : (lent : Lent) → Suffices 0 0 0 lent → outcome (reading (bytes "C" ++ 195 ∷ []) lent) ≡ 3 ∷ 0 ∷ []
  pub unread : (lent : Lent) → Suffices 0 0 0 lent → outcome (reading (bytes "@x:" ++ 195 ∷ 10 ∷ bytes "@data:C") lent) ≡ 3 ∷ 0 ∷ []

no-bar-lent : outcome (reading (é ++ bytes "C") barless) ≡ 12 ∷ 3 ∷ []
unfolding formed_size formed_after character_size characters_in code_point is_blank non_blanks_size token_size token_of item_at items_after step state_after lines_after fields_after fields_of tokens_refusal refusal_of reading
no-bar-lent = refl

pub characters : Characters
unfolding formed_size formed_after character_size characters_in code_point is_blank non_blanks_size token_size clef_of key_of meter_of count_of whole_bars_of pattern_of token_of item_at items_after step state_after data_diagnosed lines_after fields_after lines_diagnosed fields_of fields_diagnosed tokens_refusal refusal_of
characters = record {
  unknown = λ lent h. ap diagnosed (reads _ h tt);
  unknown-place = λ lent h. ap places (reads _ h tt);
  no-bar = no-bar-lent;
  blank = λ lent h. ap diagnosed (reads _ h tt);
  blank-place = λ lent h. ap places (reads _ h tt);
  blank-text = λ lent h. ap outcome (reads _ h tt);
  no-blank = λ lent h. ap diagnosed (reads _ h tt);
  clef = λ lent h. ap diagnosed (reads _ h tt);
  clef-place = λ lent h. ap places (reads _ h tt);
  key = λ lent h. ap diagnosed (reads _ h tt);
  trimmed = λ lent h. ap places (reads _ h tt);
  kept = λ lent h. ap diagnosed (reads _ h tt);
  surrogate = λ lent h. ap outcome (reads _ h tt);
  overlong = λ lent h. ap outcome (reads _ h tt);
  beyond = λ lent h. ap outcome (reads _ h tt);
  cut_off = λ lent h. ap outcome (reads _ h tt);
  unread = λ lent h. ap outcome (reads _ h tt);
}

-- ---- whole-bar rests (specification, 8)

-- what `C=3` comes to, with so many note and bar records lent
abbrev turned : ℕ → ℕ → List ℕ
turned notes bars = outcome (reading (bytes "C=3") (record { notes = notes * note_size; bars = bars * bar_size; figure = 0; diagnostics = diagnostic_limit }))

pub record WholeBars : Type 0 where
  -- `=3`: three records of kind 4, duration, dots and pitch count 0, the `=` token's place, a bar each
  pub three : (lent : Lent) → Suffices 3 3 0 lent → kinds (reading (bytes "=3") lent) ≡ these (4 ∷ 4 ∷ 4 ∷ [])
  pub three-places : (lent : Lent) → Suffices 3 3 0 lent → places (reading (bytes "=3") lent) ≡ these (1 ∷ 1 ∷ 1 ∷ [])
  pub three-durations : (lent : Lent) → Suffices 3 3 0 lent → durations (reading (bytes "=3") lent) ≡ these (0 ∷ 0 ∷ 0 ∷ [])
  pub three-dots : (lent : Lent) → Suffices 3 3 0 lent → dots (reading (bytes "=3") lent) ≡ these (0 ∷ 0 ∷ 0 ∷ [])
  pub three-pitches : (lent : Lent) → Suffices 3 3 0 lent → pitch_counts (reading (bytes "=3") lent) ≡ these (0 ∷ 0 ∷ 0 ∷ [])
  pub three-bars : (lent : Lent) → Suffices 3 3 0 lent → bar_numbers (reading (bytes "=3") lent) ≡ these (1 ∷ 2 ∷ 3 ∷ [])
  -- the first goes into the open bar, no barline stands behind the last; the barlines between them are normal
  pub between : (lent : Lent) → Suffices 4 2 0 lent → bar_numbers (reading (bytes "C=2D") lent) ≡ these (1 ∷ 1 ∷ 2 ∷ 2 ∷ [])
  pub normal-right : (lent : Lent) → Suffices 3 2 0 lent → rights (reading (bytes "C=2//") lent) ≡ these (0 ∷ 1 ∷ [])
  pub normal-left : (lent : Lent) → Suffices 2 2 0 lent → lefts (reading (bytes "//:=2") lent) ≡ these (2 ∷ 0 ∷ [])
  -- they clear accidentals, `=` alone has none; a sign waits past them
  pub clears : (lent : Lent) → Suffices 4 2 0 lent → alterations (reading (bytes "xC=2C") lent) ≡ these (1 ∷ 0 ∷ 0 ∷ 0 ∷ [])
  pub alone : (lent : Lent) → Suffices 3 1 0 lent → alterations (reading (bytes "xC=C") lent) ≡ these (1 ∷ 0 ∷ 1 ∷ [])
  pub waits : (lent : Lent) → Suffices 3 2 0 lent → alterations (reading (bytes "x=2C") lent) ≡ these (0 ∷ 0 ∷ 1 ∷ [])
  -- a rest for chords and `+`; it cancels no tie
  pub chord : (lent : Lent) → Suffices 3 1 0 lent → kinds (reading (bytes "C^=D") lent) ≡ these (0 ∷ 4 ∷ 0 ∷ [])
  pub no_tie : (lent : Lent) → Suffices 1 1 0 lent → diagnosed (reading (bytes "=+") lent) ≡ these (16 ∷ 3 ∷ 2 ∷ 1 ∷ 1 ∷ 2 ∷ []) ∷ []
  pub tie : (lent : Lent) → Suffices 3 1 0 lent → ties (reading (bytes "C+=D") lent) ≡ these (1 ∷ 0 ∷ 2 ∷ [])
  pub tie-on : (lent : Lent) → Suffices 4 2 0 lent → ties (reading (bytes "C+=2D") lent) ≡ these (1 ∷ 0 ∷ 0 ∷ 2 ∷ [])
  -- and for groups: a fermata, a tuplet
  pub fermata : (lent : Lent) → Suffices 1 1 0 lent → mark_counts (reading (bytes "(=)") lent) ≡ these (1 ∷ [])
  pub tuplet : (lent : Lent) → Suffices 3 1 0 lent → actuals (reading (bytes "(C=D)") lent) ≡ these (3 ∷ 3 ∷ 3 ∷ [])
  -- the bar has a note: `=$xFF` is d3
  pub mid-bar : (lent : Lent) → Suffices 1 1 0 lent → diagnosed (reading (bytes "=$xFF") lent) ≡ these (3 ∷ 3 ∷ 2 ∷ 1 ∷ 2 ∷ 5 ∷ []) ∷ []
  pub mid-bar-further : (lent : Lent) → Suffices 2 2 0 lent → diagnosed (reading (bytes "=2$xFF") lent) ≡ these (3 ∷ 3 ∷ 3 ∷ 1 ∷ 3 ∷ 6 ∷ []) ∷ []
  -- it doesn't step the pattern: 8th, 16th
  pub pattern : (lent : Lent) → Suffices 3 1 0 lent → durations (reading (bytes "86C=D") lent) ≡ these (5 ∷ 0 ∷ 6 ∷ [])
  -- `^`, `g`, `q` wait past it, a `qq` group stays open, the key stays
  pub caret-waits : (lent : Lent) → Suffices 3 1 1 lent → pitch_counts (reading (bytes "!C!^=fD") lent) ≡ these (1 ∷ 0 ∷ 2 ∷ [])
  pub grace-waits : (lent : Lent) → Suffices 2 1 0 lent → kinds (reading (bytes "g=C") lent) ≡ these (4 ∷ 3 ∷ [])
  pub group-stays : (lent : Lent) → Suffices 2 1 0 lent → kinds (reading (bytes "qq=C") lent) ≡ these (4 ∷ 2 ∷ [])
  pub key-stays : (lent : Lent) → Suffices 2 1 0 lent → alterations (reading (bytes "$xF=F") lent) ≡ these (0 ∷ 1 ∷ [])
  -- a bad count is d20 with the digits, and stores nothing; leading zeros are none
  pub bad : (lent : Lent) → Suffices 1 1 0 lent → diagnosed (reading (bytes "C=1001") lent) ≡ these (20 ∷ 3 ∷ 2 ∷ 1 ∷ 2 ∷ 6 ∷ []) ∷ []
  pub bad-kinds : (lent : Lent) → Suffices 1 1 0 lent → kinds (reading (bytes "C=1001") lent) ≡ these (0 ∷ [])
  pub none_left : (lent : Lent) → Suffices 0 0 0 lent → outcome (reading (bytes "=0") lent) ≡ 13 ∷ 0 ∷ []
  pub none-diagnosed : (lent : Lent) → Suffices 0 0 0 lent → diagnosed (reading (bytes "=0") lent) ≡ []
  pub leading-zero : (lent : Lent) → Suffices 2 2 0 lent → kinds (reading (bytes "=02") lent) ≡ these (4 ∷ 4 ∷ [])
  -- copies keep kind 4, of the last bar and of a figure
  pub copied-bar : (lent : Lent) → Suffices 3 3 0 lent → kinds (reading (bytes "=2/i") lent) ≡ these (4 ∷ 4 ∷ 4 ∷ [])
  pub copied-figure : (lent : Lent) → Suffices 2 1 1 lent → kinds (reading (bytes "!=!f") lent) ≡ these (4 ∷ 4 ∷ [])
  -- 1,000 is the most
  pub most : whole_bars_of (bytes "1000") ≡ some 1000
  -- records and barlines are checked in turn, all at the token's place; then the end: `C=3` with so many notes and bars lent
  pub checked : turned 1 3 ∷ turned 2 0 ∷ turned 2 1 ∷ turned 3 1 ∷ turned 3 2 ∷ turned 4 2 ∷ [] ≡ (8 ∷ 2 ∷ []) ∷ (12 ∷ 2 ∷ []) ∷ (8 ∷ 2 ∷ []) ∷ (12 ∷ 2 ∷ []) ∷ (8 ∷ 2 ∷ []) ∷ (12 ∷ 4 ∷ []) ∷ []

turned-all : turned 1 3 ∷ turned 2 0 ∷ turned 2 1 ∷ turned 3 1 ∷ turned 3 2 ∷ turned 4 2 ∷ [] ≡ (8 ∷ 2 ∷ []) ∷ (12 ∷ 2 ∷ []) ∷ (8 ∷ 2 ∷ []) ∷ (12 ∷ 2 ∷ []) ∷ (8 ∷ 2 ∷ []) ∷ (12 ∷ 4 ∷ []) ∷ []
unfolding formed_size formed_after character_size characters_in code_point is_blank non_blanks_size token_size whole_bars_of token_of item_at items_after step state_after lines_after fields_after fields_of tokens_refusal refusal_of reading
turned-all = refl

pub whole-bars : WholeBars
unfolding formed_size formed_after character_size characters_in code_point is_blank non_blanks_size token_size clef_of key_of meter_of count_of whole_bars_of pattern_of token_of item_at items_after step state_after data_diagnosed lines_after fields_after lines_diagnosed fields_of fields_diagnosed tokens_refusal refusal_of
whole-bars = record {
  three = λ lent h. ap kinds (reads _ h tt);
  three-places = λ lent h. ap places (reads _ h tt);
  three-durations = λ lent h. ap durations (reads _ h tt);
  three-dots = λ lent h. ap dots (reads _ h tt);
  three-pitches = λ lent h. ap pitch_counts (reads _ h tt);
  three-bars = λ lent h. ap bar_numbers (reads _ h tt);
  between = λ lent h. ap bar_numbers (reads _ h tt);
  normal-right = λ lent h. ap rights (reads _ h tt);
  normal-left = λ lent h. ap lefts (reads _ h tt);
  clears = λ lent h. ap alterations (reads _ h tt);
  alone = λ lent h. ap alterations (reads _ h tt);
  waits = λ lent h. ap alterations (reads _ h tt);
  chord = λ lent h. ap kinds (reads _ h tt);
  no_tie = λ lent h. ap diagnosed (reads _ h tt);
  tie = λ lent h. ap ties (reads _ h tt);
  tie-on = λ lent h. ap ties (reads _ h tt);
  fermata = λ lent h. ap mark_counts (reads _ h tt);
  tuplet = λ lent h. ap actuals (reads _ h tt);
  mid-bar = λ lent h. ap diagnosed (reads _ h tt);
  mid-bar-further = λ lent h. ap diagnosed (reads _ h tt);
  pattern = λ lent h. ap durations (reads _ h tt);
  caret-waits = λ lent h. ap pitch_counts (reads _ h tt);
  grace-waits = λ lent h. ap kinds (reads _ h tt);
  group-stays = λ lent h. ap kinds (reads _ h tt);
  key-stays = λ lent h. ap alterations (reads _ h tt);
  bad = λ lent h. ap diagnosed (reads _ h tt);
  bad-kinds = λ lent h. ap kinds (reads _ h tt);
  none_left = λ lent h. ap outcome (reads _ h tt);
  none-diagnosed = λ lent h. ap diagnosed (reads _ h tt);
  leading-zero = λ lent h. ap kinds (reads _ h tt);
  copied-bar = λ lent h. ap kinds (reads _ h tt);
  copied-figure = λ lent h. ap kinds (reads _ h tt);
  most = refl;
  checked = turned-all;
}

-- ---- groups over a barline

pub record LaterBars : Type 0 where
  -- closed in a later bar, `(` always gives d10: no tuplet, no fermata
  pub group : (lent : Lent) → Suffices 5 2 0 lent → diagnosed (reading (bytes "C(D/EFG)") lent) ≡ these (10 ∷ 3 ∷ 8 ∷ 2 ∷ 0 ∷ 0 ∷ []) ∷ []
  pub no-tuplet : (lent : Lent) → Suffices 5 2 0 lent → actuals (reading (bytes "C(D/EFG)") lent) ≡ these (0 ∷ 0 ∷ 0 ∷ 0 ∷ 0 ∷ [])
  pub no-fermata : (lent : Lent) → Suffices 2 2 0 lent → mark_counts (reading (bytes "(C/D)") lent) ≡ these (0 ∷ 0 ∷ [])
  pub group_empty : (lent : Lent) → Suffices 1 1 0 lent → diagnosed (reading (bytes "(C/)") lent) ≡ these (10 ∷ 3 ∷ 4 ∷ 2 ∷ 0 ∷ 0 ∷ []) ∷ []
  -- `;` still sets the count; d10 uses up the start
  pub count : (lent : Lent) → Suffices 2 1 0 lent → diagnosed (reading (bytes "C(D/;5)") lent) ≡ these (10 ∷ 3 ∷ 7 ∷ 2 ∷ 0 ∷ 0 ∷ []) ∷ []
  pub used-up : (lent : Lent) → Suffices 3 2 0 lent → diagnosed (reading (bytes "(C/D)E)") lent) ≡ these (10 ∷ 3 ∷ 5 ∷ 2 ∷ 0 ∷ 0 ∷ []) ∷ these (13 ∷ 3 ∷ 7 ∷ 1 ∷ 6 ∷ 7 ∷ []) ∷ []
  -- a barline in an empty bar starts no later one
  pub same-bar : (lent : Lent) → Suffices 3 1 0 lent → actuals (reading (bytes "(/CDE)") lent) ≡ these (3 ∷ 3 ∷ 3 ∷ [])
  pub same-bar-beam : (lent : Lent) → Suffices 2 1 0 lent → beams (reading (bytes "{/DE}") lent) ≡ these (1 ∷ 3 ∷ [])
  pub same-bar-figure : (lent : Lent) → Suffices 2 1 1 lent → places (reading (bytes "!/C!f") lent) ≡ these (3 ∷ 5 ∷ [])
  -- `!` gives d17
  pub figure : (lent : Lent) → Suffices 1 1 0 lent → diagnosed (reading (bytes "!C/!") lent) ≡ these (17 ∷ 3 ∷ 4 ∷ 1 ∷ 3 ∷ 4 ∷ []) ∷ []
  -- it keeps the figure closed before and starts none; a closed figure lives on over barlines
  pub figure-kept : (lent : Lent) → Suffices 4 2 1 lent → steps (reading (bytes "!C!!D/E!f") lent) ≡ these (0 ∷ 1 ∷ 2 ∷ 0 ∷ [])
  pub figure-diagnosed : (lent : Lent) → Suffices 4 2 1 lent → diagnosed (reading (bytes "!C!!D/E!f") lent) ≡ these (17 ∷ 3 ∷ 8 ∷ 1 ∷ 7 ∷ 8 ∷ []) ∷ []
  pub figure-on : (lent : Lent) → Suffices 2 2 1 lent → places (reading (bytes "!C!/f") lent) ≡ these (2 ∷ 5 ∷ [])
  -- a beam is dropped silently
  pub beam : (lent : Lent) → Suffices 3 2 0 lent → beams (reading (bytes "{C/DE}") lent) ≡ these (0 ∷ 0 ∷ 0 ∷ [])
  pub silent : (lent : Lent) → Suffices 3 2 0 lent → diagnosed (reading (bytes "{C/DE}") lent) ≡ []
  -- a barline between whole-bar rests starts a later bar
  pub inner-group : (lent : Lent) → Suffices 2 2 0 lent → diagnosed (reading (bytes "(=2)") lent) ≡ these (10 ∷ 3 ∷ 4 ∷ 2 ∷ 0 ∷ 0 ∷ []) ∷ []
  pub inner-figure : (lent : Lent) → Suffices 2 2 0 lent → diagnosed (reading (bytes "!=2!") lent) ≡ these (17 ∷ 3 ∷ 4 ∷ 1 ∷ 3 ∷ 4 ∷ []) ∷ []
  pub inner-beam : (lent : Lent) → Suffices 4 2 0 lent → beams (reading (bytes "{=2CD}") lent) ≡ these (0 ∷ 0 ∷ 0 ∷ 0 ∷ [])
  -- 10 and 11 are not checked: a note of 8 marks, no figure record
  pub marks : (lent : Lent) → Suffices 2 2 0 lent → diagnosed (reading (bytes "(C/Dtttttttt)") lent) ≡ these (10 ∷ 3 ∷ 13 ∷ 2 ∷ 0 ∷ 0 ∷ []) ∷ []
  pub none_lent : (lent : Lent) → Suffices 2 2 0 lent → diagnosed (reading (bytes "!C/D!") lent) ≡ these (17 ∷ 3 ∷ 5 ∷ 1 ∷ 4 ∷ 5 ∷ []) ∷ []

pub later-bars : LaterBars
unfolding formed_size formed_after character_size characters_in code_point is_blank non_blanks_size token_size clef_of key_of meter_of count_of whole_bars_of pattern_of token_of item_at items_after step state_after data_diagnosed lines_after fields_after lines_diagnosed fields_of fields_diagnosed tokens_refusal refusal_of
later-bars = record {
  group = λ lent h. ap diagnosed (reads _ h tt);
  no-tuplet = λ lent h. ap actuals (reads _ h tt);
  no-fermata = λ lent h. ap mark_counts (reads _ h tt);
  group_empty = λ lent h. ap diagnosed (reads _ h tt);
  count = λ lent h. ap diagnosed (reads _ h tt);
  used-up = λ lent h. ap diagnosed (reads _ h tt);
  same-bar = λ lent h. ap actuals (reads _ h tt);
  same-bar-beam = λ lent h. ap beams (reads _ h tt);
  same-bar-figure = λ lent h. ap places (reads _ h tt);
  figure = λ lent h. ap diagnosed (reads _ h tt);
  figure-kept = λ lent h. ap steps (reads _ h tt);
  figure-diagnosed = λ lent h. ap diagnosed (reads _ h tt);
  figure-on = λ lent h. ap places (reads _ h tt);
  beam = λ lent h. ap beams (reads _ h tt);
  silent = λ lent h. ap diagnosed (reads _ h tt);
  inner-group = λ lent h. ap diagnosed (reads _ h tt);
  inner-figure = λ lent h. ap diagnosed (reads _ h tt);
  inner-beam = λ lent h. ap beams (reads _ h tt);
  marks = λ lent h. ap diagnosed (reads _ h tt);
  none_lent = λ lent h. ap diagnosed (reads _ h tt);
}

-- ---- single rules

pub record Slips : Type 0 where
  -- a fresh reading starts in octave 4 with a quarter
  pub fresh-octave : (lent : Lent) → Suffices 1 1 0 lent → octaves (reading (bytes "C") lent) ≡ these (4 ∷ [])
  pub fresh-length : (lent : Lent) → Suffices 1 1 0 lent → durations (reading (bytes "C") lent) ≡ these (4 ∷ [])
  -- a run of k `,` sets octave 4-k; outside 0 to 9 it is kept
  pub low : (lent : Lent) → Suffices 4 1 0 lent → octaves (reading (bytes ",C,,C,,,C,,,,C") lent) ≡ these (3 ∷ 2 ∷ 1 ∷ 0 ∷ [])
  pub too-low : (lent : Lent) → Suffices 2 1 0 lent → octaves (reading (bytes ",C,,,,,C") lent) ≡ these (3 ∷ 3 ∷ [])
  -- digits 0 9 1 2 4 8 6 3 5 7 are longa to 128th; dots cap at 3
  pub digits : (lent : Lent) → Suffices 10 1 0 lent → durations (reading (bytes "0912486357CDEFGABCDE") lent) ≡ these (0 ∷ 1 ∷ 2 ∷ 3 ∷ 4 ∷ 5 ∷ 6 ∷ 7 ∷ 8 ∷ 9 ∷ [])
  pub capped : (lent : Lent) → Suffices 3 1 0 lent → dots (reading (bytes "4..C4...C4....C") lent) ≡ these (2 ∷ 3 ∷ 3 ∷ [])
  -- `-` takes the next pattern value
  pub rest : (lent : Lent) → Suffices 2 1 0 lent → durations (reading (bytes "86-C") lent) ≡ these (5 ∷ 6 ∷ [])
  -- the steps of the letters, from C
  pub letters : (lent : Lent) → Suffices 7 1 0 lent → steps (reading (bytes "CDEFGAB") lent) ≡ these (0 ∷ 1 ∷ 2 ∷ 3 ∷ 4 ∷ 5 ∷ 6 ∷ [])
  -- `x`, longer `x` runs, `b`, longer `b` runs, `n`: 1, 2, -1, -2, 0
  pub signs : (lent : Lent) → Suffices 7 1 0 lent → alterations (reading (bytes "xCxxDxxxEbFbbGbbbAnB") lent) ≡ pos 1 ∷ pos 2 ∷ pos 2 ∷ minus 1 ∷ minus 2 ∷ minus 2 ∷ pos 0 ∷ []
  -- a key's letter after `b` gets -1; fifths: minus the count
  pub flat-key : (lent : Lent) → Suffices 1 1 0 lent → alterations (reading (bytes "$bB B") lent) ≡ minus 1 ∷ []
  pub flat-fifths : (lent : Lent) → Suffices 1 1 0 lent → fifths (reading (bytes "$bB B") lent) ≡ minus 1 ∷ []
  -- the alterations of a keysig field hold
  pub keysig : (lent : Lent) → Suffices 1 1 0 lent → alterations (reading (bytes "@keysig:xF" ++ 10 ∷ bytes "@data:F") lent) ≡ these (1 ∷ [])
  -- `g`: slashed, an eighth, no dots, and the pattern isn't stepped
  pub slash-kind : (lent : Lent) → Suffices 3 1 0 lent → kinds (reading (bytes "2.4gCDE") lent) ≡ these (3 ∷ 0 ∷ 0 ∷ [])
  pub slash-length : (lent : Lent) → Suffices 3 1 0 lent → durations (reading (bytes "2.4gCDE") lent) ≡ these (5 ∷ 3 ∷ 4 ∷ [])
  pub slash-dots : (lent : Lent) → Suffices 3 1 0 lent → dots (reading (bytes "2.4gCDE") lent) ≡ these (0 ∷ 1 ∷ 0 ∷ [])
  -- `qq` to `r`: grace, the pattern's value without stepping
  pub group-kinds : (lent : Lent) → Suffices 4 1 0 lent → kinds (reading (bytes "86qqCDrEF") lent) ≡ these (2 ∷ 2 ∷ 0 ∷ 0 ∷ [])
  pub group-lengths : (lent : Lent) → Suffices 4 1 0 lent → durations (reading (bytes "86qqCDrEF") lent) ≡ these (5 ∷ 5 ∷ 5 ∷ 6 ∷ [])
  -- copies lose ties; the tie ends at the next opened note
  pub tied-bar : (lent : Lent) → Suffices 5 2 0 lent → ties (reading (bytes "C+D+/iE") lent) ≡ these (1 ∷ 3 ∷ 0 ∷ 0 ∷ 2 ∷ [])
  pub tied-figure : (lent : Lent) → Suffices 5 1 2 lent → ties (reading (bytes "!C+D+!fE") lent) ≡ these (1 ∷ 3 ∷ 0 ∷ 0 ∷ 2 ∷ [])
  -- each pitch of a chord is written
  pub both-pitches : (lent : Lent) → Suffices 1 1 0 lent → pitches (reading (bytes "C^E") lent) ≡ these (1 ∷ 0 ∷ 4 ∷ 0 ∷ []) ∷ these (3 ∷ 2 ∷ 4 ∷ 0 ∷ []) ∷ []
  -- eight pitches; the ninth is refused 9
  pub eight-pitches : (lent : Lent) → Suffices 1 1 0 lent → pitch_counts (reading (bytes "C^C^C^C^C^C^C^C") lent) ≡ these (8 ∷ [])
  pub nine-pitches : (lent : Lent) → Suffices 1 0 0 lent → outcome (reading (bytes "C^C^C^C^C^C^C^C^C") lent) ≡ 9 ∷ 17 ∷ []
  -- eight marks; the ninth is refused 10
  pub eight-marks : (lent : Lent) → Suffices 1 1 0 lent → mark_counts (reading (bytes "Ctttttttt") lent) ≡ these (8 ∷ [])
  pub nine-marks : (lent : Lent) → Suffices 1 0 0 lent → outcome (reading (bytes "Cttttttttt") lent) ≡ 10 ∷ 10 ∷ []

pub slips : Slips
unfolding formed_size formed_after character_size characters_in code_point is_blank non_blanks_size token_size clef_of key_of meter_of count_of whole_bars_of pattern_of token_of item_at items_after step state_after data_diagnosed lines_after fields_after lines_diagnosed fields_of fields_diagnosed tokens_refusal refusal_of
slips = record {
  fresh-octave = λ lent h. ap octaves (reads _ h tt);
  fresh-length = λ lent h. ap durations (reads _ h tt);
  low = λ lent h. ap octaves (reads _ h tt);
  too-low = λ lent h. ap octaves (reads _ h tt);
  digits = λ lent h. ap durations (reads _ h tt);
  capped = λ lent h. ap dots (reads _ h tt);
  rest = λ lent h. ap durations (reads _ h tt);
  letters = λ lent h. ap steps (reads _ h tt);
  signs = λ lent h. ap alterations (reads _ h tt);
  flat-key = λ lent h. ap alterations (reads _ h tt);
  flat-fifths = λ lent h. ap fifths (reads _ h tt);
  keysig = λ lent h. ap alterations (reads _ h tt);
  slash-kind = λ lent h. ap kinds (reads _ h tt);
  slash-length = λ lent h. ap durations (reads _ h tt);
  slash-dots = λ lent h. ap dots (reads _ h tt);
  group-kinds = λ lent h. ap kinds (reads _ h tt);
  group-lengths = λ lent h. ap durations (reads _ h tt);
  tied-bar = λ lent h. ap ties (reads _ h tt);
  tied-figure = λ lent h. ap ties (reads _ h tt);
  both-pitches = λ lent h. ap pitches (reads _ h tt);
  eight-pitches = λ lent h. ap pitch_counts (reads _ h tt);
  nine-pitches = λ lent h. ap outcome (reads _ h tt);
  eight-marks = λ lent h. ap mark_counts (reads _ h tt);
  nine-marks = λ lent h. ap outcome (reads _ h tt);
}
