-- The card's pitches, notes and heads that the code's values are, and those that numbers would be. Assumes nothing.
use Rattle.std.specs.Prelude.{ℕ, Bool, cond, ◌&&◌, eqb, leb, List, ℤ, map, take, Option, Some, None}
use Rattle.std.proofs.Math.Option as math
use Rattle.rules.specs.Limits.{count_limit}
use Rattle.rules.specs.Values.{is_power_of_two}
use Rattle.stores.specs.Notes.{kind_number}
use Rattle.tokens.specs.Steps.{step_number, duration_number, edge_number}
use Rattle.tokens.specs.Clefs.{clef_number, symbol_word}
use Rattle.tokens.specs.declared.attributes.Clef.{Clef}
use Rattle.tokens.specs.declared.attributes.Symbol.{Symbol}
use Rattle.tokens.specs.declared.attributes.Meter.{Meter}
use Rattle.cards.specs.Fields.{stands}
use Rattle.cards.specs.Judged.{natural, raised}
use Rattle.cards.specs.Card as card
use Rattle.cards.specs.declared.notes.Pitch.{Pitch}
use Rattle.cards.specs.declared.notes.Pitches.{Pitches}
use Rattle.cards.specs.declared.notes.Note.{Note}
use Rattle.cards.specs.declared.notes.Numbers.{Numbers}
use Rattle.cards.specs.declared.heads.Head.{Head}
use Rattle.cards.specs.declared.heads.HeadNumbers.{HeadNumbers}

-- ---- notes

abbrev pub card_pitch : Pitch → card.Pitch
card_pitch q = record { place = q.place; step = step_number q.step; octave = q.octave.number; alter = q.alter }

abbrev pub card_pitches : Pitches → List card.Pitch
card_pitches qs = map card_pitch (take qs.count qs.list)

abbrev pub card_note : Note → card.Note
card_note n = record {
  place = n.place;
  duration = duration_number n.length.duration;
  dots = n.length.dots;
  kind = kind_number n.kind;
  ties = n.ties;
  beam = n.beam;
  actual = n.actual;
  mark_count = n.mark_count;
  marks = n.marks;
  pitches = card_pitches n.pitches;
}

-- a note of these numbers and pitches
abbrev pub numbered : Numbers → List card.Pitch → card.Note
numbered n pitches = record {
  place = n.place;
  duration = natural n.duration;
  dots = natural n.dots;
  kind = natural n.kind;
  ties = natural n.ties;
  beam = natural n.beam;
  actual = natural n.actual;
  mark_count = natural n.mark_count;
  marks = natural n.marks;
  pitches = pitches;
}

-- a pitch of these numbers
abbrev pub pitch_numbered : ℕ → ℤ → ℤ → ℤ → card.Pitch
pitch_numbered place step octave alter = record { place = place; step = natural step; octave = natural octave; alter = raised 2 alter }

-- ---- heads

-- 0 for none
abbrev pub clef_value : Option Clef → ℕ
clef_value None = 0
clef_value (Some c) = clef_number c

abbrev pub symbol_value : Option Symbol → ℕ
symbol_value None = 0
symbol_value (Some s) = symbol_word s

abbrev pub key_value : Option ℕ → math.Option ℕ
key_value None = math.none
key_value (Some key) = math.some key

-- a key by its fifths plus 7
abbrev pub key_numbered : Option ℤ → math.Option ℕ
key_numbered None = math.none
key_numbered (Some fifths) = math.some (raised 7 fifths)

-- 0, 0, 0 for none
abbrev pub numerator_of : Option Meter → ℕ
numerator_of None = 0
numerator_of (Some m) = m.numerator

abbrev pub denominator_of : Option Meter → ℕ
denominator_of None = 0
denominator_of (Some m) = m.denominator

abbrev pub symbol_of : Option Meter → ℕ
symbol_of None = 0
symbol_of (Some m) = symbol_value m.symbol

abbrev pub card_head : Head → card.Head
card_head h = record {
  clef = clef_value h.clef;
  key = key_value h.key;
  numerator = numerator_of h.meter;
  denominator = denominator_of h.meter;
  symbol = symbol_of h.meter;
  left = edge_number h.left;
  right = edge_number h.right;
}

-- the tests of a meter: as in `head_tests`
abbrev pub such_meter : ℕ → ℕ → ℕ → Bool
such_meter numerator denominator symbol =
    leb numerator count_limit && (cond (stands numerator) (is_power_of_two denominator) (eqb denominator 0) && leb symbol (cond (stands numerator) 2 0))

-- a head of these numbers
abbrev pub head_numbered : HeadNumbers → card.Head
head_numbered n = record {
  clef = natural n.clef;
  key = key_numbered n.fifths;
  numerator = natural n.numerator;
  denominator = natural n.denominator;
  symbol = natural n.symbol;
  left = natural n.left;
  right = natural n.right;
}
