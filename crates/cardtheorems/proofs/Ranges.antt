-- The ranges that a catalogue card asks of notes and bars, and of what a token says. Assumes nothing.
use Prim.Native.Nat.{ℕ, ◌≤◌}
use mathlib.Core.Path.{◌≡◌}
use mathlib.Core.Bool.{true, cond, ◌||◌}
use mathlib.Core.Option.{Option, none, some, get_or}
use lib.IntN.{ℤ}
use lib.ListN.{length}
use lib.Dec.{eqb, leb, ltb}
use Rattle.rules.specs.Limits.{octave_limit, dot_limit, count_limit, text_limit}
use Rattle.rules.specs.Values.{is_power_of_two, Clef, Key, Meter, Length}
use Rattle.rules.specs.Tokens.{Marking, beam_open, beam_close, group_open, group_close, tie, trill, group_count, Token, Item, clef_in, key_in, meter_in, octave_in, duration_in, accidental_in, letter_in, right_in, left_in, marking_in}
use Rattle.rules.specs.Records.{◌or◌, given, is_rest_kind, Pitch, Notations, Note, Bar}
use Rattle.rules.specs.Rules.{Attributes}
use Rattle.rules.specs.Agreement.{All}
use Rattle.cards.specs.Fields.{between}
use Rattle.cards.specs.Words.{normal_word}
use Rattle.cards.specs.Judged.{raised}

-- ---- optional values

-- P of the value, if there is one
abbrev pub IfSome : {A : Type 0} → (A → Type 0) → Option A → Type 0
IfSome P none = Unit {0}
IfSome P (some a) = P a

module _ {A : Type 0} (P : A → Type 0) where
  pub or-in : (a b : Option A) → IfSome P a → IfSome P b → IfSome P (a or b)
  or-in none b h g = g
  or-in (some a) b h g = h

  pub else-in : (o : Option A) (d : A) → IfSome P o → P d → P (get_or o d)
  else-in none d h g = g
  else-in (some a) d h g = h

  -- what a value that is given makes
  pub given-in : {B : Type 0} (Q : B → Type 0) (o : Option A) {b : B} {f : A → B} → IfSome P o → Q b → ((a : A) → P a → Q (f a)) → Q (given o b f)
  given-in Q none h g k = g
  given-in Q (some a) h g k = k a h

-- ---- attributes

-- an alteration, -2 to 2; fifths, -7 to 7
abbrev pub AlterIn : ℤ → Type 0
AlterIn alter = leb (raised 2 alter) 4 ≡ true

abbrev pub FifthsIn : ℤ → Type 0
FifthsIn fifths = leb (raised 7 fifths) 14 ≡ true

abbrev pub ClefIn : ℕ → Type 0
ClefIn clef = clef ≤ 8

pub record MeterIn (m : Meter) : Type 0 where
  pub least : 1 ≤ m.numerator
  pub most : m.numerator ≤ count_limit
  pub power : is_power_of_two m.denominator ≡ true
  pub symbol : m.symbol ≤ 2

pub record KeyIn (k : Key) : Type 0 where
  pub alters : All AlterIn k.alters
  pub fifths : FifthsIn k.fifths

-- what the fields set
pub record AttributesIn (k : Attributes) : Type 0 where
  pub clef : IfSome ClefIn k.clef
  pub fifths : IfSome FifthsIn k.fifths
  pub key_alters : All AlterIn k.key_alters
  pub meter : IfSome MeterIn k.meter

-- ---- notes and bars

abbrev pub PlaceIn : ℕ → Type 0
PlaceIn place = (1 ≤ place) × (place ≤ text_limit)

pub record PitchIn (q : Pitch) : Type 0 where
  pub place : PlaceIn q.place
  pub step : q.step ≤ 6
  pub octave : q.octave ≤ octave_limit
  pub alter : AlterIn q.alter

pub record LengthIn (l : Length) : Type 0 where
  pub duration : l.duration ≤ 9
  pub dots : l.dots ≤ dot_limit

-- a tuplet's actual is 0 or 3 to 255, and normal follows from it
pub record NotationsIn (d : Notations) : Type 0 where
  pub beam : d.beam ≤ 3
  pub actual : eqb d.actual 0 || between 3 count_limit d.actual ≡ true
  pub normal : d.normal ≡ normal_word d.actual

-- a rest, of either kind, has no pitch, any other note one or more
abbrev pub PitchesIn : ℕ → ℕ → Type 0
PitchesIn kind count = cond (is_rest_kind kind) (eqb count 0) (ltb 0 count) ≡ true

pub record NoteIn (n : Note) : Type 0 where
  pub place : PlaceIn n.heading.place
  pub kind : n.heading.kind ≤ 4
  pub duration : n.heading.duration ≤ 9
  pub dots : n.heading.dots ≤ dot_limit
  pub notations : NotationsIn n.notations
  pub count : PitchesIn n.heading.kind (length n.pitches)
  pub pitches : All PitchIn n.pitches

pub record BarIn (b : Bar) : Type 0 where
  pub clef : IfSome ClefIn b.clef
  pub fifths : IfSome FifthsIn b.fifths
  pub meter : IfSome MeterIn b.meter
  pub left : b.left ≤ 3
  pub right : b.right ≤ 3
  pub some : 1 ≤ length b.notes
  pub notes : All NoteIn b.notes

-- ---- tokens

-- the count of a `;`
abbrev pub CountIn : ℕ → Type 0
CountIn n = n ≤ count_limit

abbrev pub MarkingIn : Marking → Type 0
MarkingIn beam_open = Unit {0}
MarkingIn beam_close = Unit {0}
MarkingIn group_open = Unit {0}
MarkingIn group_close = Unit {0}
MarkingIn tie = Unit {0}
MarkingIn trill = Unit {0}
MarkingIn (group_count c) = IfSome CountIn c

-- what a token says
pub record TokenIn (t : Token) : Type 0 where
  pub clef : IfSome (λ (c : Clef). IfSome ClefIn c.clef) (clef_in t)
  pub key : IfSome KeyIn (key_in t)
  pub meter : IfSome (IfSome MeterIn) (meter_in t)
  pub octave : IfSome (λ (o : ℕ). o ≤ octave_limit) (octave_in t)
  pub duration : IfSome (All LengthIn) (duration_in t)
  pub accidental : IfSome AlterIn (accidental_in t)
  pub letter : IfSome (λ (n : ℕ). n ≤ 6) (letter_in t)
  pub right : right_in t ≤ 3
  pub left : left_in t ≤ 3
  pub marking : IfSome MarkingIn (marking_in t)

pub record ItemIn (x : Item) : Type 0 where
  pub place : PlaceIn x.place
  pub token : TokenIn x.token
