-- What each token of the data does to the reading (specification, 5 to 11). The step gives each field of the state one expression,
-- so that what a token leaves alone can be read off. Tokens, notes, bars, pitches and marks are lists with the latest first.
-- Refusals and diagnostics are no part of the state (Refusals, Diagnostics). Assumes nothing.
use Rattle.std.specs.Prelude.{ℕ, zero, suc, ◌-◌, Bool, true, false, not, ◌&&◌, ◌||◌, List, [], ◌∷◌, ◌++◌, map, length, take, get_or, ℤ, pos, eqb, ltb, if◌then◌else◌}
use Rattle.std.proofs.Math.Option
use Rattle.std.proofs.Math.Option.{Option, none, some}
use Rattle.rules.specs.Values.{Meter, Length, treble, quarter, eighth, element, normal_of}
use Rattle.rules.specs.Tokens.{Figure, figure_mark, figure_repeat, bar_repeat, Marking, beam_open, beam_close, group_open, group_close, group_count, tie, trill, Token, barline, Item, clef_in, key_in, meter_in, octave_in, duration_in, accidental_in, letter_in, is_chord, is_rest, is_barline, right_in, left_in, grace_in, grace_group_in, figure_in, marking_in, whole_bars_in}
use Rattle.rules.specs.Records.{◌or◌, is_some, given, is_empty, Pitch, Heading, Notations, Note, is_rest_kind, is_grace_kind, Bar, notes_of}

-- ---- the state

-- an alteration for each of 7 steps in each of 10 octaves, or none
abbrev pub Accidentals : Type 0
Accidentals = ℕ → ℕ → Option ℤ

abbrev pub no_accidentals : Accidentals
no_accidentals = λ step octave. none

-- where a group, beam or figure starts: its bar, by the number of stored bars, and the open bar's length
pub record Start : Type 0 where
  pub bar : ℕ
  pub from : ℕ

-- an open `(`: its start, and the count that `;` set
pub record Group : Type 0 where
  pub start : Start
  pub count : Option ℕ

pub record State : Type 0 where
  -- the open bar's clef, fifths, meter and left; the alterations of the key last taken
  pub clef : Option ℕ
  pub fifths : Option ℤ
  pub key_alters : List ℤ
  pub meter : Option Meter
  pub left : ℕ
  pub octave : ℕ
  -- the pattern and how many of its values were taken
  pub pattern : List Length
  pub values_taken : ℕ
  -- the accidental that waits for the next letter, and the bar's accidentals
  pub pending_accidental : Option ℤ
  pub accidentals : Accidentals
  -- a `^` waits for the next letter
  pub chord_next : Bool
  -- a `g` (true) or `q` (false) waits for the next opened note; a `qq` group is open
  pub pending_grace : Option Bool
  pub grace_group : Bool
  -- the open bar's notes, the stored bars
  pub open_bar : List Note
  pub bars : List Bar
  -- the start at the first `!`; the figure
  pub figure_start : Option Start
  pub figure : List Note
  -- the start at `{`; the open `(`
  pub beam_start : Option Start
  pub group : Option Group
  -- a tie waits for the next opened note
  pub tie_pending : Bool

-- what the fields set before the data
pub record Attributes : Type 0 where
  pub clef : Option ℕ
  pub fifths : Option ℤ
  pub key_alters : List ℤ
  pub meter : Option Meter

-- a fresh reading starts in octave 4 with a quarter; the fields come before the data
abbrev pub fresh : Attributes → State
fresh k = record {
  clef = k.clef;
  fifths = k.fifths;
  key_alters = k.key_alters;
  meter = k.meter;
  left = 0;
  octave = 4;
  pattern = quarter ∷ [];
  values_taken = 0;
  pending_accidental = none;
  accidentals = no_accidentals;
  chord_next = false;
  pending_grace = none;
  grace_group = false;
  open_bar = [];
  bars = [];
  figure_start = none;
  figure = [];
  beam_start = none;
  group = none;
  tie_pending = false;
}

-- ---- attributes and bars

-- an attribute of the open bar: taken only while the bar has no note; a barline that stores the bar leaves none
abbrev pub attribute_next : {A : Type 0} → Token → State → Option A → Option A → Option A
attribute_next t s new old = if is_empty s.open_bar then new or old else if is_barline t then none else old

-- the clef that `%` gives, the fifths of `$`, the meter that `@` gives
abbrev pub clef_given : Token → Option ℕ
clef_given t = given (clef_in t) none (λ c. c.clef)

abbrev pub fifths_given : Token → Option ℤ
fifths_given t = given (key_in t) none (λ k. some k.fifths)

abbrev pub meter_given : Token → Option Meter
meter_given t = given (meter_in t) none (λ m. m)

-- the alterations of a key that is taken
abbrev pub key_next : Token → State → List ℤ
key_next t s = if is_empty s.open_bar then given (key_in t) s.key_alters (λ k. k.alters) else s.key_alters

-- the barline's left is the next bar's; an empty bar isn't stored, a left of 2 is noted on it
abbrev pub left_next : Token → State → ℕ
left_next t s = if is_empty s.open_bar then (if eqb (left_in t) 2 then 2 else s.left) else if is_barline t then left_in t else s.left

-- the first stored bar, if it has no clef, gets treble; if no key, a set key of fifths 0
abbrev pub finished : ℕ → State → Bar
finished right s = record {
  notes = s.open_bar;
  clef = if is_empty s.bars then s.clef or some treble else s.clef;
  fifths = if is_empty s.bars then s.fifths or some (pos 0) else s.fifths;
  meter = s.meter;
  left = s.left;
  right = right;
}

-- an empty bar isn't stored
abbrev pub close : ℕ → State → List Bar
close right s = if is_empty s.open_bar then s.bars else finished right s ∷ s.bars

-- ---- letters

-- the accidental that waits, else the entry at its step and octave, else its step's key alteration
abbrev pub alter_of : State → ℕ → ℤ
alter_of s step = Option.get_or (s.pending_accidental or s.accidentals step s.octave) (get_or s.key_alters step (pos 0))

abbrev pub pitch_of : State → ℕ → ℕ → Pitch
pitch_of s place step = record { place = place; step = step; octave = s.octave; alter = alter_of s step }

-- that letter takes it and enters it at its step and octave
abbrev pub entered : Accidentals → ℕ → ℕ → ℤ → Accidentals
entered table step octave alter = λ m o. if eqb m step && eqb o octave then some alter else table m o

-- all barlines clear the bar's accidentals
abbrev pub accidentals_next : Token → State → Accidentals
accidentals_next t s = if is_barline t then no_accidentals else given (letter_in t) s.accidentals (λ step. given s.pending_accidental s.accidentals (λ alter. entered s.accidentals step s.octave alter))

-- there is a last record and it is no rest, of either kind
abbrev pub ends_in_note : List Note → Bool
ends_in_note [] = false
ends_in_note (n ∷ ns) = not (is_rest_kind n.heading.kind)

-- after `^` the next letter joins the open bar's last record as a pitch if there is one and it is no rest
abbrev pub joins : State → Bool
joins s = s.chord_next && ends_in_note s.open_bar

-- otherwise it opens a record
abbrev pub opens : Token → State → Bool
opens t s = is_some (letter_in t) && not (joins s)

-- `g` (kind 3) and `q` (kind 2) mark the next opened note; in a group it is kind 2 where unmarked
abbrev pub kind_of : Option Bool → Bool → ℕ
kind_of (some true) in_group = 3
kind_of (some false) in_group = 2
kind_of none true = 2
kind_of none false = 0

abbrev pub is_grace : Option Bool → Bool → Bool
is_grace mark in_group = is_some mark || in_group

-- a `g` note is an eighth, no dots; any other takes the pattern's value
abbrev pub length_of : Option Bool → Length → Length
length_of (some true) value = eighth
length_of (some false) value = value
length_of none value = value

abbrev pub heading : ℕ → ℕ → Length → Heading
heading place kind value = record { place = place; kind = kind; duration = value.duration; dots = value.dots }

-- the next pattern value
abbrev pub next_value : State → Length
next_value s = element s.pattern s.values_taken

abbrev pub opened_heading : State → ℕ → Heading
opened_heading s place = heading place (kind_of s.pending_grace s.grace_group) (length_of s.pending_grace (next_value s))

-- each non-grace opening and each `-` takes the next pattern value; a grace takes it without stepping
abbrev pub steps : Token → State → Bool
steps t s = is_rest t || (opens t s && not (is_grace s.pending_grace s.grace_group))

-- ---- starts of groups, beams and figures

-- a start here
abbrev pub start_here : State → Start
start_here s = record { bar = length s.bars; from = length s.open_bar }

-- the open bar is the start's own; a barline in an empty bar starts no later one
abbrev pub in_its_bar : Start → State → Bool
in_its_bar start s = eqb start.bar (length s.bars)

-- how many of the open bar's notes stand from a start on: in a later bar none
abbrev pub count_from : Start → State → ℕ
count_from start s = if in_its_bar start s then length s.open_bar - start.from else 0

-- these notes, the latest
abbrev pub notes_from : Start → State → List Note
notes_from start s = take (count_from start s) s.open_bar

-- ---- figures

-- copies lose ties and get the `f` or `i` place; pitch places stay
abbrev pub copied : ℕ → Note → Note
copied place n = record {
  heading = record { place = place; kind = n.heading.kind; duration = n.heading.duration; dots = n.heading.dots };
  pitches = n.pitches;
  notations = record { tie_start = false; tie_end = false; beam = n.notations.beam; actual = n.notations.actual; normal = n.notations.normal; marks = n.notations.marks };
}

-- in an empty bar after a stored one, that bar's notes
abbrev pub repeated_bar : List Note → List Bar → List Note
repeated_bar (n ∷ ns) bars = []
repeated_bar [] [] = []
repeated_bar [] (b ∷ bs) = b.notes

-- what `f` and `i` copy: the figure, the last stored bar
abbrev pub repeated : Figure → State → List Note
repeated figure_mark s = []
repeated figure_repeat s = s.figure
repeated bar_repeat s = repeated_bar s.open_bar s.bars

-- the first `!` notes a start, the second closes
abbrev pub figure_start_next : Figure → State → Option Start
figure_start_next figure_mark s = given s.figure_start (some (start_here s)) (λ start. none)
figure_start_next figure_repeat s = s.figure_start
figure_start_next bar_repeat s = s.figure_start

-- the second copies the notes from there into the figure, unless the bar is a later one
abbrev pub figure_next : Figure → State → List Note
figure_next figure_mark s = given s.figure_start s.figure (λ start. if in_its_bar start s then notes_from start s else s.figure)
figure_next figure_repeat s = s.figure
figure_next bar_repeat s = s.figure

-- ---- what a token stores

-- a new record has no notations, but a tie may end at it
abbrev pub plain : Bool → Notations
plain ends = record { tie_start = false; tie_end = ends; beam = 0; actual = 0; normal = 0; marks = [] }

-- an opened note
abbrev pub opened_note : State → ℕ → ℕ → Note
opened_note s place step = record { heading = opened_heading s place; pitches = pitch_of s place step ∷ []; notations = plain s.tie_pending }

-- a rest
abbrev pub rest_note : State → ℕ → Note
rest_note s place = record { heading = heading place 1 (next_value s); pitches = []; notations = plain false }

-- a whole-bar rest: duration, dots and pitch count 0, the `=` token's place
abbrev pub whole_bar_rest : ℕ → Note
whole_bar_rest place = record { heading = record { place = place; kind = 4; duration = 0; dots = 0 }; pitches = []; notations = plain false }

-- the records that a token stores: an opened note, a rest, a whole-bar rest, copies
abbrev pub stores : ℕ → Token → State → List Note
stores place t s =
    if opens t s then given (letter_in t) [] (λ step. opened_note s place step ∷ [])
    else if is_rest t then rest_note s place ∷ []
    else if is_some (whole_bars_in t) then whole_bar_rest place ∷ []
    else given (figure_in t) [] (λ f. map (copied place) (repeated f s))

-- one more pitch in the last record
abbrev pub add_pitch : Pitch → List Note → List Note
add_pitch q [] = []
add_pitch q (n ∷ ns) = record { heading = n.heading; pitches = q ∷ n.pitches; notations = n.notations } ∷ ns

-- the open bar after a letter that joins
abbrev pub joined : ℕ → Token → State → List Note
joined place t s = given (letter_in t) s.open_bar (λ step. if joins s then add_pitch (pitch_of s place step) s.open_bar else s.open_bar)

-- ---- groups and marks

-- a non-grace record, rests too
abbrev pub is_non_grace : Note → Bool
is_non_grace n = not (is_grace_kind n.heading.kind)

-- how many records are non-grace
abbrev pub non_grace_in : List Note → ℕ
non_grace_in [] = 0
non_grace_in (n ∷ ns) = if is_non_grace n then suc (non_grace_in ns) else non_grace_in ns

abbrev pub with_tie_start : Notations → Notations
with_tie_start d = record { tie_start = true; tie_end = d.tie_end; beam = d.beam; actual = d.actual; normal = d.normal; marks = d.marks }

abbrev pub with_beam : ℕ → Notations → Notations
with_beam beam d = record { tie_start = d.tie_start; tie_end = d.tie_end; beam = beam; actual = d.actual; normal = d.normal; marks = d.marks }

abbrev pub with_tuplet : ℕ → Notations → Notations
with_tuplet actual d = record { tie_start = d.tie_start; tie_end = d.tie_end; beam = d.beam; actual = actual; normal = normal_of actual; marks = d.marks }

abbrev pub with_mark : Bool → Notations → Notations
with_mark m d = record { tie_start = d.tie_start; tie_end = d.tie_end; beam = d.beam; actual = d.actual; normal = d.normal; marks = m ∷ d.marks }

-- what a `)` makes of its group: nothing, a fermata, a tuplet of so many, or d11 with the number
pub data Closing : Type 0 where
  nothing fermata : Closing
  tuplet too_few : ℕ → Closing

-- actual is the count or 3; below 3, d11
abbrev pub tuplet_of : ℕ → Closing
tuplet_of actual = if ltb actual 3 then too_few actual else tuplet actual

-- no non-grace record: nothing. One and no count: fermata. Else a tuplet
abbrev pub closing : ℕ → Option ℕ → Closing
closing zero count = nothing
closing (suc zero) none = fermata
closing (suc zero) (some actual) = tuplet_of actual
closing (suc (suc timed)) count = tuplet_of (Option.get_or count 3)

abbrev pub closed : Closing → Notations → Notations
closed nothing d = d
closed fermata d = with_mark false d
closed (tuplet actual) d = with_tuplet actual d
closed (too_few actual) d = d

-- what the open `(` closes to
abbrev pub closing_of : Group → State → Closing
closing_of g s = closing (non_grace_in (notes_from g.start s)) g.count

-- `)`: the closing step gets only the open bar's notes from the group's start. `later` records stand after n
abbrev pub group_closed : Group → State → ℕ → Note → Notations
group_closed g s later n = if is_non_grace n && ltb later (count_from g.start s) then closed (closing_of g s) n.notations else n.notations

-- `}` beams the open bar's non-grace records from its start on, rests too, if two or more: the first 1, the last 3, those between 2
abbrev pub beam_closed : Start → State → ℕ → Note → Notations
beam_closed start s later n = let all = non_grace_in (notes_from start s) in let after = non_grace_in (take later s.open_bar) in
    if is_non_grace n && ltb later (count_from start s) && ltb 1 all then with_beam (if eqb after 0 then 3 else if eqb (suc after) all then 1 else 2) n.notations else n.notations

-- the notations of the open bar's record n, `later` records after it: `+` starts the tie of a last note, `t` marks the last record
abbrev pub marked : Marking → State → ℕ → Note → Notations
marked beam_open s later n = n.notations
marked beam_close s later n = given s.beam_start n.notations (λ start. beam_closed start s later n)
marked group_open s later n = n.notations
marked group_close s later n = given s.group n.notations (λ g. group_closed g s later n)
marked tie s later n = if eqb later 0 && ends_in_note s.open_bar then with_tie_start n.notations else n.notations
marked trill s later n = if eqb later 0 then with_mark true n.notations else n.notations
marked (group_count c) s later n = n.notations

abbrev pub notations_next : Token → State → ℕ → Note → Notations
notations_next t s later n = given (marking_in t) n.notations (λ m. marked m s later n)

-- the records with new notations; `later` records stand after the first
abbrev pub with_notations : (ℕ → Note → Notations) → ℕ → List Note → List Note
with_notations f later [] = []
with_notations f later (n ∷ ns) = record { heading = n.heading; pitches = n.pitches; notations = f later n } ∷ with_notations f (suc later) ns

-- `{` notes a start; `}` uses it up
abbrev pub beam_start_next : Marking → State → Option Start
beam_start_next beam_open s = some (start_here s)
beam_start_next beam_close s = none
beam_start_next group_open s = s.beam_start
beam_start_next group_close s = s.beam_start
beam_start_next tie s = s.beam_start
beam_start_next trill s = s.beam_start
beam_start_next (group_count c) s = s.beam_start

-- `;` sets the open group's count
abbrev pub counted : Option Group → Option ℕ → Option Group
counted none count = none
counted (some g) none = some g
counted (some g) (some n) = some (record { start = g.start; count = some n })

-- `(` notes a start, replacing any open one; `)` uses it up
abbrev pub group_next : Marking → State → Option Group
group_next beam_open s = s.group
group_next beam_close s = s.group
group_next group_open s = some (record { start = start_here s; count = none })
group_next group_close s = none
group_next tie s = s.group
group_next trill s = s.group
group_next (group_count c) s = counted s.group c

-- `+`, if the open bar's last record is a note or grace, starts its tie, which ends at the next opened note
abbrev pub tie_next : Marking → State → Bool
tie_next beam_open s = s.tie_pending
tie_next beam_close s = s.tie_pending
tie_next group_open s = s.tie_pending
tie_next group_close s = s.tie_pending
tie_next tie s = ends_in_note s.open_bar || s.tie_pending
tie_next trill s = s.tie_pending
tie_next (group_count c) s = s.tie_pending

-- ---- the step

-- the open bar after a token: what it stores, behind what was there
abbrev pub open_bar_next : ℕ → Token → State → List Note
open_bar_next place t s = if is_barline t then [] else stores place t s ++ with_notations (notations_next t s) 0 (joined place t s)

-- in the order of the published code: clef, key, meter, octave, duration, accidental, note, then the rest
unfoldable pub step : Item → State → State
step x s = let t = x.token in let place = x.place in record {
  clef = attribute_next t s (clef_given t) s.clef;
  fifths = attribute_next t s (fifths_given t) s.fifths;
  key_alters = key_next t s;
  meter = attribute_next t s (meter_given t) s.meter;
  left = left_next t s;
  octave = Option.get_or (octave_in t) s.octave;
  pattern = Option.get_or (duration_in t) s.pattern;
  values_taken = if is_some (duration_in t) then 0 else if steps t s then suc s.values_taken else s.values_taken;
  pending_accidental = if is_some (letter_in t) then none else accidental_in t or s.pending_accidental;
  accidentals = accidentals_next t s;
  chord_next = if is_some (letter_in t) then false else is_chord t || s.chord_next;
  pending_grace = if opens t s then none else grace_in t or s.pending_grace;
  grace_group = Option.get_or (grace_group_in t) s.grace_group;
  open_bar = open_bar_next place t s;
  bars = if is_barline t then close (right_in t) s else s.bars;
  figure_start = given (figure_in t) s.figure_start (λ f. figure_start_next f s);
  figure = given (figure_in t) s.figure (λ f. figure_next f s);
  beam_start = given (marking_in t) s.beam_start (λ m. beam_start_next m s);
  group = given (marking_in t) s.group (λ m. group_next m s);
  tie_pending = if opens t s || is_rest t then false else given (marking_in t) s.tie_pending (λ m. tie_next m s);
}

-- ---- whole-bar rests

-- how many whole-bar rests a token stores beyond the first
abbrev pub further_bars : Token → ℕ
further_bars t = Option.get_or (whole_bars_in t) 1 - 1

-- a normal barline stands between two of them, at the token's place
abbrev pub inner_barline : Item → Item
inner_barline x = record { place = x.place; offset = x.offset; size = x.size; token = barline 0 0 }

-- the token's step; then, for each further bar, the barline's and the token's
abbrev pub in_turn : Item → ℕ → State → State
in_turn x zero s = step x s
in_turn x (suc further) s = step x (step (inner_barline x) (in_turn x further s))

-- the state after tokens, the latest first
unfoldable pub state_after : Attributes → List Item → State
state_after k [] = fresh k
state_after k (x ∷ before) = in_turn x (further_bars x.token) (state_after k before)

-- every stored record
abbrev pub stored : State → List Note
stored s = s.open_bar ++ notes_of s.bars

-- the end closes a non-empty bar, 0 and 0
abbrev pub bars_at_end : State → List Bar
bars_at_end s = close 0 s
