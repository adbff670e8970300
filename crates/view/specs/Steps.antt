-- What each token makes of the view, or why it is refused (the rules' steps, refusals and diagnostics, over the cells). Assumes nothing.
use Rattle.std.specs.Prelude.{ℕ, zero, suc, ◌+◌, ◌-◌, ◌*◌, ◌==◌, Bool, true, false, not, ◌&&◌, ◌||◌, List, [], ◌∷◌, ℤ, pos, length, take, drop, slice_index_or, if◌then◌else◌, nat_lt, nat_le, Result, Ok, Err}
use Rattle.std.proofs.Math.Option as math
use Rattle.std.proofs.Math.Option.{none, some}
use Rattle.rules.specs.Limits.{note_limit, note_size, bar_size, pitch_capacity, mark_capacity}
use Rattle.rules.specs.Values.{Clef, Key, Meter, Length, treble, normal_of}
use Rattle.rules.specs.Tokens as rules
use Rattle.rules.specs.Records.{◌or◌, is_some, given, Pitch, Heading, parentheses, number, Diagnostic}
use Rattle.rules.specs.Rules.{Start, Group, Closing, nothing, fermata, tuplet, too_few, closing, counted, kind_of, is_grace, length_of, heading, whole_bar_rest}
use Rattle.rules.specs.Diagnostics.{diagnostic, unless, here, after_first, all_of_it, clef_diagnosed, key_diagnosed, meter_diagnosed}
use Rattle.rules.specs.Words.{note_words}
use Rattle.tokens.specs.Rhythm.{next_length, lengths_after}
use Rattle.stores.specs.Cells.{written, with_record, changed, on_part}
use Rattle.stores.specs.declared.note.TheConstants.{MARK_COUNT, PITCH_COUNT}
use Rattle.stores.specs.Notes.{opened, number_at, pitched, tie_started, marked}
use Rattle.stores.specs.Copies.{copies}
use Rattle.stores.specs.Groups.{timed_count, beamed, tupled, last_timed, fermata_in}
use Rattle.stores.specs.Bars.{BarNumbers, bar_numbers}
use Rattle.stores.specs.Diagnostics.{count_after_all, list_after_all}
use Rattle.view.specs.declared.refusal.Refusal.{Refusal}
use Rattle.view.specs.declared.refusal.Refusal.TheVariants.{TooManyNotes, NoNote, NoPitch, NoMark, NoFigure, NoBar}
use Rattle.view.specs.Accidentals.{Entries, no_entries, entry, entered}
use Rattle.view.specs.View.{View, has_note, open_length, last_number, ends_in_note, joins, start_here, in_its_bar, count_from, number_from, cells_from}

-- these are diagnosed, the latest first
abbrev pub diagnosed : List Diagnostic → View → View
diagnosed ds v = record v { diagnostics = list_after_all v.diagnostics v.diagnostic_count ds; diagnostic_count = count_after_all v.diagnostic_count ds }

-- one step, then another, unless that is refused
abbrev pub and_then : Result View Refusal → (View → Result View Refusal) → Result View Refusal
and_then (Ok v) f = f v
and_then (Err e) f = Err e

-- `added` notes more: 100,000 at most, and no more than have room
abbrev pub with_room : ℕ → View → View → Result View Refusal
with_room added v next =
    if nat_lt note_limit (v.note_count + added) then Err TooManyNotes
    else if nat_lt (length v.notes) (v.note_count * note_size + added * note_size) then Err NoNote
    else Ok next

-- ---- attributes

-- `%`, `$`, `@` are taken only while the open bar has no note; else d3
abbrev pub if_taken : rules.Item → List Diagnostic → View → View → View
if_taken x ds v next = if has_note v then diagnosed (diagnostic 3 (here x) (after_first x) ∷ []) v else diagnosed ds next

abbrev pub after_clef : rules.Item → Clef → View → View
after_clef x c v = if_taken x (clef_diagnosed (here x) (after_first x) c) v (record v { clef = c.clef or v.clef })

abbrev pub after_key : rules.Item → Key → View → View
after_key x k v = if_taken x (key_diagnosed (here x) (after_first x) k) v (record v { fifths = some k.fifths; key_alters = k.alters })

abbrev pub after_meter : rules.Item → math.Option Meter → View → View
after_meter x m v = if_taken x (meter_diagnosed (here x) (after_first x) m) v (record v { meter = m or v.meter })

-- ---- what waits, the octave, the pattern

-- an octave outside 0 to 9, d8
abbrev pub after_octave : rules.Item → math.Option ℕ → View → View
after_octave x o v = diagnosed (unless (is_some o) (diagnostic 8 (here x) (all_of_it x))) (record v { octave = math.get_or o v.octave })

abbrev pub after_duration : List Length → View → View
after_duration p v = record v { pattern = p; lengths_left = p }

abbrev pub after_accidental : ℤ → View → View
after_accidental alter v = record v { pending_accidental = some alter }

abbrev pub after_chord : View → View
after_chord v = record v { chord_next = true }

abbrev pub after_grace : Bool → View → View
after_grace slashed v = record v { pending_grace = some slashed }

-- `r` outside a `qq` group, d15
abbrev pub after_grace_group : rules.Item → Bool → View → View
after_grace_group x begins v = diagnosed (unless (begins || v.grace_group) (diagnostic 15 (here x) (all_of_it x))) (record v { grace_group = begins })

-- ---- letters and rests

-- the accidental that waits, else the entry at its step and octave, else its step's key alteration
abbrev pub alter_of : ℕ → View → ℤ
alter_of step v = math.get_or (v.pending_accidental or entry v.accidentals step v.octave) (slice_index_or v.key_alters step (pos 0))

abbrev pub pitch_of : ℕ → ℕ → View → Pitch
pitch_of place step v = record { place = place; step = step; octave = v.octave; alter = alter_of step v }

-- a letter enters the accidental that waits
abbrev pub lettered : ℕ → View → Entries
lettered step v = given v.pending_accidental v.accidentals (λ alter. entered v.accidentals step v.octave alter)

-- one more pitch in the last note
abbrev pub after_joined : ℕ → ℕ → View → Result View Refusal
after_joined place step v = if nat_le pitch_capacity (last_number PITCH_COUNT v) then Err NoPitch else Ok (record v {
  notes = changed note_size (pitched (pitch_of place step v)) v.notes (v.note_count - 1);
  accidentals = lettered step v;
  pending_accidental = none;
  chord_next = false;
})

abbrev pub opened_heading : ℕ → View → Heading
opened_heading place v = heading place (kind_of v.pending_grace v.grace_group) (length_of v.pending_grace (next_length v.lengths_left))

-- a note of its own; a grace takes a length without stepping
abbrev pub after_opened : ℕ → ℕ → View → Result View Refusal
after_opened place step v = with_room 1 v (record v {
  notes = with_record note_size v.notes v.note_count (note_words (opened (v.bar_count + 1) (opened_heading place v) v.tie_pending (pitch_of place step v ∷ [])));
  note_count = v.note_count + 1;
  lengths_left = if is_grace v.pending_grace v.grace_group then v.lengths_left else lengths_after v.pattern v.lengths_left;
  accidentals = lettered step v;
  pending_accidental = none;
  chord_next = false;
  pending_grace = none;
  tie_pending = false;
})

abbrev pub after_letter : ℕ → ℕ → View → Result View Refusal
after_letter place step v = if joins v then after_joined place step v else after_opened place step v

abbrev pub after_rest : ℕ → View → Result View Refusal
after_rest place v = with_room 1 v (record v {
  notes = with_record note_size v.notes v.note_count (note_words (opened (v.bar_count + 1) (heading place 1 (next_length v.lengths_left)) false []));
  note_count = v.note_count + 1;
  lengths_left = lengths_after v.pattern v.lengths_left;
  tie_pending = false;
})

-- ---- bars

-- the first stored bar, if it has no clef, gets treble; if no key, a set key of fifths 0
abbrev pub finished : ℕ → View → BarNumbers
finished right v = record {
  first = v.first;
  count = open_length v;
  clef = if v.bar_count == 0 then v.clef or some treble else v.clef;
  fifths = if v.bar_count == 0 then v.fifths or some (pos 0) else v.fifths;
  meter = v.meter;
  left = v.left;
  right = right;
}

-- the open bar is stored, unless it is empty
abbrev pub stored_bar : ℕ → View → Result View Refusal
stored_bar right v =
    if not (has_note v) then Ok v
    else if nat_lt (length v.bars) (v.bar_count * bar_size + bar_size) then Err NoBar
    else Ok (record v { bars = with_record bar_size v.bars v.bar_count (bar_numbers (finished right v)); bar_count = v.bar_count + 1 })

-- a bar begins: behind one that was stored it has no attribute but the barline's left; a left of 2 is noted on an empty one
abbrev pub begun_bar : Bool → ℕ → View → View
begun_bar content left v =
    if content then record v { clef = none; fifths = none; meter = none; left = left; accidentals = no_entries; first = v.note_count; last = v.first }
    else record v { left = if left == 2 then 2 else v.left; accidentals = no_entries }

abbrev pub after_barline : ℕ → ℕ → View → Result View Refusal
after_barline right left v = and_then (stored_bar right v) (λ w. Ok (begun_bar (has_note v) left w))

-- ---- whole-bar rests

abbrev pub after_whole_bar : ℕ → View → Result View Refusal
after_whole_bar place v = with_room 1 v (record v {
  notes = with_record note_size v.notes v.note_count (note_words (opened (v.bar_count + 1) (whole_bar_rest place).heading false []));
  note_count = v.note_count + 1;
})

-- further ones, each behind a normal barline
abbrev pub after_whole_bars : ℕ → ℕ → View → Result View Refusal
after_whole_bars place zero v = after_whole_bar place v
after_whole_bars place (suc further) v = and_then (after_whole_bars place further v) (λ w. and_then (after_barline 0 0 w) (after_whole_bar place))

-- a bad count, d20
abbrev pub after_count : rules.Item → math.Option ℕ → View → Result View Refusal
after_count x none v = Ok (diagnosed (diagnostic 20 (here x) (after_first x) ∷ []) v)
after_count x (some count) v = after_whole_bars x.place (count - 1) v

-- ---- figures

-- the second `!` copies the notes from the first on into the figure; in a later bar it doesn't, d17
abbrev pub after_second_mark : rules.Item → Start → View → Result View Refusal
after_second_mark x start v =
    let n = count_from start v in
    if not (in_its_bar start v) then Ok (diagnosed (diagnostic 17 (here x) (all_of_it x) ∷ []) (record v { figure_start = none }))
    else if nat_lt (length v.figure) (n * note_size) then Err NoFigure
    else Ok (record v { figure_start = none; figure = written v.figure 0 (take (n * note_size) (cells_from start v)); figure_count = n })

-- the first `!` notes a start
abbrev pub after_mark : rules.Item → View → Result View Refusal
after_mark x v = given v.figure_start (Ok (record v { figure_start = some (start_here v) })) (λ start. after_second_mark x start v)

-- `f` copies the figure; an empty one, d18
abbrev pub after_repeat : rules.Item → View → Result View Refusal
after_repeat x v = let n = v.figure_count in with_room n v (diagnosed (unless (not (n == 0)) (diagnostic 18 (here x) (all_of_it x))) (record v {
  notes = written v.notes (v.note_count * note_size) (copies x.place (v.bar_count + 1) v.figure n);
  note_count = v.note_count + n;
}))

-- `i` copies the last stored bar's notes, in an empty bar after a stored one; else d19
abbrev pub repeats_bar : View → Bool
repeats_bar v = not (has_note v) && not (v.bar_count == 0)

abbrev pub repeated_count : View → ℕ
repeated_count v = if repeats_bar v then v.first - v.last else 0

abbrev pub after_bar : rules.Item → View → Result View Refusal
after_bar x v = let n = repeated_count v in with_room n v (diagnosed (unless (repeats_bar v) (diagnostic 19 (here x) (all_of_it x))) (record v {
  notes = written v.notes (v.note_count * note_size) (copies x.place (v.bar_count + 1) (drop (v.last * note_size) v.notes) n);
  note_count = v.note_count + n;
}))

abbrev pub after_figure : rules.Item → rules.Figure → View → Result View Refusal
after_figure x rules.figure_mark v = after_mark x v
after_figure x rules.figure_repeat v = after_repeat x v
after_figure x rules.bar_repeat v = after_bar x v

-- ---- groups and marks

-- `{` notes a start
abbrev pub after_beam_open : View → View
after_beam_open v = record v { beam_start = some (start_here v) }

-- `}` beams the open bar's notes from there on
abbrev pub beamed_from : Start → View → List ℤ
beamed_from start v = if in_its_bar start v then on_part note_size (number_from start v) (λ part. beamed part (count_from start v)) v.notes else v.notes

abbrev pub after_beam_close : View → View
after_beam_close v = record v { beam_start = none; notes = given v.beam_start v.notes (λ start. beamed_from start v) }

-- `(` notes a start
abbrev pub after_group_open : View → View
after_group_open v = record v { group = some (record { start = start_here v; count = none }) }

-- `;` sets the open group's count; without `(` or with other digits or none, d12
abbrev pub after_group_count : rules.Item → math.Option ℕ → View → View
after_group_count x count v = diagnosed (unless (is_some v.group && is_some count) (diagnostic 12 (here x) (after_first x))) (record v { group = counted v.group count })

-- what the group closes to
abbrev pub closing_of : Group → View → Closing
closing_of g v = closing (timed_count (cells_from g.start v) (count_from g.start v)) g.count

-- its notes changed
abbrev pub group_changed : Group → (List ℤ → ℕ → List ℤ) → View → View
group_changed g f v = record v { group = none; notes = on_part note_size (number_from g.start v) (λ part. f part (count_from g.start v)) v.notes }

-- a fermata marks its last non-grace note, a tuplet all of those; too few for one, d11 with the number
abbrev pub after_closing : rules.Item → Group → Closing → View → Result View Refusal
after_closing x g nothing v = Ok (record v { group = none })
after_closing x g fermata v =
    if nat_le mark_capacity (number_at MARK_COUNT (last_timed (cells_from g.start v) (count_from g.start v))) then Err NoMark
    else Ok (group_changed g fermata_in v)
after_closing x g (tuplet actual) v = Ok (group_changed g (tupled actual (normal_of actual)) v)
after_closing x g (too_few actual) v = Ok (diagnosed (diagnostic 11 (here x) (number actual) ∷ []) (record v { group = none }))

-- `)`: closed in a later bar, d10; without `(`, d13
abbrev pub after_group_close : rules.Item → View → Result View Refusal
after_group_close x v = given v.group (Ok (diagnosed (diagnostic 13 (here x) (all_of_it x) ∷ []) v)) (λ g.
    if in_its_bar g.start v then after_closing x g (closing_of g v) v
    else Ok (diagnosed (diagnostic 10 (here x) parentheses ∷ []) (record v { group = none })))

-- `+` starts the tie of a last note, which ends at the next opened note; after no note or grace, d16
abbrev pub after_tie : rules.Item → View → View
after_tie x v =
    if ends_in_note v then record v { tie_pending = true; notes = changed note_size tie_started v.notes (v.note_count - 1) }
    else diagnosed (diagnostic 16 (here x) (all_of_it x) ∷ []) v

-- `t` marks the last note; in a bar without a note, d14
abbrev pub after_trill : rules.Item → View → Result View Refusal
after_trill x v =
    if not (has_note v) then Ok (diagnosed (diagnostic 14 (here x) (all_of_it x) ∷ []) v)
    else if nat_le mark_capacity (last_number MARK_COUNT v) then Err NoMark
    else Ok (record v { notes = changed note_size (marked true) v.notes (v.note_count - 1) })

abbrev pub after_marking : rules.Item → rules.Marking → View → Result View Refusal
after_marking x rules.beam_open v = Ok (after_beam_open v)
after_marking x rules.beam_close v = Ok (after_beam_close v)
after_marking x rules.group_open v = Ok (after_group_open v)
after_marking x rules.group_close v = after_group_close x v
after_marking x rules.tie v = Ok (after_tie x v)
after_marking x rules.trill v = after_trill x v
after_marking x (rules.group_count count) v = Ok (after_group_count x count v)

-- ---- any token

-- blanks do nothing; a lone `:` is d9; a token without a rule is d15
abbrev pub after_other : rules.Item → rules.Other → View → Result View Refusal
after_other x rules.blank v = Ok v
after_other x rules.colon v = Ok (diagnosed (diagnostic 9 (here x) (all_of_it x) ∷ []) v)
after_other x rules.unknown v = Ok (diagnosed (diagnostic 15 (here x) (all_of_it x) ∷ []) v)
after_other x (rules.whole_bars count) v = after_count x count v

-- the token t, which stands where x does
abbrev pub after_token : rules.Item → rules.Token → View → Result View Refusal
after_token x (rules.clef c) v = Ok (after_clef x c v)
after_token x (rules.key k) v = Ok (after_key x k v)
after_token x (rules.meter m) v = Ok (after_meter x m v)
after_token x (rules.octave o) v = Ok (after_octave x o v)
after_token x (rules.duration p) v = Ok (after_duration p v)
after_token x (rules.accidental alter) v = Ok (after_accidental alter v)
after_token x (rules.letter step) v = after_letter x.place step v
after_token x rules.chord v = Ok (after_chord v)
after_token x rules.rest v = after_rest x.place v
after_token x (rules.barline right left) v = after_barline right left v
after_token x (rules.grace slashed) v = Ok (after_grace slashed v)
after_token x (rules.grace_group begins) v = Ok (after_grace_group x begins v)
after_token x (rules.figure f) v = after_figure x f v
after_token x (rules.marking m) v = after_marking x m v
after_token x (rules.other o) v = after_other x o v
