-- Views that differ in other fields hold the same. Assumes nothing.
use Rattle.std.proofs.Common.{◌≡◌, ℕ, ◌*◌, ◌/◌, ◌<◌, ◌≤◌, Bool, List, ℤ, length, refl, sym, ap, subst, subst₂, ◌∙◌}
use Rattle.std.proofs.Math.Option as math
use Rattle.rules.specs.Limits.{note_limit, note_size, bar_size}
use Rattle.rules.specs.Values.{Meter}
use Rattle.rules.specs.Tokens.{Token, Item}
use Rattle.rules.specs.Records.{Note, Bar, Diagnostic}
use Rattle.rules.specs.Rules.{Start, Group, State}
use Rattle.rules.specs.Refusals.{LentRecords}
use Rattle.rules.specs.Words.{cells, padded, note_words, bar_cells}
use Rattle.view.specs.Accidentals.{Entries, row, entry}
use Rattle.view.specs.View.{View}
use Rattle.view.specs.Holds.{SameValues, Entered, IsEntry, InTurn, taken, records_in, Stored, Barred, Figured, LentFor, Holds}
use Rattle.view.specs.Steps.{diagnosed}

-- the token t at a place, an offset, of a size
abbrev pub item : ℕ → ℕ → ℕ → Token → Item
item p o z t = record { place = p; offset = o; size = z; token = t }

-- ---- values

-- the open bar's attributes
pub record Attributes : Type 0 where
  pub clef : math.Option ℕ
  pub fifths : math.Option ℤ
  pub key_alters : List ℤ
  pub meter : math.Option Meter
  pub left : ℕ

-- the octave, what waits, the starts
pub record Voice : Type 0 where
  pub octave : ℕ
  pub pending_accidental : math.Option ℤ
  pub chord_next : Bool
  pub pending_grace : math.Option Bool
  pub grace_group : Bool
  pub tie_pending : Bool
  pub figure_start : math.Option Start
  pub beam_start : math.Option Start
  pub group : math.Option Group

abbrev pub attributes_of : State → Attributes
attributes_of s = record { clef = s.clef; fifths = s.fifths; key_alters = s.key_alters; meter = s.meter; left = s.left }

abbrev pub attributes_in : View → Attributes
attributes_in v = record { clef = v.clef; fifths = v.fifths; key_alters = v.key_alters; meter = v.meter; left = v.left }

abbrev pub voice_of : State → Voice
voice_of s = record { octave = s.octave; pending_accidental = s.pending_accidental; chord_next = s.chord_next; pending_grace = s.pending_grace; grace_group = s.grace_group; tie_pending = s.tie_pending; figure_start = s.figure_start; beam_start = s.beam_start; group = s.group }

abbrev pub voice_in : View → Voice
voice_in v = record { octave = v.octave; pending_accidental = v.pending_accidental; chord_next = v.chord_next; pending_grace = v.pending_grace; grace_group = v.grace_group; tie_pending = v.tie_pending; figure_start = v.figure_start; beam_start = v.beam_start; group = v.group }

pub attributes : {s : State} {v : View} → SameValues s v → attributes_of s ≡ attributes_in v
attributes h = λ i. record { clef = h.clef i; fifths = h.fifths i; key_alters = h.key_alters i; meter = h.meter i; left = h.left i }

pub voice : {s : State} {v : View} → SameValues s v → voice_of s ≡ voice_in v
voice h = λ i. record { octave = h.octave i; pending_accidental = h.pending_accidental i; chord_next = h.chord_next i; pending_grace = h.pending_grace i; grace_group = h.grace_group i; tie_pending = h.tie_pending i; figure_start = h.figure_start i; beam_start = h.beam_start i; group = h.group i }

pub both_parts : {s : State} {v : View} → attributes_of s ≡ attributes_in v → voice_of s ≡ voice_in v → SameValues s v
both_parts a e = record {
  clef = λ i. (a i).clef;
  fifths = λ i. (a i).fifths;
  key_alters = λ i. (a i).key_alters;
  meter = λ i. (a i).meter;
  left = λ i. (a i).left;
  octave = λ i. (e i).octave;
  pending_accidental = λ i. (e i).pending_accidental;
  chord_next = λ i. (e i).chord_next;
  pending_grace = λ i. (e i).pending_grace;
  grace_group = λ i. (e i).grace_group;
  tie_pending = λ i. (e i).tie_pending;
  figure_start = λ i. (e i).figure_start;
  beam_start = λ i. (e i).beam_start;
  group = λ i. (e i).group;
}

same_values : {s s' : State} {v w : View} → attributes_of s' ≡ attributes_of s → voice_of s' ≡ voice_of s → attributes_in v ≡ attributes_in w → voice_in v ≡ voice_in w → SameValues s v → SameValues s' w
same_values a b c d h = both_parts (a ∙ attributes h ∙ c) (b ∙ voice h ∙ d)

-- ---- the accidentals, the lengths in turn

pub same_entered : {s s' : State} {v w : View} → s'.accidentals ≡ s.accidentals → v.accidentals ≡ w.accidentals → w.octave < 10 → IsEntry w.pending_accidental → Entered s v → Entered s' w
same_entered a b low waits h = record {
  rows = ap length (sym b) ∙ h.rows;
  columns = λ step p. ap (λ (t : Entries). length (row t step)) (sym b) ∙ h.columns step p;
  entries = λ step octave p q. (λ i. a i step octave) ∙ h.entries step octave p q ∙ ap (λ (t : Entries). entry t step octave) b;
  low = low;
  waits = waits;
}

pub same_turn : {s s' : State} {v w : View} → s'.pattern ≡ s.pattern → s'.values_taken ≡ s.values_taken → v.pattern ≡ w.pattern → w.lengths_left ≡ v.lengths_left → InTurn s v → InTurn s' w
same_turn a b c d h = record { pattern = a ∙ h.pattern ∙ c; left = d ∙ h.left ∙ (λ i. taken (sym b i) (c i) (c i)) }

-- ---- records

abbrev pub stored_in : View → ℕ × ℕ × ℕ × ℕ × List ℤ
stored_in v = (v.note_count, v.first, v.last, v.bar_count, v.notes)

pub same_stored : {o o' : List Note} {bs bs' : List Bar} {v w : View} → o' ≡ o → bs' ≡ bs → stored_in w ≡ stored_in v → Stored o bs v → Stored o' bs' w
same_stored {o} {o'} {bs} {bs'} {v} {w} a b e h = subst₂ (λ (o : List Note) (bs : List Bar). Stored o bs w) (sym a) (sym b) (record {
  count = (λ i. (e i).0) ∙ h.count;
  first = (λ i. (e i).1) ∙ h.first;
  last = (λ i. (e i).2) ∙ h.last;
  bars = (λ i. (e i).3) ∙ h.bars;
  written = subst (λ (l : List ℤ). l ≡ padded (length l) (cells note_words (records_in o bs))) (λ i. (sym e i).4) h.written;
  fits = subst₂ (λ (n : ℕ) (l : List ℤ). n * note_size ≤ length l) (λ i. (sym e i).0) (λ i. (sym e i).4) h.fits;
  capped = subst (λ (n : ℕ). n ≤ note_limit) (λ i. (sym e i).0) h.capped;
})

pub same_barred : {bs bs' : List Bar} {v w : View} → bs' ≡ bs → w.bars ≡ v.bars → Barred bs v → Barred bs' w
same_barred {bs} {bs'} {v} {w} b e h = subst (λ (bs : List Bar). Barred bs w) (sym b) (record {
  written = subst (λ (l : List ℤ). l ≡ padded (length l) (bar_cells bs)) (sym e) h.written;
  fits = subst (λ (l : List ℤ). length bs * bar_size ≤ length l) (sym e) h.fits;
  few = h.few;
})

pub same_figured : {f f' : List Note} {v w : View} → f' ≡ f → w.figure_count ≡ v.figure_count → w.figure ≡ v.figure → Figured f v → Figured f' w
same_figured a c e h = record { records = h.records; rest = h.rest; notes = a ∙ h.notes; counted = c ∙ h.counted; written = e ∙ h.written }

pub same_lends : {lent : LentRecords} {v w : View} → length v.notes ≡ length w.notes → length v.bars ≡ length w.bars → length v.figure ≡ length w.figure → LentFor lent v → LentFor lent w
same_lends a b c h = record {
  notes = h.notes ∙ ap (λ (n : ℕ). n / note_size) a;
  bars = h.bars ∙ ap (λ (n : ℕ). n / bar_size) b;
  figure = h.figure ∙ ap (λ (n : ℕ). n / note_size) c;
}

-- ---- the whole

pub same_holds : {lent : LentRecords} {s s' : State} {v w : View} → s'.open_bar ≡ s.open_bar → s'.bars ≡ s.bars → s'.figure ≡ s.figure → stored_in w ≡ stored_in v → w.bars ≡ v.bars → w.figure_count ≡ v.figure_count → w.figure ≡ v.figure
    → Holds lent s v → SameValues s' w → Entered s' w → InTurn s' w → Holds lent s' w
same_holds a b c d e f g h values entered turn = record {
  values = values;
  entered = entered;
  in_turn = turn;
  stored = same_stored a b d h.stored;
  barred = same_barred b e h.barred;
  figured = same_figured c f g h.figured;
  lends = same_lends (λ i. length ((sym d i).4)) (ap length (sym e)) (ap length (sym g)) h.lends;
}

-- diagnostics are no part of what is held
pub holds_diagnosed : {lent : LentRecords} {s : State} {v : View} (ds : List Diagnostic) → Holds lent s v → Holds lent s (diagnosed ds v)
holds_diagnosed ds h = same_holds refl refl refl refl refl refl refl h (same_values refl refl refl refl h.values) (same_entered refl refl h.entered.low h.entered.waits h.entered) (same_turn refl refl refl refl h.in_turn)
