-- The tokens that change no record do what the rules say. Assumes nothing.
use Rattle.std.proofs.Common.{◌≡◌, ℕ, ◌<◌, Bool, true, false, cond, not, List, [], ◌∷◌, ℤ, Ok, refl, sym, subst, ◌∙◌}
use Rattle.std.proofs.Math.Option as math
use Rattle.std.proofs.Math.Option.{none, some}
use Rattle.rules.specs.Values.{Clef, Key, Meter, Length}
use Rattle.rules.specs.Tokens.{Token, Item, clef, key, meter, octave, duration, accidental, chord, grace, grace_group, marking, other, blank, colon, unknown, beam_open, group_open, group_count}
use Rattle.rules.specs.Records.{is_empty, Diagnostic}
use Rattle.rules.specs.Rules as rules
use Rattle.rules.specs.Rules.{State, with_notations, step, further_bars, in_turn}
use Rattle.rules.specs.Diagnostics as diagnostics
use Rattle.rules.specs.Diagnostics.{diagnostic, here, after_first, token_diagnosed}
use Rattle.rules.specs.Refusals.{LentRecords, refusal_in_turn}
use Rattle.stores.specs.Diagnostics.{count_after_all, list_after_all}
use Rattle.view.specs.Accidentals.{Entries, is_none}
use Rattle.view.specs.View.{View, has_note, start_here}
use Rattle.view.specs.Steps.{diagnosed, if_taken, after_clef, after_key, after_meter, after_octave, after_duration, after_accidental, after_chord, after_grace, after_grace_group, after_beam_open, after_group_open, after_group_count, after_other}
use Rattle.view.specs.Holds.{SameValues, IsEntry, Entered, InTurn, Holds, Taken, Follows}
use Rattle.view.specs.Readable.{IsOctave}
use Rattle.view.proofs.Same.{item, stored_in, same_entered, same_turn, same_holds, holds_diagnosed}
use Rattle.view.proofs.Facts.{length-open, open-empty}
use Rattle.view.proofs.NotesLaws.{unmarked}
use Rattle.view.proofs.Turns.{turn_begun}
use Rattle.view.proofs.Values as values

-- the cells of notes, bars and figure, with their counts
abbrev cells_in : View → (ℕ × ℕ × ℕ × ℕ × List ℤ) × List ℤ × ℕ × List ℤ
cells_in v = (stored_in v, v.bars, v.figure_count, v.figure)

-- the octave, the accidentals and the lengths
abbrev tables_in : View → ℕ × math.Option ℤ × Entries × List Length × List Length
tables_in v = (v.octave, v.pending_accidental, v.accidentals, v.pattern, v.lengths_left)

module _ (lent : LentRecords) (p o z : ℕ) {s : State} {v : View} (h : Holds lent s v) where
  -- the notes, bars and figure are as before, and so are the cells
  quiet : {s' : State} {w : View} → s'.open_bar ≡ with_notations (λ later n. n.notations) 0 s.open_bar → s'.bars ≡ s.bars → s'.figure ≡ s.figure
      → cells_in w ≡ cells_in v → SameValues s' w → Entered s' w → InTurn s' w → Holds lent s' w
  quiet a b c e = same_holds (a ∙ unmarked s.open_bar) b c (λ i. (e i).0) (λ i. (e i).1) (λ i. (e i).2) (λ i. (e i).3) h

  -- the accidentals and the lengths too
  idle : {s' : State} {w : View} → s'.open_bar ≡ with_notations (λ later n. n.notations) 0 s.open_bar → s'.bars ≡ s.bars → s'.figure ≡ s.figure
      → s'.accidentals ≡ s.accidentals → s'.pattern ≡ s.pattern → s'.values_taken ≡ s.values_taken
      → cells_in w ≡ cells_in v → tables_in v ≡ tables_in w → SameValues s' w → Holds lent s' w
  idle {s'} {w} a b c d e f g t same =
      let pending : IsEntry w.pending_accidental = subst IsEntry (λ i. (t i).1) h.entered.waits in
      let low : w.octave < 10 = subst (λ (n : ℕ). n < 10) (λ i. (t i).0) h.entered.low in
      quiet a b c g same (same_entered d (λ i. (t i).2) low pending h.entered) (same_turn e f (λ i. (t i).3) (λ i. (sym t i).4) h.in_turn)

  -- ---- attributes

  no_note : is_empty s.open_bar ≡ not (has_note v)
  no_note = open-empty s.open_bar h.stored

  -- taken in a bar without a note, else d3
  attribute : (t : Token) (ds : List Diagnostic) (next : View) → refusal_in_turn lent (item p o z t) (further_bars t) s ≡ none → token_diagnosed (item p o z t) s t ≡ diagnostics.if_taken (item p o z t) s ds
      → next.diagnostics ≡ v.diagnostics → next.diagnostic_count ≡ v.diagnostic_count → (is_empty s.open_bar ≡ false → Holds lent (in_turn (item p o z t) (further_bars t) s) v)
      → (is_empty s.open_bar ≡ true → Holds lent (in_turn (item p o z t) (further_bars t) s) next) → Follows lent (item p o z t) s v (Ok (if_taken (item p o z t) ds v next))
  attribute t ds next fine d e f kept taken = go (has_note v) no_note
    where
      x : Item
      x = item p o z t

      go : (b : Bool) → is_empty s.open_bar ≡ not b → Taken lent x s v (cond b (diagnosed (diagnostic 3 (here x) (after_first x) ∷ []) v) (diagnosed ds next))
      go true g = record { fine = fine; holds = holds_diagnosed (diagnostic 3 (here x) (after_first x) ∷ []) (kept g); list = rw (d, g) refl; count = rw (d, g) refl }
      go false g = record { fine = fine; holds = holds_diagnosed ds (taken g); list = rw (d, g) (λ i. list_after_all (e i) (f i) ds); count = rw (d, g) (λ i. count_after_all (f i) ds) }

  pub follows_clef : (c : Clef) → Follows lent (item p o z (clef c)) s v (Ok (after_clef (item p o z (clef c)) c v))
  unfolding step
  follows_clef c = attribute (clef c) _ _ refl refl refl refl (λ g. idle refl refl refl refl refl refl refl refl (values.clef_kept p o z h.values c g refl refl)) (λ g. idle refl refl refl refl refl refl refl refl (values.clef_taken p o z h.values c g refl refl))

  pub follows_key : (k : Key) → Follows lent (item p o z (key k)) s v (Ok (after_key (item p o z (key k)) k v))
  unfolding step
  follows_key k = attribute (key k) _ _ refl refl refl refl (λ g. idle refl refl refl refl refl refl refl refl (values.key_kept p o z h.values k g refl refl)) (λ g. idle refl refl refl refl refl refl refl refl (values.key_taken p o z h.values k g refl refl))

  pub follows_meter : (m : math.Option Meter) → Follows lent (item p o z (meter m)) s v (Ok (after_meter (item p o z (meter m)) m v))
  unfolding step
  follows_meter m = attribute (meter m) _ _ refl refl refl refl (λ g. idle refl refl refl refl refl refl refl refl (values.meter_kept p o z h.values m g refl refl)) (λ g. idle refl refl refl refl refl refl refl refl (values.meter_taken p o z h.values m g refl refl))

  -- ---- what waits, the octave, the pattern

  -- an octave is one of ten
  pub follows_octave : (q : math.Option ℕ) → IsOctave q → Follows lent (item p o z (octave q)) s v (Ok (after_octave (item p o z (octave q)) q v))
  unfolding step
  follows_octave q low = record {
    fine = refl;
    holds = quiet refl refl refl refl (values.octave_set p o z h.values refl q refl) (same_entered refl refl (by q low) h.entered.waits h.entered) (same_turn refl refl refl refl h.in_turn);
    list = refl;
    count = refl;
  }
    where
      by : (q : math.Option ℕ) → IsOctave q → math.get_or q v.octave < 10
      by none low = h.entered.low
      by (some n) low = low

  pub follows_duration : (q : List Length) → Follows lent (item p o z (duration q)) s v (Ok (after_duration q v))
  unfolding step
  follows_duration q = record {
    fine = refl;
    holds = quiet refl refl refl refl (values.duration_set p o z h.values refl q refl) (same_entered refl refl h.entered.low h.entered.waits h.entered) (turn_begun p o z s q refl refl);
    list = refl;
    count = refl;
  }

  -- no accidental is the number that means none
  pub follows_accidental : (alter : ℤ) → is_none alter ≡ false → Follows lent (item p o z (accidental alter)) s v (Ok (after_accidental alter v))
  unfolding step
  follows_accidental alter n = record {
    fine = refl;
    holds = quiet refl refl refl refl (values.accidental_set p o z h.values refl alter refl) (same_entered refl refl h.entered.low n h.entered) (same_turn refl refl refl refl h.in_turn);
    list = refl;
    count = refl;
  }

  pub follows_chord : Follows lent (item p o z chord) s v (Ok (after_chord v))
  unfolding step
  follows_chord = record { fine = refl; holds = idle refl refl refl refl refl refl refl refl (values.chord_set p o z h.values refl refl); list = refl; count = refl }

  pub follows_grace : (slashed : Bool) → Follows lent (item p o z (grace slashed)) s v (Ok (after_grace slashed v))
  unfolding step
  follows_grace slashed = record { fine = refl; holds = idle refl refl refl refl refl refl refl refl (values.grace_set p o z h.values refl slashed refl); list = refl; count = refl }

  pub follows_grace_group : (begins : Bool) → Follows lent (item p o z (grace_group begins)) s v (Ok (after_grace_group (item p o z (grace_group begins)) begins v))
  unfolding step
  follows_grace_group begins = record {
    fine = refl;
    holds = idle refl refl refl refl refl refl refl refl (values.grace_group_set p o z h.values refl begins refl);
    list = rw (h.values.grace_group) refl;
    count = rw (h.values.grace_group) refl;
  }

  -- ---- starts

  start_agrees : rules.start_here s ≡ start_here v
  start_agrees = λ i. record { bar = sym h.stored.bars i; from = sym (length-open h.stored) i }

  pub follows_beam_open : Follows lent (item p o z (marking beam_open)) s v (Ok (after_beam_open v))
  unfolding step
  follows_beam_open = record { fine = refl; holds = idle refl refl refl refl refl refl refl refl (values.beam_open_set p o z h.values refl start_agrees refl); list = refl; count = refl }

  pub follows_group_open : Follows lent (item p o z (marking group_open)) s v (Ok (after_group_open v))
  unfolding step
  follows_group_open = record { fine = refl; holds = idle refl refl refl refl refl refl refl refl (values.group_open_set p o z h.values refl start_agrees refl); list = refl; count = refl }

  pub follows_group_count : (count : math.Option ℕ) → Follows lent (item p o z (marking (group_count count))) s v (Ok (after_group_count (item p o z (marking (group_count count))) count v))
  unfolding step
  follows_group_count count = record {
    fine = refl;
    holds = idle refl refl refl refl refl refl refl refl (values.group_count_set p o z h.values refl count refl);
    list = rw (h.values.group) refl;
    count = rw (h.values.group) refl;
  }

  -- ---- tokens that do nothing

  pub follows_blank : Follows lent (item p o z (other blank)) s v (Ok v)
  unfolding step
  follows_blank = record { fine = refl; holds = idle refl refl refl refl refl refl refl refl (values.other_same p o z h.values refl blank refl); list = refl; count = refl }

  pub follows_colon : Follows lent (item p o z (other colon)) s v (after_other (item p o z (other colon)) colon v)
  unfolding step
  follows_colon = record { fine = refl; holds = idle refl refl refl refl refl refl refl refl (values.other_same p o z h.values refl colon refl); list = refl; count = refl }

  pub follows_unknown : Follows lent (item p o z (other unknown)) s v (after_other (item p o z (other unknown)) unknown v)
  unfolding step
  follows_unknown = record { fine = refl; holds = idle refl refl refl refl refl refl refl refl (values.other_same p o z h.values refl unknown refl); list = refl; count = refl }
