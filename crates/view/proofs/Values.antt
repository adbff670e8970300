-- The values that a token leaves are those that the rules' step leaves. Assumes nothing.
use Rattle.std.proofs.Common.{◌≡◌, ℕ, Bool, true, false, cond, ◌||◌, eqb, List, ℤ, refl, sym, ◌∙◌}
use Rattle.std.proofs.Math.Option as math
use Rattle.std.proofs.Math.Option.{none, some}
use Rattle.rules.specs.Values.{Clef, Key, Meter, Length}
use Rattle.rules.specs.Tokens.{clef, key, meter, octave, duration, accidental, letter, chord, rest, barline, grace, grace_group, figure, marking, other, Other, figure_mark, figure_repeat, bar_repeat, beam_open, beam_close, group_open, group_close, group_count, tie, trill}
use Rattle.rules.specs.Records.{◌or◌, given, is_empty}
use Rattle.rules.specs.Rules as rules
use Rattle.rules.specs.Rules.{State, counted, step}
use Rattle.view.specs.View.{View, start_here}
use Rattle.view.specs.Holds.{SameValues}
use Rattle.view.proofs.Same.{item, attributes_of, attributes_in, voice_of, voice_in, attributes, voice, both_parts}

-- x, whether the open bar has a note or not
abbrev either : {A : Type 0} → Bool → A → A
either b x = cond b x x

either_is : {A : Type 0} (b : Bool) (x : A) → either b x ≡ x
either_is true x = refl
either_is false x = refl

-- s, v before a token at p, o, z; w after it. a, e: what w has
module _ (p o z : ℕ) {s : State} {v : View} (h : SameValues s v) {w : View} where
  -- a token that is no attribute and no barline
  idle : {s' : State} → attributes_of s' ≡ record { clef = either (is_empty s.open_bar) s.clef; fifths = either (is_empty s.open_bar) s.fifths; key_alters = either (is_empty s.open_bar) s.key_alters; meter = either (is_empty s.open_bar) s.meter; left = either (is_empty s.open_bar) s.left }
      → voice_of s' ≡ voice_in w → attributes_in w ≡ attributes_in v → SameValues s' w
  idle f e a = let b : Bool = is_empty s.open_bar in
      both_parts (f ∙ (λ i. record { clef = either_is b s.clef i; fifths = either_is b s.fifths i; key_alters = either_is b s.key_alters i; meter = either_is b s.meter i; left = either_is b s.left i }) ∙ attributes h ∙ sym a) e

  -- ---- attributes

  -- `%`, `$`, `@` in a bar with a note
  pub clef_kept : (c : Clef) → is_empty s.open_bar ≡ false → attributes_in w ≡ attributes_in v → voice_in w ≡ voice_in v → SameValues (step (item p o z (clef c)) s) w
  unfolding step
  clef_kept c b a e = both_parts (rw b (attributes h) ∙ sym a) (voice h ∙ sym e)

  pub key_kept : (k : Key) → is_empty s.open_bar ≡ false → attributes_in w ≡ attributes_in v → voice_in w ≡ voice_in v → SameValues (step (item p o z (key k)) s) w
  unfolding step
  key_kept k b a e = both_parts (rw b (attributes h) ∙ sym a) (voice h ∙ sym e)

  pub meter_kept : (m : math.Option Meter) → is_empty s.open_bar ≡ false → attributes_in w ≡ attributes_in v → voice_in w ≡ voice_in v → SameValues (step (item p o z (meter m)) s) w
  unfolding step
  meter_kept m b a e = both_parts (rw b (attributes h) ∙ sym a) (voice h ∙ sym e)

  -- and in one without
  pub clef_taken : (c : Clef) → is_empty s.open_bar ≡ true → attributes_in w ≡ record (attributes_in v) { clef = c.clef or v.clef } → voice_in w ≡ voice_in v → SameValues (step (item p o z (clef c)) s) w
  unfolding step
  clef_taken c b a e = both_parts (rw b (λ i. record (attributes h i) { clef = c.clef or h.clef i }) ∙ sym a) (voice h ∙ sym e)

  pub key_taken : (k : Key) → is_empty s.open_bar ≡ true → attributes_in w ≡ record (attributes_in v) { fifths = some k.fifths; key_alters = k.alters } → voice_in w ≡ voice_in v → SameValues (step (item p o z (key k)) s) w
  unfolding step
  key_taken k b a e = both_parts (rw b (λ i. record (attributes h i) { fifths = some k.fifths; key_alters = k.alters }) ∙ sym a) (voice h ∙ sym e)

  pub meter_taken : (m : math.Option Meter) → is_empty s.open_bar ≡ true → attributes_in w ≡ record (attributes_in v) { meter = m or v.meter } → voice_in w ≡ voice_in v → SameValues (step (item p o z (meter m)) s) w
  unfolding step
  meter_taken m b a e = both_parts (rw b (λ i. record (attributes h i) { meter = m or h.meter i }) ∙ sym a) (voice h ∙ sym e)

  -- a barline stores a bar with a note, and leaves its own left alone; an empty bar notes a left of 2
  pub barline_stored : (right left : ℕ) → is_empty s.open_bar ≡ false → attributes_in w ≡ record { clef = none; fifths = none; key_alters = v.key_alters; meter = none; left = left } → voice_in w ≡ voice_in v → SameValues (step (item p o z (barline right left)) s) w
  unfolding step
  barline_stored right left b a e = both_parts (rw b (λ i. record { clef = none; fifths = none; key_alters = h.key_alters i; meter = none; left = left }) ∙ sym a) (voice h ∙ sym e)

  pub barline_empty : (right left : ℕ) → is_empty s.open_bar ≡ true → attributes_in w ≡ record (attributes_in v) { left = cond (eqb left 2) 2 v.left } → voice_in w ≡ voice_in v → SameValues (step (item p o z (barline right left)) s) w
  unfolding step
  barline_empty right left b a e = both_parts (rw b (λ i. record (attributes h i) { left = cond (eqb left 2) 2 (h.left i) }) ∙ sym a) (voice h ∙ sym e)

  -- ---- all other tokens leave the attributes

  module _ (a : attributes_in w ≡ attributes_in v) where
    pub octave_set : (q : math.Option ℕ) → voice_in w ≡ record (voice_in v) { octave = math.get_or q v.octave } → SameValues (step (item p o z (octave q)) s) w
    unfolding step
    octave_set q e = idle refl ((λ i. record (voice h i) { octave = math.get_or q (h.octave i) }) ∙ sym e) a

    pub duration_set : (q : List Length) → voice_in w ≡ voice_in v → SameValues (step (item p o z (duration q)) s) w
    unfolding step
    duration_set q e = idle refl (voice h ∙ sym e) a

    pub accidental_set : (alter : ℤ) → voice_in w ≡ record (voice_in v) { pending_accidental = some alter } → SameValues (step (item p o z (accidental alter)) s) w
    unfolding step
    accidental_set alter e = idle refl ((λ i. record (voice h i) { pending_accidental = some alter }) ∙ sym e) a

    pub chord_set : voice_in w ≡ record (voice_in v) { chord_next = true } → SameValues (step (item p o z chord) s) w
    unfolding step
    chord_set e = idle refl ((λ i. record (voice h i) { chord_next = true }) ∙ sym e) a

    pub grace_set : (slashed : Bool) → voice_in w ≡ record (voice_in v) { pending_grace = some slashed } → SameValues (step (item p o z (grace slashed)) s) w
    unfolding step
    grace_set slashed e = idle refl ((λ i. record (voice h i) { pending_grace = some slashed }) ∙ sym e) a

    pub grace_group_set : (begins : Bool) → voice_in w ≡ record (voice_in v) { grace_group = begins } → SameValues (step (item p o z (grace_group begins)) s) w
    unfolding step
    grace_group_set begins e = idle refl ((λ i. record (voice h i) { grace_group = begins }) ∙ sym e) a

    -- a letter takes the accidental and the `^` that wait
    pub letter_joined : (n : ℕ) → rules.joins s ≡ true → voice_in w ≡ record (voice_in v) { pending_accidental = none; chord_next = false } → SameValues (step (item p o z (letter n)) s) w
    unfolding step
    letter_joined n j e = idle refl (rw j (λ i. record (voice h i) { pending_accidental = none; chord_next = false }) ∙ sym e) a

    -- one that opens a note takes the grace and ends the tie too
    pub letter_opened : (n : ℕ) → rules.joins s ≡ false → voice_in w ≡ record (voice_in v) { pending_accidental = none; chord_next = false; pending_grace = none; tie_pending = false } → SameValues (step (item p o z (letter n)) s) w
    unfolding step
    letter_opened n j e = idle refl (rw j (λ i. record (voice h i) { pending_accidental = none; chord_next = false; pending_grace = none; tie_pending = false }) ∙ sym e) a

    pub rest_set : voice_in w ≡ record (voice_in v) { tie_pending = false } → SameValues (step (item p o z rest) s) w
    unfolding step
    rest_set e = idle refl ((λ i. record (voice h i) { tie_pending = false }) ∙ sym e) a

    -- blanks, a lone `:`, a token without a rule, whole-bar rests
    pub other_same : (t : Other) → voice_in w ≡ voice_in v → SameValues (step (item p o z (other t)) s) w
    unfolding step
    other_same t e = idle refl (voice h ∙ sym e) a

    -- ---- figures

    pub mark_set : rules.start_here s ≡ start_here v → voice_in w ≡ record (voice_in v) { figure_start = given v.figure_start (some (start_here v)) (λ start. none) } → SameValues (step (item p o z (figure figure_mark)) s) w
    unfolding step
    mark_set g e = idle refl ((λ i. record (voice h i) { figure_start = given (h.figure_start i) (some (g i)) (λ start. none) }) ∙ sym e) a

    pub repeat_same : voice_in w ≡ voice_in v → SameValues (step (item p o z (figure figure_repeat)) s) w
    unfolding step
    repeat_same e = idle refl (voice h ∙ sym e) a

    pub bar_repeat_same : voice_in w ≡ voice_in v → SameValues (step (item p o z (figure bar_repeat)) s) w
    unfolding step
    bar_repeat_same e = idle refl (voice h ∙ sym e) a

    -- ---- markings

    pub beam_open_set : rules.start_here s ≡ start_here v → voice_in w ≡ record (voice_in v) { beam_start = some (start_here v) } → SameValues (step (item p o z (marking beam_open)) s) w
    unfolding step
    beam_open_set g e = idle refl ((λ i. record (voice h i) { beam_start = some (g i) }) ∙ sym e) a

    pub beam_close_set : voice_in w ≡ record (voice_in v) { beam_start = none } → SameValues (step (item p o z (marking beam_close)) s) w
    unfolding step
    beam_close_set e = idle refl ((λ i. record (voice h i) { beam_start = none }) ∙ sym e) a

    pub group_open_set : rules.start_here s ≡ start_here v → voice_in w ≡ record (voice_in v) { group = some (record { start = start_here v; count = none }) } → SameValues (step (item p o z (marking group_open)) s) w
    unfolding step
    group_open_set g e = idle refl ((λ i. record (voice h i) { group = some (record { start = g i; count = none }) }) ∙ sym e) a

    pub group_close_set : voice_in w ≡ record (voice_in v) { group = none } → SameValues (step (item p o z (marking group_close)) s) w
    unfolding step
    group_close_set e = idle refl ((λ i. record (voice h i) { group = none }) ∙ sym e) a

    pub group_count_set : (count : math.Option ℕ) → voice_in w ≡ record (voice_in v) { group = counted v.group count } → SameValues (step (item p o z (marking (group_count count))) s) w
    unfolding step
    group_count_set count e = idle refl ((λ i. record (voice h i) { group = counted (h.group i) count }) ∙ sym e) a

    -- `+` after a note or not
    pub tie_set : (ends : Bool) → rules.ends_in_note s.open_bar ≡ ends → voice_in w ≡ record (voice_in v) { tie_pending = ends || v.tie_pending } → SameValues (step (item p o z (marking tie)) s) w
    unfolding step
    tie_set ends g e = idle refl ((λ i. record (voice h i) { tie_pending = g i || h.tie_pending i }) ∙ sym e) a

    pub trill_same : voice_in w ≡ voice_in v → SameValues (step (item p o z (marking trill)) s) w
    unfolding step
    trill_same e = idle refl (voice h ∙ sym e) a
