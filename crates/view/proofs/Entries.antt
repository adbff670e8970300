-- The open bar's accidentals: the entries stand for the rules' table at a barline and at a letter. Assumes nothing.
use Rattle.std.proofs.Common.{◌≡◌, ◌≢◌, ℕ, ◌<◌, false, List, [], ℤ, pos, length, get_or, set, replicate, refl, sym, ap, ◌∙◌, arith, length-set, get_or-set_same, get_or-set_other, eq-eqb, ne_eqb}
use native.Mathlib.Decide.{ℕ_discrete}
use lib.ListN.{get_or-replicate}
use Rattle.std.proofs.Math.Option as math
use Rattle.std.proofs.Math.Option.{none, some}
use Rattle.rules.specs.Tokens.{letter}
use Rattle.rules.specs.Records.{◌or◌, given}
use Rattle.rules.specs.Rules as rules
use Rattle.rules.specs.Rules.{State, Accidentals}
use Rattle.view.specs.Accidentals.{Entries, is_none, no_entries, row, entry, entered}
use Rattle.view.specs.View.{View}
use Rattle.view.specs.Steps.{alter_of, pitch_of, lettered}
use Rattle.view.specs.Holds.{SameValues, IsEntry, Entered}

-- the entries are those of the table
record Tabled (f : Accidentals) (t : Entries) : Type 0 where
  rows : length t ≡ 7
  columns : (step : ℕ) → step < 7 → length (row t step) ≡ 10
  entries : (step octave : ℕ) → step < 7 → octave < 10 → f step octave ≡ entry t step octave

table : {s : State} {v : View} → Entered s v → Tabled s.accidentals v.accidentals
table h = record { rows = h.rows; columns = h.columns; entries = h.entries }

of_table : {s : State} {w : View} {f : Accidentals} {t : Entries} → s.accidentals ≡ f → w.accidentals ≡ t → w.octave < 10 → IsEntry w.pending_accidental → Tabled f t → Entered s w
of_table a b low waits h = record {
  rows = ap length b ∙ h.rows;
  columns = λ step p. ap (λ (t : Entries). length (row t step)) b ∙ h.columns step p;
  entries = λ step octave p q. (λ i. a i step octave) ∙ h.entries step octave p q ∙ ap (λ (t : Entries). entry t step octave) (sym b);
  low = low;
  waits = waits;
}

-- ---- a barline

cleared : Tabled rules.no_accidentals no_entries
cleared = record {
  rows = refl;
  columns = λ step p. ap length (empty_row step p);
  entries = λ step octave p q.
      let e : get_or (row no_entries step) octave (pos 0) ≡ pos 3 = ap (λ (l : List ℤ). get_or l octave (pos 0)) (empty_row step p) ∙ get_or-replicate 10 octave (pos 3) (pos 0) q in
      rw e;
}
  where
    empty_row : (step : ℕ) → step < 7 → row no_entries step ≡ replicate 10 (pos 3)
    empty_row step p = get_or-replicate 7 step (replicate 10 (pos 3)) [] p

-- all barlines clear them
pub entered_cleared : {s : State} {w : View} → s.accidentals ≡ rules.no_accidentals → w.accidentals ≡ no_entries → w.octave < 10 → IsEntry w.pending_accidental → Entered s w
entered_cleared a b low waits = of_table a b low waits cleared

-- ---- a letter

module _ {f : Accidentals} {t : Entries} (h : Tabled f t) (step octave : ℕ) (p : step < 7) (q : octave < 10) (alter : ℤ) where
  abbrev next : Entries
  next = entered t step octave alter

  row_same : row next step ≡ set (row t step) octave alter
  row_same = get_or-set_same t step (set (row t step) octave alter) [] (omega (arith, h.rows))

  row_other : (m : ℕ) → m ≢ step → row next m ≡ row t m
  row_other m n = get_or-set_other t step m (set (row t step) octave alter) [] n

  column_at : (m : ℕ) → m < 7 → Dec (m ≡ step) → length (row next m) ≡ 10
  column_at m n (yes e) = rw (e, row_same) (length-set (row t step) octave alter ∙ h.columns step p)
  column_at m n (no e) = rw (row_other m e) (h.columns m n)

  entry_at : is_none alter ≡ false → (m o : ℕ) → m < 7 → o < 10 → Dec (m ≡ step) → Dec (o ≡ octave) → rules.entered f step octave alter m o ≡ entry next m o
  entry_at e m o n k (yes a) (yes b) =
      let l : length (row t step) ≡ 10 = h.columns step p in
      rw (eq-eqb m step a, eq-eqb o octave b, a, b, row_same, get_or-set_same (row t step) octave alter (pos 0) (omega arith), e)
  entry_at e m o n k (yes a) (no b) = rw (eq-eqb m step a, ne_eqb o octave b, a, row_same, get_or-set_other (row t step) octave o alter (pos 0) b) (h.entries step o p k)
  entry_at e m o n k (no a) d = rw (ne_eqb m step a, row_other m a) (h.entries m o n k)

  with_entry : is_none alter ≡ false → Tabled (rules.entered f step octave alter) next
  with_entry e = record {
    rows = length-set t step _ ∙ h.rows;
    columns = λ m n. column_at m n (ℕ_discrete m step);
    entries = λ m o n k. entry_at e m o n k (ℕ_discrete m step) (ℕ_discrete o octave);
  }

module _ {s : State} {v : View} (values : SameValues s v) (h : Entered s v) (step : ℕ) (p : step < 7) where
  -- a letter enters the accidental that waits
  pub entered_lettered : {s' : State} {w : View} → s'.accidentals ≡ rules.accidentals_next (letter step) s → w.accidentals ≡ lettered step v → w.octave ≡ v.octave → w.pending_accidental ≡ none → Entered s' w
  entered_lettered {s'} {w} a b c d = go v.pending_accidental h.waits (a ∙ ap (λ (q : math.Option ℤ). given q s.accidentals (rules.entered s.accidentals step s.octave)) values.pending_accidental) b
    where
      low : w.octave < 10
      low = omega (arith, c, h.low)

      go : (q : math.Option ℤ) → IsEntry q → s'.accidentals ≡ given q s.accidentals (rules.entered s.accidentals step s.octave) → w.accidentals ≡ given q v.accidentals (entered v.accidentals step v.octave) → Entered s' w
      go none n a b = of_table a b low (rw d tt) (table h)
      go (some alter) n a b = of_table (a ∙ ap (λ (o : ℕ). rules.entered s.accidentals step o alter) values.octave) b low (rw d tt) (with_entry (table h) step v.octave p h.low alter n)

  -- the letter's alteration and pitch
  alter_agrees : rules.alter_of s step ≡ alter_of step v
  alter_agrees = λ i. math.get_or (values.pending_accidental i or (ap (s.accidentals step) values.octave ∙ h.entries step v.octave p h.low) i) (get_or (values.key_alters i) step (pos 0))

  pub pitch_agrees : (place : ℕ) → rules.pitch_of s place step ≡ pitch_of place step v
  pitch_agrees place = λ i. record { place = place; step = step; octave = values.octave i; alter = alter_agrees i }
