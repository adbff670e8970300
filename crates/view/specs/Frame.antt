-- What the tokens of the first six kinds leave alone. Assumes nothing.
use Rattle.std.specs.Prelude.{◌≡◌, ◌≢◌, Result, Ok, Err}
use Rattle.rules.specs.Frame.{FirstKind, octave_kind, duration_kind, accidental_kind}
use Rattle.view.specs.declared.refusal.Refusal.{Refusal}
use Rattle.view.specs.View.{View}

-- from v, before a token of the kind, to w, after it
pub record ArmFramed (kind : FirstKind) (v w : View) : Type 0 where
  -- it changes no cell of a note, of a bar or of the figure, nor their numbers
  pub same_notes : w.notes ≡ v.notes
  pub same_bars : w.bars ≡ v.bars
  pub same_figure : w.figure ≡ v.figure
  pub same_counts : (w.note_count ≡ v.note_count) × (w.first ≡ v.first) × (w.last ≡ v.last) × (w.bar_count ≡ v.bar_count) × (w.figure_count ≡ v.figure_count)
  -- and of the octave, the pattern with its lengths in turn and the waiting accidental at most its own
  pub same_octave : kind ≢ octave_kind → w.octave ≡ v.octave
  pub same_pattern : kind ≢ duration_kind → (w.pattern ≡ v.pattern) × (w.lengths_left ≡ v.lengths_left)
  pub same_accidental : kind ≢ accidental_kind → w.pending_accidental ≡ v.pending_accidental

-- such a token is never refused
abbrev pub LeavesAlone : FirstKind → View → Result View Refusal → Type 0
LeavesAlone kind v (Ok w) = ArmFramed kind v w
LeavesAlone kind v (Err e) = ⊥
