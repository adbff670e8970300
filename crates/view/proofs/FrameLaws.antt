-- The tokens of the first six kinds change no note record, and of the octave, the pattern and the waiting accidental at most their own. Assumes nothing.
use Prim.Native.Nat.{ℕ, ◌+◌}
use Prim.Native.Char.{code}
use mathlib.Core.Path.{◌≡◌, refl, subst, ◌∙◌}
use mathlib.Core.Option.{Option, none, some}
use mathlib.Core.List.{List, ◌∷◌}
use lib.ListN.{length}
use lib.Dec.{eqb}
use Rattle.rules.specs.Text.{is_digit, is_note_letter}
use Rattle.rules.specs.Characters.{is_blank}
use Rattle.rules.specs.Tokens as rules
use Rattle.rules.specs.Frame.{FirstKind, clef_kind, key_kind, meter_kind, octave_kind, duration_kind, accidental_kind, kind_of_byte}
use Rattle.theorems.proofs.Frame.{both, own}
use Rattle.theorems.proofs.Lists.{cond_ind}
use Rattle.view.specs.View.{View, has_note}
use Rattle.view.specs.Steps.{after_token}
use Rattle.view.specs.Frame.{ArmFramed, LeavesAlone}

-- ---- a token's kind is that of its first byte

-- the kind of a token of the rules, if it is one of the first six
abbrev kind_of : rules.Token → Option FirstKind
kind_of = elim [ rules.clef c ↦ some clef_kind | rules.key k ↦ some key_kind | rules.meter m ↦ some meter_kind | rules.octave o ↦ some octave_kind | rules.duration p ↦ some duration_kind | rules.accidental a ↦ some accidental_kind | rules.letter n ↦ none | rules.chord ↦ none | rules.rest ↦ none | rules.barline r l ↦ none | rules.grace g ↦ none | rules.grace_group g ↦ none | rules.figure f ↦ none | rules.marking m ↦ none | rules.other o ↦ none ]

-- the kind of a token is this
abbrev HasKind : Option FirstKind → rules.Token → Type 0
HasKind kind x = kind_of x ≡ kind

-- it is none of the six
abbrev Other : rules.Token → Type 0
Other = HasKind none

-- of a token with the first byte b it is the byte's
byte-kind : (b : ℕ) (value : List ℕ) → kind_of (rules.token_of b value) ≡ kind_of_byte b
unfolding rules.token_of kind_of_byte
byte-kind b value =
    let size = 1 + length value in
    both HasKind (eqb b (code "%")) refl
    (both HasKind (eqb b (code "$")) refl
    (both HasKind (eqb b (code "@")) refl
    (both HasKind (eqb b (code "'")) refl
    (both HasKind (eqb b (code ",")) refl
    (both HasKind (is_digit b) refl
    (both HasKind (eqb b (code "x")) refl
    (both HasKind (eqb b (code "b")) refl
    (both HasKind (eqb b (code "n")) refl
    (cond_ind Other (is_note_letter b) refl
    (cond_ind Other (eqb b (code "^")) refl
    (cond_ind Other (eqb b (code "-")) refl
    (cond_ind Other (eqb b (code "/")) (cond_ind Other (eqb size 1) refl (cond_ind Other (eqb size 2) refl refl))
    (cond_ind Other (eqb b (code ":")) (cond_ind Other (eqb size 1) refl (cond_ind Other (eqb size 3) refl refl))
    (cond_ind Other (eqb b (code "g")) refl
    (cond_ind Other (eqb b (code "q")) (cond_ind Other (eqb size 1) refl refl)
    (cond_ind Other (eqb b (code "r")) refl
    (cond_ind Other (eqb b (code "!")) refl
    (cond_ind Other (eqb b (code "f")) refl
    (cond_ind Other (eqb b (code "i")) refl
    (cond_ind Other (eqb b (code "{")) refl
    (cond_ind Other (eqb b (code "}")) refl
    (cond_ind Other (eqb b (code "(")) refl
    (cond_ind Other (eqb b (code ";")) refl
    (cond_ind Other (eqb b (code ")")) refl
    (cond_ind Other (eqb b (code "+")) refl
    (cond_ind Other (eqb b (code "t")) refl
    (cond_ind Other (eqb b (code "=")) refl
    (cond_ind Other (is_blank (b ∷ value)) refl refl))))))))))))))))))))))))))))

-- ---- what a token leaves alone

module _ (x : rules.Item) (v : View) where
  -- of a token whose kind is one of the six
  abbrev FramedBy : Option FirstKind → rules.Token → Type 0
  FramedBy none t = Unit {0}
  FramedBy (some kind) t = LeavesAlone kind v (after_token x t v)

  by_token : (t : rules.Token) → FramedBy (kind_of t) t
  by_token (rules.clef c) = cond_ind (ArmFramed clef_kind v) (has_note v) (record { same_notes = refl; same_bars = refl; same_figure = refl; same_counts = (refl, refl, refl, refl, refl); same_octave = λ n. refl; same_pattern = λ n. (refl, refl); same_accidental = λ n. refl }) (record { same_notes = refl; same_bars = refl; same_figure = refl; same_counts = (refl, refl, refl, refl, refl); same_octave = λ n. refl; same_pattern = λ n. (refl, refl); same_accidental = λ n. refl })
  by_token (rules.key k) = cond_ind (ArmFramed key_kind v) (has_note v) (record { same_notes = refl; same_bars = refl; same_figure = refl; same_counts = (refl, refl, refl, refl, refl); same_octave = λ n. refl; same_pattern = λ n. (refl, refl); same_accidental = λ n. refl }) (record { same_notes = refl; same_bars = refl; same_figure = refl; same_counts = (refl, refl, refl, refl, refl); same_octave = λ n. refl; same_pattern = λ n. (refl, refl); same_accidental = λ n. refl })
  by_token (rules.meter m) = cond_ind (ArmFramed meter_kind v) (has_note v) (record { same_notes = refl; same_bars = refl; same_figure = refl; same_counts = (refl, refl, refl, refl, refl); same_octave = λ n. refl; same_pattern = λ n. (refl, refl); same_accidental = λ n. refl }) (record { same_notes = refl; same_bars = refl; same_figure = refl; same_counts = (refl, refl, refl, refl, refl); same_octave = λ n. refl; same_pattern = λ n. (refl, refl); same_accidental = λ n. refl })
  by_token (rules.octave o) = record { same_notes = refl; same_bars = refl; same_figure = refl; same_counts = (refl, refl, refl, refl, refl); same_octave = own; same_pattern = λ n. (refl, refl); same_accidental = λ n. refl }
  by_token (rules.duration p) = record { same_notes = refl; same_bars = refl; same_figure = refl; same_counts = (refl, refl, refl, refl, refl); same_octave = λ n. refl; same_pattern = own; same_accidental = λ n. refl }
  by_token (rules.accidental a) = record { same_notes = refl; same_bars = refl; same_figure = refl; same_counts = (refl, refl, refl, refl, refl); same_octave = λ n. refl; same_pattern = λ n. (refl, refl); same_accidental = own }
  by_token (rules.letter n) = tt
  by_token rules.chord = tt
  by_token rules.rest = tt
  by_token (rules.barline r l) = tt
  by_token (rules.grace g) = tt
  by_token (rules.grace_group g) = tt
  by_token (rules.figure f) = tt
  by_token (rules.marking m) = tt
  by_token (rules.other o) = tt

  -- of every token of the six kinds, in every view
  pub arm-frame : (kind : FirstKind) (b : ℕ) (value : List ℕ) → kind_of_byte b ≡ some kind → LeavesAlone kind v (after_token x (rules.token_of b value) v)
  arm-frame kind b value e = subst (λ (k : Option FirstKind). FramedBy k (rules.token_of b value)) (byte-kind b value ∙ e) (by_token (rules.token_of b value))
