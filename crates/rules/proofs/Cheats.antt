-- The agreement (S-14.9) read against cells by hand: what it refuses, without the rules' own reading. Assumes nothing.
use Prim.Native.Nat.{ℕ, ◌-◌}
use mir.Facts.{eqb_no}
use mathlib.Core.Bool.{not}
use lib.Dec.{T, eqb}
use mathlib.Core.Path.{◌≡◌, refl, ap}
use mathlib.Core.Logic.{◌⊎◌, inl, inr}
use mathlib.Core.Option.{some}
use mathlib.Core.List.{List, [], ◌∷◌, ◌++◌}
use lib.IntN.{ℤ, pos}
use Rattle.rules.specs.Limits.{note_size}
use Rattle.rules.specs.Text.{bytes}
use Rattle.rules.specs.Characters.{character_size, code_point, is_blank}
use Rattle.rules.specs.Cut.{token_size}
use Rattle.rules.specs.Tokens.{Item, letter, other, whole_bars, token_of, item_at, items_after}
use Rattle.rules.specs.Fields.{lines_after, fields_after, fields_of}
use Rattle.rules.specs.Rules.{step, state_after}
use Rattle.rules.specs.Words.{zeros, padded}
use Rattle.rules.specs.Values.{pattern_of, whole_bars_of}
use Rattle.rules.specs.Stored.{natural, StoredHeading}
use Rattle.rules.specs.Agreement.{Agrees}

-- a record of one note: place, kind, duration, its pitch count, bar 1, then its pitches
abbrev note_at : ℕ → ℕ → ℕ → ℕ → List ℤ → List ℤ
note_at place kind duration pitches words = padded note_size (pos place ∷ pos kind ∷ pos duration ∷ zeros 7 ++ pos pitches ∷ pos 1 ∷ words)

-- a pitch's words: place, step, octave 4, unaltered
abbrev pitch : ℕ → ℕ → List ℤ
pitch place step = pos place ∷ pos step ∷ pos 4 ∷ pos 0 ∷ []

-- a letter token
abbrev letter_at : ℕ → ℕ → Item
letter_at place step = record { place = place; offset = place - 1; size = 1; token = letter step }

-- the one pitch of the one record
sole : {A : Type 0} → (A ⊎ ⊥) ⊎ ⊥ → A
sole (inl (inl a)) = a
sole (inl (inr z)) = absurd z
sole (inr z) = absurd z

pub record Cheats : Type 0 where
  -- the records left blank
  pub blank : Agrees (bytes "C") 1 (zeros note_size) → ⊥
  -- every step word 0
  pub step : Agrees (bytes "D") 1 (note_at 1 0 4 1 (pitch 1 0)) → ⊥
  -- only the first pitch of a chord
  pub chord : Agrees (bytes "C^E") 1 (note_at 1 0 4 1 (pitch 1 0)) → ⊥
  -- only what stands before the first barline
  pub barline : Agrees (bytes "C/E") 1 (note_at 1 0 4 1 (pitch 1 0)) → ⊥
  -- `xx` as 1
  pub sign : Agrees (bytes "xxC") 1 (note_at 3 0 4 1 (pos 3 ∷ pos 0 ∷ pos 4 ∷ pos 1 ∷ [])) → ⊥
  -- a `g` note with the pattern's length, or with kind 2
  pub slashed-length : Agrees (bytes "gC") 1 (note_at 2 3 4 1 (pitch 2 0)) → ⊥
  pub slashed-kind : Agrees (bytes "gC") 1 (note_at 2 2 5 1 (pitch 2 0)) → ⊥
  -- an eighth without a digit token
  pub default : Agrees (bytes "C") 1 (note_at 1 0 5 1 (pitch 1 0)) → ⊥
  -- a whole-bar rest with a rest's kind
  pub whole-bar-kind : Agrees (bytes "=") 1 (note_at 1 1 0 0 []) → ⊥
  -- a note count invented
  pub count : Agrees (bytes "C") 2 (note_at 1 0 4 1 (pitch 1 0) ++ zeros note_size) → ⊥

pub cheats : Cheats
unfolding character_size code_point is_blank token_size token_of item_at items_after lines_after fields_after fields_of pattern_of whole_bars_of state_after step
cheats = record {
  blank = λ d. neither (d.agrees.every_letter (record { later = []; item = letter_at 1 0; before = []; step = 0; stands = refl; is_letter = refl }));
  step = λ d. differ 0 1 tt (ap (λ q. natural q.step) (sole (d.agrees.every_letter (record { later = []; item = letter_at 1 1; before = []; step = 1; stands = refl; is_letter = refl }))));
  chord = λ d. differ 1 3 tt (ap (λ q. natural q.place) (sole (d.agrees.every_letter (record { later = []; item = letter_at 3 2; before = _; step = 2; stands = refl; is_letter = refl }))));
  barline = λ d. differ 1 3 tt (ap (λ q. natural q.place) (sole (d.agrees.every_letter (record { later = []; item = letter_at 3 2; before = _; step = 2; stands = refl; is_letter = refl }))));
  sign = λ d. differ 1 2 tt (ap (λ q. natural q.alter) (sole (d.agrees.every_letter (record { later = []; item = letter_at 3 0; before = _; step = 0; stands = refl; is_letter = refl }))));
  slashed-length = λ d. differ 4 5 tt (ap (first_of (λ h. h.duration)) (d.agrees.opening (record { later = []; item = letter_at 2 0; before = _; step = 0; stands = refl; is_letter = refl })));
  slashed-kind = λ d. differ 2 3 tt (ap (first_of (λ h. h.kind)) (d.agrees.opening (record { later = []; item = letter_at 2 0; before = _; step = 0; stands = refl; is_letter = refl })));
  default = λ d. differ 5 4 tt (ap (first_of (λ h. h.duration)) (d.agrees.opening (record { later = []; item = letter_at 1 0; before = []; step = 0; stands = refl; is_letter = refl })));
  whole-bar-kind = λ d. differ 1 4 tt (ap (first_of (λ h. h.kind)) (d.agrees.whole_bars [] (record { place = 1; offset = 0; size = 1; token = other (whole_bars (some 1)) }) [] refl refl));
  count = λ d. differ 2 1 tt d.counted;
}
  where
    neither : ⊥ ⊎ ⊥ → ⊥
    neither (inl z) = z
    neither (inr z) = z

    first_of : (StoredHeading → ℤ) → List StoredHeading → ℕ
    first_of f [] = 0
    first_of f (h ∷ hs) = natural (f h)

    differ : (m n : ℕ) → T (not (eqb m n)) → m ≡ n → ⊥
    differ m n t e = eqb_no t e
