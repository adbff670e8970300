-- Numbers of words, and values by their numbers. Assumes nothing.
use Prim.Native.Nat.{ℕ, zero, suc, ◌<◌, ◌≤◌}
use native.Mathlib.Omega.{arith}
use mathlib.Core.Path.{◌≡◌, refl, ap, ◌∙◌}
use mathlib.Core.Bool.{Bool, true, false}
use lib.IntN.{ℤ, pos, negsuc, neg_ℤ, ◌+ℤ◌}
use lib.Signed.{◌≤ℤ◌}
use borrow.Author.Tests.{lt-ltb}
use Rattle.stores.specs.Notes.{kind_number}
use Rattle.stores.specs.declared.note.NoteKind.{NoteKind}
use Rattle.stores.specs.declared.note.NoteKind.TheVariants as kind
use Rattle.tokens.specs.Steps.{step_number, duration_number, edge_number}
use Rattle.tokens.specs.Clefs.{clef_number, symbol_word}
use Rattle.tokens.specs.declared.rhythm.Step.{Step}
use Rattle.tokens.specs.declared.rhythm.Step.TheVariants as step
use Rattle.tokens.specs.declared.rhythm.Duration.{Duration}
use Rattle.tokens.specs.declared.rhythm.Duration.TheVariants as duration
use Rattle.tokens.specs.declared.rhythm.Edge.{Edge}
use Rattle.tokens.specs.declared.rhythm.Edge.TheVariants as edge
use Rattle.tokens.specs.declared.attributes.Clef.{Clef}
use Rattle.tokens.specs.declared.attributes.Clef.TheVariants as clef
use Rattle.tokens.specs.declared.attributes.Symbol.{Symbol}
use Rattle.tokens.specs.declared.attributes.Symbol.TheVariants as symbol
use Rattle.tokens.specs.declared.rhythm.Octave.{Octave}
use Rattle.cards.specs.Judged.{natural, raised}
use Rattle.std.proofs.lemmas.Int.{ints}
use Rattle.cards.proofs.SuchLaws.{natural-back}

pub refused : (b : Bool) → (b ≡ true → ⊥) → b ≡ false
refused true h = absurd (h refl)
refused false h = refl

-- ---- each number of a range is a value's

pub kinds : (k : ℕ) → k ≤ 4 → (v : NoteKind) × (kind_number v ≡ k)
kinds zero h = (kind.Note, refl)
kinds (suc zero) h = (kind.Rest, refl)
kinds (suc (suc zero)) h = (kind.Grace, refl)
kinds (suc (suc (suc zero))) h = (kind.SlashedGrace, refl)
kinds (suc (suc (suc (suc zero)))) h = (kind.WholeBarRest, refl)
kinds (suc (suc (suc (suc (suc k))))) h = absurd (omega arith)

pub steps : (k : ℕ) → k ≤ 6 → (v : Step) × (step_number v ≡ k)
steps zero h = (step.C, refl)
steps (suc zero) h = (step.D, refl)
steps (suc (suc zero)) h = (step.E, refl)
steps (suc (suc (suc zero))) h = (step.F, refl)
steps (suc (suc (suc (suc zero)))) h = (step.G, refl)
steps (suc (suc (suc (suc (suc zero))))) h = (step.A, refl)
steps (suc (suc (suc (suc (suc (suc zero)))))) h = (step.B, refl)
steps (suc (suc (suc (suc (suc (suc (suc k))))))) h = absurd (omega arith)

pub octaves : (k : ℕ) → k ≤ 9 → (v : Octave) × (v.number ≡ k)
octaves k h = (record { number = k; in_range = omega arith }, refl)

pub durations : (k : ℕ) → k ≤ 9 → (v : Duration) × (duration_number v ≡ k)
durations zero h = (duration.Longa, refl)
durations (suc zero) h = (duration.Breve, refl)
durations (suc (suc zero)) h = (duration.Whole, refl)
durations (suc (suc (suc zero))) h = (duration.Half, refl)
durations (suc (suc (suc (suc zero)))) h = (duration.Quarter, refl)
durations (suc (suc (suc (suc (suc zero))))) h = (duration.Eighth, refl)
durations (suc (suc (suc (suc (suc (suc zero)))))) h = (duration.Sixteenth, refl)
durations (suc (suc (suc (suc (suc (suc (suc zero))))))) h = (duration.ThirtySecond, refl)
durations (suc (suc (suc (suc (suc (suc (suc (suc zero)))))))) h = (duration.SixtyFourth, refl)
durations (suc (suc (suc (suc (suc (suc (suc (suc (suc zero))))))))) h = (duration.HundredTwentyEighth, refl)
durations (suc (suc (suc (suc (suc (suc (suc (suc (suc (suc k)))))))))) h = absurd (omega arith)

pub edges : (k : ℕ) → k ≤ 3 → (v : Edge) × (edge_number v ≡ k)
edges zero h = (edge.Plain, refl)
edges (suc zero) h = (edge.Double, refl)
edges (suc (suc zero)) h = (edge.RepeatStart, refl)
edges (suc (suc (suc zero))) h = (edge.RepeatEnd, refl)
edges (suc (suc (suc (suc k)))) h = absurd (omega arith)

-- but 0
pub clefs : (k : ℕ) → (k ≡ 0 → ⊥) → k ≤ 8 → (v : Clef) × (clef_number v ≡ k)
clefs zero n h = absurd (n refl)
clefs (suc zero) n h = (clef.Treble, refl)
clefs (suc (suc zero)) n h = (clef.Treble8vb, refl)
clefs (suc (suc (suc zero))) n h = (clef.Bass, refl)
clefs (suc (suc (suc (suc zero)))) n h = (clef.Soprano, refl)
clefs (suc (suc (suc (suc (suc zero))))) n h = (clef.MezzoSoprano, refl)
clefs (suc (suc (suc (suc (suc (suc zero)))))) n h = (clef.Alto, refl)
clefs (suc (suc (suc (suc (suc (suc (suc zero))))))) n h = (clef.Tenor, refl)
clefs (suc (suc (suc (suc (suc (suc (suc (suc zero)))))))) n h = (clef.Baritone, refl)
clefs (suc (suc (suc (suc (suc (suc (suc (suc (suc k))))))))) n h = absurd (omega arith)

pub symbols : (k : ℕ) → (k ≡ 0 → ⊥) → k ≤ 2 → (v : Symbol) × (symbol_word v ≡ k)
symbols zero n h = absurd (n refl)
symbols (suc zero) n h = (symbol.Common, refl)
symbols (suc (suc zero)) n h = (symbol.Cut, refl)
symbols (suc (suc (suc k))) n h = absurd (omega arith)

-- a word that is no value's number is in no range of theirs
pub unnumbered : {A : Type 0} (number : A → ℕ) (word : ℤ) → ((a : A) → pos (number a) ≡ word → ⊥) → natural word < 4294967295 → (a : A) × (number a ≡ natural word) → ⊥
unnumbered number word none small a = none a.0 (ap pos a.1 ∙ natural-back word small)

-- ---- and each value's number is in its range

pub kind_most : (v : NoteKind) → kind_number v ≤ 4
kind_most kind.Note = omega arith
kind_most kind.Rest = omega arith
kind_most kind.Grace = omega arith
kind_most kind.SlashedGrace = omega arith
kind_most kind.WholeBarRest = omega arith

pub step_most : (v : Step) → step_number v ≤ 6
step_most step.C = omega arith
step_most step.D = omega arith
step_most step.E = omega arith
step_most step.F = omega arith
step_most step.G = omega arith
step_most step.A = omega arith
step_most step.B = omega arith

pub duration_most : (v : Duration) → duration_number v ≤ 9
duration_most duration.Longa = omega arith
duration_most duration.Breve = omega arith
duration_most duration.Whole = omega arith
duration_most duration.Half = omega arith
duration_most duration.Quarter = omega arith
duration_most duration.Eighth = omega arith
duration_most duration.Sixteenth = omega arith
duration_most duration.ThirtySecond = omega arith
duration_most duration.SixtyFourth = omega arith
duration_most duration.HundredTwentyEighth = omega arith

pub edge_most : (v : Edge) → edge_number v ≤ 3
edge_most edge.Plain = omega arith
edge_most edge.Double = omega arith
edge_most edge.RepeatStart = omega arith
edge_most edge.RepeatEnd = omega arith

-- ---- a word plus k

pub raised_sum : (k : ℕ) (z : ℤ) → neg_ℤ (pos k) ≤ℤ z → pos (raised k z) ≡ z +ℤ pos k
raised_sum k (pos n) h = refl
raised_sum k (negsuc n) h = let l : n < k = omega (arith, ints, h) in rw (lt-ltb n k l) (omega (arith, ints))
