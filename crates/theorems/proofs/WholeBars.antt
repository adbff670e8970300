-- The turns of an `=` token: a whole-bar rest, then for each further bar a barline and one more. What every turn keeps, and what none touches. Assumes nothing.
use Prim.Native.Nat.{ℕ, zero, suc, ◌-◌}
use mathlib.Core.Path.{◌≡◌, refl, sym, ◌∙◌}
use mathlib.Core.Option.{none, some}
use Rattle.rules.specs.Tokens.{Token, Item, clef, key, meter, octave, duration, accidental, letter, chord, rest, barline, grace, grace_group, figure, marking, other, blank, colon, unknown, whole_bars}
use Rattle.rules.specs.Rules.{step, further_bars, inner_barline, in_turn, State}

-- what every step keeps
pub each_turn : (P : State → Type 0) (x : Item) → ((s : State) → P s → P (step x s)) → ((s : State) → P s → P (step (inner_barline x) s)) → (n : ℕ) (s : State) → P s → P (in_turn x n s)
each_turn P x own bar zero s h = own s h
each_turn P x own bar (suc n) s h = own _ (bar _ (each_turn P x own bar n s h))

-- an `=` with the count n
abbrev pub whole_at : Item → ℕ → Item
whole_at x n = record { place = x.place; offset = x.offset; size = x.size; token = other (whole_bars (some n)) }

-- Q of every token and its further bars: of none, and of an `=` with some
pub by-turns : (Q : Item → ℕ → Type 0) → ((x : Item) → Q x 0) → ((x : Item) (n further : ℕ) → Q (whole_at x n) (suc further)) → (x : Item) → Q x (further_bars x.token)
by-turns Q one more x = of x.token
  where
    at : Token → Item
    at t = record { place = x.place; offset = x.offset; size = x.size; token = t }

    turns : (n further : ℕ) → Q (whole_at x n) further
    turns n zero = one (whole_at x n)
    turns n (suc further) = more x n further

    of : (t : Token) → Q (at t) (further_bars t)
    of (clef c) = one (at (clef c))
    of (key c) = one (at (key c))
    of (meter c) = one (at (meter c))
    of (octave c) = one (at (octave c))
    of (duration c) = one (at (duration c))
    of (accidental c) = one (at (accidental c))
    of (letter n) = one (at (letter n))
    of chord = one (at chord)
    of rest = one (at rest)
    of (barline r l) = one (at (barline r l))
    of (grace g) = one (at (grace g))
    of (grace_group g) = one (at (grace_group g))
    of (figure f) = one (at (figure f))
    of (marking m) = one (at (marking m))
    of (other blank) = one (at (other blank))
    of (other colon) = one (at (other colon))
    of (other unknown) = one (at (other unknown))
    of (other (whole_bars none)) = one (at (other (whole_bars none)))
    of (other (whole_bars (some n))) = turns n (n - 1)

-- what neither an `=` nor a barline touches is as after one step
pub untouched : {A : Type 0} (f : State → A) → ((x : Item) (n : ℕ) (s : State) → f (step (whole_at x n) s) ≡ f s) → ((x : Item) (s : State) → f (step (inner_barline x) s) ≡ f s)
    → (x : Item) (s : State) → f (in_turn x (further_bars x.token) s) ≡ f (step x s)
untouched f own bar x s = by-turns (λ x n. f (in_turn x n s) ≡ f (step x s)) (λ x. refl)
    (λ x n further. each_turn (λ t. f t ≡ f s) (whole_at x n) (λ t h. own x n t ∙ h) (λ t h. bar x t ∙ h) (suc further) s refl ∙ sym (own x n s)) x
