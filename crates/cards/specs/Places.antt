-- What a reader's step says of the bytes before and behind it. Assumes nothing.
use Rattle.std.specs.Prelude.{ℕ, ◌≡◌, Bool, true, false, List, Result, MatchResult}
use Rattle.std.proofs.Math.Option.{none, some}
use Rattle.cards.specs.Taken.{Taken, number_taken}
use Rattle.cards.specs.declared.error.CardError.{CardError}

-- what is taken is what stands at the front, as `value` says; an error where no such thing stands there
abbrev pub Takes : {A B : Type 0} → Taken B → (A → B) → List ℕ → Result A CardError → List ℕ → Type 0
Takes take value before r behind = MatchResult r (λ x. take before ≡ some (value x, behind)) (λ _. take before ≡ none)

abbrev pub TakesPlace : ℕ → List ℕ → Result ℕ CardError → List ℕ → Type 0
TakesPlace width = Takes (number_taken width) (λ n. n)

-- x is judged such, and the result is its value; or it is not such
abbrev pub Judges : {A B : Type 0} → (B → Bool) → (A → B) → B → Result A CardError → Type 0
Judges such value x r = MatchResult r (λ a. (value a ≡ x) × (such x ≡ true)) (λ _. such x ≡ false)

-- the test holds, and the result's value is x; or it doesn't hold
abbrev pub JudgesAs : {A B : Type 0} → Bool → (A → B) → B → Result A CardError → Type 0
JudgesAs test value x r = MatchResult r (λ a. (value a ≡ x) × (test ≡ true)) (λ _. test ≡ false)
