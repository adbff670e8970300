-- Lists with the latest first, turned: what holds of each element, and the words. Assumes nothing.
use mathlib.Core.Path.{◌≡◌, refl, sym, ap, ◌∙◌}
use mathlib.Core.Bool.{Bool, true}
use mathlib.Core.List.{List, [], ◌∷◌, ◌++◌, append_assoc, append-nil}
use native.Mathlib.Omega.{arith}
use lib.IntN.{ℤ}
use lib.ListN.{length, length-append}
use Rattle.rules.specs.Words.{cells}
use Rattle.rules.specs.Agreement.{All}
use Rattle.cards.proofs.TakenLaws.{every_more}
use Rattle.cards.specs.Fields.{each, every, holds}
use Rattle.cards.proofs.PartLaws.{each_append}

-- f of each element, the earliest first
abbrev pub turned : {A B : Type 0} → (A → B) → List A → List B
turned f [] = []
turned f (x ∷ l) = turned f l ++ f x ∷ []

pub length-turned : {A B : Type 0} (f : A → B) (l : List A) → length (turned f l) ≡ length l
length-turned f [] = refl
length-turned f (x ∷ l) = omega (arith, length-append (turned f l) (f x ∷ []), length-turned f l)

-- tests that hold: one and the others, and none
pub record Tests (tests : List Bool) : Type 0 where
  pub held : holds tests ≡ true

infixr 20 ◌also◌
pub ◌also◌ : {t : Bool} {ts : List Bool} → t ≡ true → Tests ts → Tests (t ∷ ts)
unfolding holds
h also g = record { held = rw h g.held }

pub no_more : Tests []
unfolding holds
no_more = record { held = refl }

pub hold : (ts : List Bool) → Tests ts → holds ts ≡ true
hold ts h = h.held

module _ {A B : Type 0} (P : A → Type 0) (f : A → B) where
  pub every-turned : (p : B → Bool) → ((x : A) → P x → p (f x) ≡ true) → (l : List A) → All P l → every p (turned f l) ≡ true
  unfolding every
  every-turned p g [] h = refl
  every-turned p g (x ∷ l) h = every_more p (turned f l) (f x) (every-turned p g l h.1) (g x h.0)

  -- the words of each element, the latest last
  pub cells-turned : (words : A → List ℤ) (own : B → List ℤ) → ((x : A) → P x → words x ≡ own (f x)) → (l : List A) → All P l → cells words l ≡ each own (turned f l)
  unfolding each
  cells-turned words own g [] h = refl
  cells-turned words own g (x ∷ l) h = (λ i. cells-turned words own g l h.1 i ++ (g x h.0 ∙ sym (append-nil (own (f x)))) i) ∙ sym (each_append own (turned f l) (f x ∷ []))

pub cells-append : {A : Type 0} (words : A → List ℤ) (l m : List A) → cells words (l ++ m) ≡ cells words m ++ cells words l
cells-append words [] m = sym (append-nil (cells words m))
cells-append words (x ∷ l) m = ap (λ (c : List ℤ). c ++ words x) (cells-append words l m) ∙ append_assoc (cells words m) (cells words l) (words x)

module _ {A : Type 0} (P : A → Type 0) where
  pub all-parts : (l m : List A) → All P (l ++ m) → All P l × All P m
  all-parts [] m h = (tt, h)
  all-parts (x ∷ l) m h = let t = all-parts l m h.1 in ((h.0, t.0), t.1)

  pub all_both : (Q : A → Type 0) (l : List A) → All P l → All Q l → All (λ (x : A). P x × Q x) l
  all_both Q [] h g = tt
  all_both Q (x ∷ l) h g = ((h.0, g.0), all_both Q l h.1 g.1)
