-- What the proofs need of lists and of branches. Assumes nothing.
use Prim.Native.Nat.{ℕ, zero, suc}
use mathlib.Core.Path.{◌≡◌, refl, ap}
use mathlib.Core.Bool.{Bool, true, false, not, cond, ◌&&◌, false≢true}
use mathlib.Core.Logic.{inl, inr}
use mathlib.Core.Option.{Option, none, some}
use mathlib.Core.List.{List, [], ◌∷◌, ◌++◌, map}
use lib.ListN.{take}
use lib.Dec.{T}
use Rattle.rules.specs.Records.{given}
use Rattle.rules.specs.LookBack.{keep}
use Rattle.rules.specs.Agreement.{All, Some}

-- a branch has what both of its arms have
pub cond_ind : {A : Type 0} (P : A → Type 0) (b : Bool) {x y : A} → P x → P y → P (cond b x y)
cond_ind P true h g = h
cond_ind P false h g = g

pub given-ind : {A B : Type 0} (P : B → Type 0) (o : Option A) {b : B} {f : A → B} → P b → ((a : A) → P (f a)) → P (given o b f)
given-ind P none h g = h
given-ind P (some a) h g = g a

-- the same, with what the arm knows
pub cond-case : {A : Type 0} (P : A → Type 0) (b : Bool) {x y : A} → (b ≡ true → P x) → P y → P (cond b x y)
cond-case P true h g = h refl
cond-case P false h g = g

pub given-case : {A B : Type 0} (P : B → Type 0) (o : Option A) {b : B} {f : A → B} → P b → ((a : A) → o ≡ some a → P (f a)) → P (given o b f)
given-case P none h g = h
given-case P (some a) h g = g a refl

-- a test that is known
pub is_true : (b : Bool) → T b → b ≡ true
is_true true t = refl
is_true false t = absurd t

pub is_false : (b : Bool) → T (not b) → b ≡ false
is_false true t = absurd t
is_false false t = refl

pub both_true : (s t : Bool) → s && t ≡ true → (s ≡ true) × (t ≡ true)
both_true true t e = (refl, e)
both_true false t e = absurd (false≢true e)

module _ {A : Type 0} where
  pub all-imp : {P Q : A → Type 0} → ((x : A) → P x → Q x) → (l : List A) → All P l → All Q l
  all-imp f [] h = tt
  all-imp f (x ∷ l) h = (f x h.0, all-imp f l h.1)

  pub all-++ : (P : A → Type 0) (l m : List A) → All P l → All P m → All P (l ++ m)
  all-++ P [] m h g = g
  all-++ P (x ∷ l) m h g = (h.0, all-++ P l m h.1 g)

  pub all_take : (P : A → Type 0) (n : ℕ) (l : List A) → All P l → All P (take n l)
  all_take P zero l h = tt
  all_take P (suc n) [] h = tt
  all_take P (suc n) (x ∷ l) h = (h.0, all_take P n l h.1)

  pub some_right : (P : A → Type 0) (l m : List A) → Some P m → Some P (l ++ m)
  some_right P [] m h = h
  some_right P (x ∷ l) m h = inr (some_right P l m h)

  pub keep-++ : (p : A → Bool) (l m : List A) → keep p (l ++ m) ≡ keep p l ++ keep p m
  keep-++ p [] m = refl
  keep-++ p (x ∷ l) m = go (p x) (keep-++ p l m)
    where
      go : (b : Bool) → keep p (l ++ m) ≡ keep p l ++ keep p m → cond b (x ∷ keep p (l ++ m)) (keep p (l ++ m)) ≡ cond b (x ∷ keep p l) (keep p l) ++ keep p m
      go true e = ap (λ r. x ∷ r) e
      go false e = e

  pub keep-none : (p : A → Bool) (l : List A) → All (λ x. T (not (p x))) l → keep p l ≡ []
  keep-none p [] h = refl
  keep-none p (x ∷ l) h = λ i. cond (is_false (p x) h.0 i) (x ∷ keep-none p l h.1 i) (keep-none p l h.1 i)

  pub keep-every : (p : A → Bool) (l : List A) → All (λ x. T (p x)) l → keep p l ≡ l
  keep-every p [] h = refl
  keep-every p (x ∷ l) h = λ i. cond (is_true (p x) h.0 i) (x ∷ keep-every p l h.1 i) (keep-every p l h.1 i)

  pub keep_same : (p q : A → Bool) (l : List A) → All (λ x. p x ≡ q x) l → keep p l ≡ keep q l
  keep_same p q [] h = refl
  keep_same p q (x ∷ l) h = λ i. cond (h.0 i) (x ∷ keep_same p q l h.1 i) (keep_same p q l h.1 i)

module _ {A B : Type 0} (f : A → B) where
  pub all_map : (P : B → Type 0) (l : List A) → All (λ x. P (f x)) l → All P (map f l)
  all_map P [] h = tt
  all_map P (x ∷ l) h = (h.0, all_map P l h.1)

  pub some-map : {P : A → Type 0} (Q : B → Type 0) → ((x : A) → P x → Q (f x)) → (l : List A) → Some P l → Some Q (map f l)
  some-map Q g [] h = absurd h
  some-map Q g (x ∷ l) (inl h) = inl (g x h)
  some-map Q g (x ∷ l) (inr h) = inr (some-map Q g l h)

  pub keep-map : (p : B → Bool) (l : List A) → keep p (map f l) ≡ map f (keep (λ x. p (f x)) l)
  keep-map p [] = refl
  keep-map p (x ∷ l) = go (p (f x)) (keep-map p l)
    where
      go : (b : Bool) → keep p (map f l) ≡ map f (keep (λ x. p (f x)) l) → cond b (f x ∷ keep p (map f l)) (keep p (map f l)) ≡ map f (cond b (x ∷ keep (λ x. p (f x)) l) (keep (λ x. p (f x)) l))
      go true e = ap (λ r. f x ∷ r) e
      go false e = e
