-- What is taken from bytes is what they begin with, and what they begin with is taken. Assumes nothing.
use Prim.Native.Nat.{ℕ, zero, suc, ◌+◌, ◌-◌, ◌*◌, ◌/◌, ◌%◌, ◌^◌, ◌<◌}
use native.Mathlib.Omega.{arith}
use native.Mathlib.Nat.{mod-add-div, div-lt_iff_lt-mul, add-mul-mod_self_left, add-mul-div_left, mod-eq_of_lt, div-eq_of_lt, pow-suc, zero-add, add-zero}
use mathlib.Core.Path.{◌≡◌, refl, ap, sym, subst, ◌∙◌}
use mathlib.Core.Bool.{Bool, true, false}
use mathlib.Core.Option.{none, some}
use mathlib.Core.List.{List, [], ◌∷◌, ◌++◌, append_assoc, append-nil}
use lib.ListN.{length, length-append}
use lib.Dec.{ltb}
use borrow.Author.Tests.{ltb-true, lt-ltb}
use Rattle.std.proofs.lemmas.Bool.{and_parts}
use Rattle.cards.specs.Fields.{number, under, each, every}
use Rattle.cards.specs.Taken.{Front, Taken, then, if_holds, byte_taken, number_taken, field_taken, repeated}
use Rattle.cards.proofs.PartLaws.{each_append}

-- ---- a step

-- on with what was taken before
pub taken_then : {A B : Type 0} (x : Front A) (f : A → Taken B) {y : B × List ℕ} {C : Type 0} → then x f ≡ some y → ((a : A) (r : List ℕ) → x ≡ some (a, r) → f a r ≡ some y → C) → C
taken_then none f e k = absurd cc
taken_then (some p) f e k = k p.0 p.1 refl e

some-same : {A : Type 0} {x y : A} → some x ≡ some y → x ≡ y
some-same e = cc

pub if_taken : {A : Type 0} (test : Bool) (x : A) (bytes : List ℕ) {y : A × List ℕ} → if_holds test x bytes ≡ some y → (test ≡ true) × (x ≡ y.0) × (bytes ≡ y.1)
if_taken {A} true x bytes e = (refl, ap (λ (p : A × List ℕ). p.0) (some-same e), ap (λ (p : A × List ℕ). p.1) (some-same e))
if_taken false x bytes e = absurd cc

-- ---- fields

pub byte_sound : (bytes : List ℕ) {p : ℕ × List ℕ} → byte_taken bytes ≡ some p → bytes ≡ p.0 ∷ p.1
byte_sound [] e = absurd cc
byte_sound (b ∷ bytes) e = let s = some-same e in λ i. (s i).0 ∷ (s i).1

pub number_sound : (width : ℕ) (bytes : List ℕ) {p : ℕ × List ℕ} → number_taken width bytes ≡ some p → bytes ≡ number width p.0 ++ p.1
unfolding number
number_sound zero bytes e = ap (λ (p : ℕ × List ℕ). p.1) (some-same e)
number_sound (suc width) bytes {p} e = taken_then (byte_taken bytes) _ e (λ low r f g. taken_then (number_taken width r) _ g (λ high s h k.
    let c = if_taken (ltb low 256) (low + 256 * high) s k in
    let l = ltb-true low 256 c.0 in
    let front : (low + 256 * high) % 256 ≡ low = rw (add-mul-mod_self_left low 256 high) (mod-eq_of_lt l) in
    let rest : (low + 256 * high) / 256 ≡ high = rw (add-mul-div_left low high {y = 256} (omega arith), div-eq_of_lt l) (zero-add high) in
    byte_sound bytes f ∙ (λ i. sym front i ∷ number_sound width r h i) ∙ (λ i. (low + 256 * high) % 256 ∷ number width (sym rest i) ++ s) ∙ (λ i. number (suc width) (c.1 i) ++ c.2 i)))

pub number_whole : (width n : ℕ) (r : List ℕ) → n < 256 ^ width → number_taken width (number width n ++ r) ≡ some (n, r)
unfolding number
number_whole zero n r h = let e : 0 ≡ n = omega arith in λ i. some (e i, r)
number_whole (suc width) n r h =
    let k : n / 256 < 256 ^ width = (div-lt_iff_lt-mul {k = 256} {x = n} {y = 256 ^ width} (omega arith)).1 (rw (← pow-suc) h) in
    let t : ltb (n % 256) 256 ≡ true = lt-ltb (n % 256) 256 (omega arith) in
    rw (number_whole width (n / 256) r k, t, mod-add-div n 256)

-- the bytes of any number are those of one that has no more
pub low_bytes : (width n : ℕ) → (k : ℕ) × (k < 256 ^ width) × (number width n ≡ number width k)
unfolding number
low_bytes zero n = (0, omega arith, refl)
low_bytes (suc width) n =
    let m = low_bytes width (n / 256) in
    let low = n % 256 in
    let small : low < 256 = omega arith in
    let front : (low + 256 * m.0) % 256 ≡ low = rw (add-mul-mod_self_left low 256 m.0) (mod-eq_of_lt small) in
    let rest : (low + 256 * m.0) / 256 ≡ m.0 = rw (add-mul-div_left low m.0 {y = 256} (omega arith), div-eq_of_lt small) (zero-add m.0) in
    (low + 256 * m.0, rw pow-suc (omega (arith, m.1)), (λ i. sym front i ∷ m.2 i) ∙ (λ i. (low + 256 * m.0) % 256 ∷ number width (sym rest i)))

pub field_sound : (bit : Bool) (bytes : List ℕ) {p : ℕ × List ℕ} → field_taken bit bytes ≡ some p → (bytes ≡ under bit (p.0 ∷ []) ++ p.1) × (bit ≡ false → p.0 ≡ 0)
field_sound true bytes e = (byte_sound bytes e, λ f. absurd cc)
field_sound false bytes e = let s = some-same e in ((λ i. (s i).1), λ f. sym (λ i. (s i).0))

pub field_whole : (bit : Bool) (f : ℕ) (r : List ℕ) → (bit ≡ false → f ≡ 0) → field_taken bit (under bit (f ∷ []) ++ r) ≡ some (f, r)
field_whole true f r h = refl
field_whole false f r h = let e = sym (h refl) in λ i. some (e i, r)

-- ---- a run

module _ {A : Type 0} (p : List A → Taken A) (g : A → List ℕ) where
  module _ (Q : List A → Type 0) (none_yet : Q []) (one : (l : List A) (bytes : List ℕ) (y : A × List ℕ) → Q l → p l bytes ≡ some y → (bytes ≡ g y.0 ++ y.1) × Q (l ++ y.0 ∷ [])) where
    pub repeated_sound : (count : ℕ) (bytes : List ℕ) (y : List A × List ℕ) → repeated p count bytes ≡ some y → (length y.0 ≡ count) × (bytes ≡ each g y.0 ++ y.1) × Q y.0
    unfolding repeated each
    repeated_sound zero bytes y e = let s : ([], bytes) ≡ y = some-same e in ((λ i. length ((sym s i).0)), (λ i. each g ((s i).0) ++ (s i).1), subst (λ (z : List A × List ℕ). Q z.0) s none_yet)
    repeated_sound (suc count) bytes y e = taken_then (repeated p count bytes) _ e (λ l r f k. taken_then (p l r) _ k (λ x r' h m.
        let a = repeated_sound count bytes (l, r) f in
        let b = one l r (x, r') a.2 h in
        let s : (l ++ x ∷ [], r') ≡ y = some-same m in
        let n : length (l ++ x ∷ []) ≡ suc count = omega (arith, length-append l (x ∷ []), a.0) in
        let w : bytes ≡ each g (l ++ x ∷ []) ++ r' = a.1 ∙ rw (b.0, each_append g l (x ∷ []), append_assoc, append-nil) in
        subst (λ (z : List A × List ℕ). (length z.0 ≡ suc count) × (bytes ≡ each g z.0 ++ z.1) × Q z.0) s (n, w, b.1)))

  -- those of a list, each of which is taken behind those before it
  abbrev pub TakenEach : List A → List A → Type 0
  TakenEach l [] = Unit
  TakenEach l (x ∷ xs) = ((r : List ℕ) → p l (g x ++ r) ≡ some (x, r)) × TakenEach (l ++ x ∷ []) xs

  -- those behind the first ones
  whole-behind : (xs l : List A) (bytes r : List ℕ) → repeated p (length l) bytes ≡ some (l, each g xs ++ r) → TakenEach l xs → repeated p (length l + length xs) bytes ≡ some (l ++ xs, r)
  unfolding repeated each
  whole-behind [] l bytes r e t = rw (add-zero, append-nil) e
  whole-behind (x ∷ xs) l bytes r e t =
      let f : repeated p (length l) bytes ≡ some (l, g x ++ (each g xs ++ r)) = e ∙ (λ i. some (l, append_assoc (g x) (each g xs) r i)) in
      let n : length (l ++ x ∷ []) ≡ suc (length l) = omega (arith, length-append l (x ∷ [])) in
      let k : repeated p (length (l ++ x ∷ [])) bytes ≡ some (l ++ x ∷ [], each g xs ++ r) = rw (n, f, t.0 (each g xs ++ r)) in
      let m : length l + suc (length xs) ≡ length (l ++ x ∷ []) + length xs = omega arith in
      rw (m, whole-behind xs (l ++ x ∷ []) bytes r k t.1, append_assoc)

  pub repeated_whole : (xs : List A) (r : List ℕ) → TakenEach [] xs → repeated p (length xs) (each g xs ++ r) ≡ some (xs, r)
  unfolding repeated
  repeated_whole xs r t = rw (← zero-add (length xs)) (whole-behind xs [] (each g xs ++ r) r refl t)

-- where each is taken whatever stands before it
pub taken_each : {A : Type 0} (p : Taken A) (g : A → List ℕ) (q : A → Bool) → ((x : A) (r : List ℕ) → q x ≡ true → p (g x ++ r) ≡ some (x, r)) → (l xs : List A) → every q xs ≡ true → TakenEach (λ _. p) g l xs
unfolding every
taken_each p g q whole l [] h = tt
taken_each p g q whole l (x ∷ xs) h = let t = and_parts (q x) (every q xs) h in ((λ r. whole x r t.0), taken_each p g q whole (l ++ x ∷ []) xs t.1)

-- none is taken behind a part that isn't
none-behind : {A : Type 0} (p : List A → Taken A) (k j : ℕ) (bytes : List ℕ) → repeated p k bytes ≡ none → repeated p (k + j) bytes ≡ none
unfolding repeated
none-behind p k zero bytes e = rw add-zero e
none-behind p k (suc j) bytes e = let m : k + suc j ≡ suc (k + j) = omega arith in rw (m, none-behind p k j bytes e)

-- none are taken where one of them isn't
pub stopped : {A : Type 0} (p : List A → Taken A) (count i : ℕ) (bytes : List ℕ) {r : List ℕ} {l : List A} → i < count → repeated p i bytes ≡ some (l, r) → p l r ≡ none → repeated p count bytes ≡ none
unfolding repeated
stopped p count i bytes h e f =
    let all = none-behind p (suc i) (count - suc i) bytes (rw (e, f)) in
    let k : suc i + (count - suc i) ≡ count = omega arith in
    rw k at all

-- one more that has what all have
pub every_more : {A : Type 0} (p : A → Bool) (l : List A) (x : A) → every p l ≡ true → p x ≡ true → every p (l ++ x ∷ []) ≡ true
unfolding every
every_more p [] x h k = rw k
every_more p (y ∷ l) x h k = let t = and_parts (p y) (every p l) h in rw (t.0, every_more p l x t.1 k)
