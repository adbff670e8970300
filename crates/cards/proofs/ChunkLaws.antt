-- Records of one size that are taken as chunks. Assumes nothing.
use Prim.Native.Nat.{ℕ, zero, suc, ◌+◌, ◌*◌, ◌/◌, ◌<◌, ◌≤◌}
use native.Mathlib.Omega.{arith}
use native.Mathlib.Nat.{suc-mul, add-div_left}
use native.Mathlib.Numerals.{add-one}
use mathlib.Core.Path.{◌≡◌, refl, ap, sym, ◌∙◌}
use mathlib.Core.Bool.{Bool, true}
use mathlib.Core.List.{List, [], ◌∷◌, ◌++◌}
use lib.IntN.{ℤ}
use lib.ListN.{length, take, drop, length-append, length-drop, take-append-drop}
use lib.Seq.{take_at, drop_at, take-take, length-take-le}
use Rattle.std.proofs.lemmas.List.{drop-take}
use Rattle.std.proofs.lemmas.Bool.{and_parts}
use Rattle.rules.specs.Limits.{pitch_size}
use Rattle.cards.specs.Fields.{every}
use Rattle.cards.specs.Pieces.{parts}
use Rattle.cards.specs.Judged.{pitch_of}

module _ {A B : Type 0} (f : List B → A) (size : ℕ) where
  -- each from its own words alone
  abbrev pub chunks : ℕ → List B → List A
  chunks count l = parts (λ w. f (take size w)) size count l

  -- those at the front
  pub chunks_taken : (count : ℕ) (l : List B) → chunks count (take (count * size) l) ≡ chunks count l
  unfolding parts
  chunks_taken zero l = refl
  chunks_taken (suc count) l =
      let e : suc count * size ≡ size + count * size = rw suc-mul (omega arith) in
      rw (e, take-take size (size + count * size) l (omega arith), drop-take size (count * size) l, chunks_taken count (drop size l))

  -- the first one, and those behind it
  pub chunks_cut : 0 < size → (w x b : List B) → w ≡ x ++ b → length x ≡ size → chunks (length w / size) w ≡ f x ∷ chunks (length b / size) b
  unfolding parts
  chunks_cut some w x b cut long =
      let n : length w ≡ size + length b = ap length cut ∙ length-append x b ∙ ap (λ k. k + length b) long in
      let e : length w / size ≡ suc (length b / size) = ap (λ k. k / size) n ∙ add-div_left (length b) some ∙ add-one (length b / size) in
      rw (e, cut, take_at x b size long, drop_at x b size long)

-- ---- pitches

pitch_alone : (x b : List ℤ) → length x ≡ pitch_size → pitch_of (x ++ b) ≡ pitch_of x
pitch_alone [] b h = absurd (omega arith)
pitch_alone (p ∷ []) b h = absurd (omega arith)
pitch_alone (p ∷ q ∷ []) b h = absurd (omega arith)
pitch_alone (p ∷ q ∷ r ∷ []) b h = absurd (omega arith)
pitch_alone (p ∷ q ∷ r ∷ s ∷ []) b h = refl
pitch_alone (p ∷ q ∷ r ∷ s ∷ t ∷ x) b h = absurd (omega arith)

pub pitch_chunks : (count : ℕ) (l : List ℤ) → count * pitch_size ≤ length l → chunks pitch_of pitch_size count l ≡ parts pitch_of pitch_size count l
unfolding parts
pitch_chunks zero l h = refl
pitch_chunks (suc count) l h =
    let first : pitch_of (take pitch_size l) ≡ pitch_of l = sym (pitch_alone (take pitch_size l) (drop pitch_size l) (length-take-le pitch_size l (omega arith))) ∙ ap pitch_of (take-append-drop pitch_size l) in
    λ i. first i ∷ pitch_chunks count (drop pitch_size l) (omega (arith, length-drop pitch_size l)) i

-- one among others has what all have
pub every_among : {A : Type 0} (p : A → Bool) (l m : List A) (x : A) → every p (l ++ x ∷ m) ≡ true → p x ≡ true
unfolding every
every_among p [] m x h = (and_parts (p x) (every p m) h).0
every_among p (y ∷ l) m x h = every_among p l m x (and_parts (p y) (every p (l ++ x ∷ m)) h).1
