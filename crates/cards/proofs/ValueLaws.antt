-- The pitches that the code's values are. Assumes nothing.
use Prim.Native.Nat.{ℕ, zero, suc, ◌+◌, ◌-◌, ◌<◌, ◌≤◌}
use native.Mathlib.Omega.{arith}
use mathlib.Core.Path.{◌≡◌, ap, ◌∙◌}
use mathlib.Core.Bool.{Bool, true}
use mathlib.Core.List.{List, [], ◌∷◌, ◌++◌, map, append-nil}
use Rattle.std.proofs.lemmas.Bool.{and_parts}
use Rattle.cards.specs.Fields.{each, every}
use Rattle.cards.proofs.PartLaws.{each_append}
use lib.ListN.{length, take, drop, get_or, length-drop}
use lib.Seq.{length-take-le, take_all}
use Rattle.std.proofs.lemmas.List.{length-map, take_more, map-append}
use lib.IntN.{sub_ℕ}
use Rattle.cards.specs.Judged.{raised}
use Rattle.cards.proofs.SuchLaws.{raised_of}
use Rattle.cards.specs.Values.{card_pitch, card_pitches}
use Rattle.cards.specs.declared.notes.Pitches.{Pitches}

pub length_pitches : (qs : Pitches) → length (card_pitches qs) ≡ qs.count
length_pitches qs = length-map (take qs.count qs.list) card_pitch ∙ length-take-le qs.count qs.list (omega (arith, qs.few, qs.whole))

pub ruleset lengths = (length_pitches)

pub key_back : (k : ℕ) → raised 7 (sub_ℕ k 7) ≡ k
key_back k = raised_of 7 k

pub ruleset keys = (key_back)

-- one more of the first ones
pub each_taken : {A B C : Type 0} (f : A → B) (g : B → List C) (none : A) (l : List A) (i : ℕ) → i < length l → each g (map f (take (i + 1) l)) ≡ each g (map f (take i l)) ++ g (f (get_or l i none))
unfolding each
each_taken f g none l i h =
    let e : map f (take (i + 1) l) ≡ map f (take i l) ++ f (get_or l i none) ∷ [] = ap (map f) (take_more l i none h) ∙ map-append f (take i l) (get_or l i none ∷ []) in
    rw (e, each_append g (map f (take i l)) (f (get_or l i none) ∷ []), append-nil)

-- each has what the first ones have
pub every_taken : {A B : Type 0} (f : A → B) (p : B → Bool) (none : A) (l : List A) (n i : ℕ) → i < n → n ≤ length l → every p (map f (take n l)) ≡ true → p (f (get_or l i none)) ≡ true
unfolding every
every_taken f p none l zero i h k e = absurd (omega arith)
every_taken f p none [] (suc n) i h k e = absurd (omega arith)
every_taken f p none (x ∷ l) (suc n) zero h k e = (and_parts (p (f x)) _ e).0
every_taken f p none (x ∷ l) (suc n) (suc i) h k e = every_taken f p none l n i (omega arith) (omega arith) (and_parts (p (f x)) _ e).1

-- what stands from k on
pub rest_of : {A : Type 0} (l : List A) (k : ℕ) → take (length l - k) (drop k l) ≡ drop k l
rest_of l k = take_all (length l - k) (drop k l) (omega (arith, length-drop k l))
