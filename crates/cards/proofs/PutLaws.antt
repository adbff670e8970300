-- Byte strings put one behind the other. Assumes nothing.
use Prim.Native.Nat.{ℕ, ◌+◌, ◌<◌, ◌≤◌}
use native.Mathlib.Omega.{arith}
use mathlib.Core.Path.{◌≡◌, refl, subst, ◌∙◌}
use mathlib.Core.Bool.{Bool, true, false, cond}
use mathlib.Core.Option.{Option, none, some}
use mathlib.Core.List.{List, [], ◌++◌, append_assoc, append-nil}
use lib.ListN.{length, take, drop, length-append, length-drop}
use lib.Seq.{take_at, length-take-le}
use lib.Dec.{leb}
use borrow.Author.Tests.{leb-false, le-leb, lt-leb}
use borrow.Rule.Slice.PartMut.{put_mid}
use Rattle.cards.specs.Writer.{put_so_far, with_more, Wrote}
use Rattle.cards.specs.declared.writing.CardWriter.{CardWriter}

module _ {A : Type 0} (room : ℕ) where
  -- one string behind the other is both at once
  pub more_more : (h : Option (List A)) (x y : List A) → with_more room (with_more room h x) y ≡ with_more room h (x ++ y)
  unfolding with_more
  more_more none x y = refl
  more_more (some b) x y = go (leb (length (b ++ x)) room) refl
    where
      go : (t : Bool) → leb (length (b ++ x)) room ≡ t → with_more room (cond t (some (b ++ x)) none) y ≡ cond (leb (length (b ++ (x ++ y))) room) (some (b ++ (x ++ y))) none
      go true e = rw append_assoc
      go false e = let l = leb-false (length (b ++ x)) room e in
          rw (lt-leb (length (b ++ (x ++ y))) room (omega (arith, length-append b x, length-append b (x ++ y), length-append x y)))

-- into a lent part
module _ {A : Type 0} (l bytes : List A) (at k : ℕ) where
  pub put_fits : k ≡ length bytes → at + length bytes ≤ length l → some (take (at + length bytes) (put_mid at k l bytes)) ≡ with_more (length l) (some (take at l)) bytes
  unfolding with_more
  put_fits e h =
      let front : length (take at l) ≡ at = length-take-le at l (omega arith) in
      let whole : length (take at l ++ bytes) ≡ at + length bytes = omega (arith, length-append (take at l) bytes, front) in
      let fits : leb (length (take at l ++ bytes)) (length l) ≡ true = le-leb (length (take at l ++ bytes)) (length l) (omega arith) in
      rw (fits, ← append_assoc (take at l) bytes (drop k (drop at l)), take_at (take at l ++ bytes) (drop k (drop at l)) (at + length bytes) whole)

  pub mid_length : k ≡ length bytes → at + length bytes ≤ length l → length (put_mid at k l bytes) ≡ length l
  mid_length e h =
      let front : length (take at l) ≡ at = length-take-le at l (omega arith) in
      omega (arith, length-append (take at l) (bytes ++ drop k (drop at l)), length-append bytes (drop k (drop at l)), length-drop k (drop at l), length-drop at l, front)

  pub put_not : length l < at + length bytes → at ≤ length l → none ≡ with_more (length l) (some (take at l)) bytes
  unfolding with_more
  put_not h g =
      let front : length (take at l) ≡ at = length-take-le at l g in
      rw (lt-leb (length (take at l ++ bytes)) (length l) (omega (arith, length-append (take at l) bytes, front)))

-- ---- a writer's steps

-- one behind the other
pub wrote_then : {x y : List ℕ} {s t u : CardWriter} → Wrote x s t → Wrote y t u → Wrote (x ++ y) s u
wrote_then {x} {y} {s} {t} {u} a b = record {
  same_card = b.same_card ∙ a.same_card;
  same_room = b.same_room ∙ a.same_room;
  put = b.put ∙ rw (a.same_room, a.put) (more_more (length s.card.now) (put_so_far s) x y);
}

-- nothing
pub wrote_none : (s : CardWriter) → Wrote [] s s
unfolding with_more
wrote_none s = record { same_card = refl; same_room = refl; put = go s.full }
  where
    front : length (take s.at s.card.now) ≤ length s.card.now
    front = omega (arith, length-take-le s.at s.card.now s.within, s.within)

    go : (b : Bool) → cond b none (some (take s.at s.card.now)) ≡ with_more (length s.card.now) (cond b none (some (take s.at s.card.now))) []
    go true = refl
    go false = rw (append-nil, le-leb (length (take s.at s.card.now)) (length s.card.now) front)

pub wrote_as : {x y : List ℕ} {s t : CardWriter} → x ≡ y → Wrote x s t → Wrote y s t
wrote_as {s = s} {t} e w = subst (λ l. Wrote l s t) e w
