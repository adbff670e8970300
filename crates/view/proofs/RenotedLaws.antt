-- `}` and `)` in the rules, which count the records after a record, are steps on the open bar's part that count those before. Assumes nothing.
use Prim.Native.Nat.{ℕ, zero, suc, ◌+◌, ◌-◌, ◌<◌, ◌≤◌}
use native.Mathlib.Omega.{arith}
use native.Mathlib.Nat.{sub-zero}
use mathlib.Core.Path.{◌≡◌, refl, ap, ◌∙◌}
use mathlib.Core.Bool.{Bool, true, false, cond, ◌&&◌}
use mathlib.Core.Option.{Option, get_or}
use mathlib.Core.List.{List, [], ◌∷◌, ◌++◌, append_assoc}
use lib.ListN.{length, take, drop, length-append}
use lib.Seq.{take_at, take-nil, drop-nil, take-append-add}
use lib.Dec.{eqb, ltb}
use borrow.Author.Tests.{eq-eqb, ne_eqb, lt-ltb, le-ltb, ltb-true, ltb-false}
use Rattle.rules.specs.Records.{Notations, Note}
use Rattle.rules.specs.Rules.{Start, State, Group, is_non_grace, non_grace_in, count_from, notes_from, with_beam, closing, closed, closing_of, fermata, tuplet, too_few, group_closed, beam_closed, with_notations}
use Rattle.stores.specs.Groups.{beam_number}
use Rattle.view.proofs.GroupLaws.{renoted, notated_by}

-- ---- any step

pub length-with_notations : (f : ℕ → Note → Notations) (i : ℕ) (l : List Note) → length (with_notations f i l) ≡ length l
length-with_notations f i [] = refl
length-with_notations f i (x ∷ l) = ap suc (length-with_notations f (suc i) l)

pub with_notations-same : (f : ℕ → Note → Notations) → ((i : ℕ) (n : Note) → f i n ≡ n.notations) → (i : ℕ) (l : List Note) → with_notations f i l ≡ l
with_notations-same f h i [] = refl
with_notations-same f h i (x ∷ l) = λ k. renoted (h i x k) x ∷ with_notations-same f h (suc i) l k

-- ---- a step on the latest m records

module _ (m : ℕ) (all : List Note) (h : ℕ → Note → Notations) (f : ℕ → Notations → Notations)
    (inside : (p : List Note) (x : Note) (l : List Note) → all ≡ p ++ x ∷ l → length p < m → h (length p) x ≡ cond (is_non_grace x) (f (non_grace_in (take (m - suc (length p)) l)) x.notations) x.notations)
    (outside : (i : ℕ) (x : Note) → m ≤ i → h i x ≡ x.notations) where
  beyond : (i : ℕ) (l : List Note) → m ≤ i → with_notations h i l ≡ l
  beyond i [] g = refl
  beyond i (x ∷ l) g = λ k. renoted (outside i x g k) x ∷ beyond (suc i) l (omega arith) k

  within : (p l : List Note) → all ≡ p ++ l → with_notations h (length p) l ≡ notated_by f (take (m - length p) l) ++ drop (m - length p) l
  within p [] e = rw (take-nil, drop-nil)
  within p (x ∷ l) e = go (ltb (length p) m) refl (rw one at (within (p ++ x ∷ []) l (rw append_assoc e)))
    where
      one : length (p ++ x ∷ []) ≡ suc (length p)
      one = rw length-append (omega arith)

      go : (b : Bool) → ltb (length p) m ≡ b → with_notations h (suc (length p)) l ≡ notated_by f (take (m - suc (length p)) l) ++ drop (m - suc (length p)) l
          → with_notations h (length p) (x ∷ l) ≡ notated_by f (take (m - length p) (x ∷ l)) ++ drop (m - length p) (x ∷ l)
      go true g r =
          let k = ltb-true (length p) m g in
          let d : m - length p ≡ suc (m - suc (length p)) = omega arith in
          rw (d, inside p x l e k, r)
      go false g r =
          let k = ltb-false (length p) m g in
          let d : m - length p ≡ 0 = omega arith in
          rw d (beyond (length p) (x ∷ l) k)

  with_notations-part : with_notations h 0 all ≡ notated_by f (take m all) ++ drop m all
  with_notations-part = rw sub-zero at (within [] all refl)

-- ---- `)`

and-true : (b : Bool) → b && true ≡ b
and-true true = refl
and-true false = refl

and-false : (b : Bool) → b && false ≡ false
and-false true = refl
and-false false = refl

pub with_notations-group : (g : Group) (s : State) → with_notations (group_closed g s) 0 s.open_bar
    ≡ notated_by (λ k. closed (closing_of g s)) (notes_from g.start s) ++ drop (count_from g.start s) s.open_bar
with_notations-group g s = let m = count_from g.start s in
    with_notations-part m s.open_bar (group_closed g s) (λ k. closed (closing_of g s))
    (λ p x l e h. rw (lt-ltb (length p) m h, and-true (is_non_grace x)))
    (λ i x h. rw (le-ltb i m h, and-false (is_non_grace x)))

-- a fermata closes a group of one
pub fermata-one : (timed : ℕ) (count : Option ℕ) → closing timed count ≡ fermata → timed ≡ 1
fermata-one zero count e = let z : ◌≡◌ {A = ℕ} 0 1 = cc in absurd (omega arith)
fermata-one (suc zero) count e = refl
fermata-one (suc (suc timed)) count e = absurd (go (ltb (get_or count 3) 3) (get_or count 3) e)
  where
    go : (b : Bool) (actual : ℕ) → cond b (too_few actual) (tuplet actual) ≡ fermata → ⊥
    go true actual e = let z : ◌≡◌ {A = ℕ} 0 1 = cc in omega arith
    go false actual e = let z : ◌≡◌ {A = ℕ} 0 1 = cc in omega arith

-- ---- `}`

timed-append : (x z : List Note) → non_grace_in (x ++ z) ≡ non_grace_in x + non_grace_in z
timed-append [] z = omega arith
timed-append (n ∷ x) z = go (is_non_grace n) (timed-append x z)
  where
    go : (b : Bool) → non_grace_in (x ++ z) ≡ non_grace_in x + non_grace_in z → cond b (suc (non_grace_in (x ++ z))) (non_grace_in (x ++ z)) ≡ cond b (suc (non_grace_in x)) (non_grace_in x) + non_grace_in z
    go true e = omega arith
    go false e = e

-- counted from either end
ends-agree : (after earlier total : ℕ) → total ≡ after + suc earlier → 1 < total → cond (eqb after 0) 3 (cond (eqb (suc after) total) 1 2) ≡ beam_number earlier total
ends-agree zero zero total e h = absurd (omega arith)
ends-agree (suc j) zero total e h = rw (ne_eqb (suc j) 0 (λ z. omega arith), eq-eqb (suc (suc j)) total (omega arith))
ends-agree zero (suc k) total e h = rw (ne_eqb (suc k) 0 (λ z. omega arith), eq-eqb (suc k + 1) total (omega arith))
ends-agree (suc j) (suc k) total e h = rw (ne_eqb (suc j) 0 (λ z. omega arith), ne_eqb (suc k) 0 (λ z. omega arith), ne_eqb (suc (suc j)) total (λ z. omega arith), ne_eqb (suc k + 1) total (λ z. omega arith))

pub with_notations-beam : (start : Start) (s : State) → let part = notes_from start s in 1 < non_grace_in part
    → with_notations (beam_closed start s) 0 s.open_bar ≡ notated_by (λ k. with_beam (beam_number k (non_grace_in part))) part ++ drop (count_from start s) s.open_bar
with_notations-beam start s h = with_notations-part m s.open_bar (beam_closed start s) (λ k. with_beam (beam_number k total)) inside (λ i x k. rw (le-ltb i m k, and-false (is_non_grace x)))
  where
    m : ℕ
    m = count_from start s

    total : ℕ
    total = non_grace_in (take m s.open_bar)

    inside : (p : List Note) (x : Note) (l : List Note) → s.open_bar ≡ p ++ x ∷ l → length p < m
        → beam_closed start s (length p) x ≡ cond (is_non_grace x) (with_beam (beam_number (non_grace_in (take (m - suc (length p)) l)) total) x.notations) x.notations
    inside p x l e k =
        let t : take (length p) s.open_bar ≡ p = ap (take (length p)) e ∙ take_at p (x ∷ l) (length p) refl in
        rw (t, lt-ltb (length p) m k, lt-ltb 1 total h, and-true, and-true) (go (is_non_grace x) refl)
      where
        -- what stands in the part
        part : take m s.open_bar ≡ p ++ x ∷ take (m - suc (length p)) l
        part =
            let d : m ≡ length p + suc (m - suc (length p)) = omega arith in
            ap (take m) e ∙ ap (λ (n : ℕ). take n (p ++ x ∷ l)) d ∙ take-append-add p (x ∷ l) (suc (m - suc (length p)))

        go : (b : Bool) → is_non_grace x ≡ b → cond b (with_beam (cond (eqb (non_grace_in p) 0) 3 (cond (eqb (suc (non_grace_in p)) total) 1 2)) x.notations) x.notations
            ≡ cond b (with_beam (beam_number (non_grace_in (take (m - suc (length p)) l)) total) x.notations) x.notations
        go true q = ap (λ (n : ℕ). with_beam n x.notations) (ends-agree (non_grace_in p) (non_grace_in (take (m - suc (length p)) l)) total (ap non_grace_in part ∙ timed-append p (x ∷ take (m - suc (length p)) l) ∙ rw q) h)
        go false q = refl

-- fewer than two are not beamed
pub with_notations-few : (start : Start) (s : State) → non_grace_in (notes_from start s) ≤ 1 → with_notations (beam_closed start s) 0 s.open_bar ≡ s.open_bar
with_notations-few start s h = go 0 s.open_bar
  where
    go : (i : ℕ) (l : List Note) → with_notations (beam_closed start s) i l ≡ l
    go i [] = refl
    go i (x ∷ l) = rw (le-ltb 1 (non_grace_in (notes_from start s)) h, and-false, go (suc i) l)
