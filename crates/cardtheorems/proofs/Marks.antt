-- What a mark makes of a note's notations is in range. Assumes nothing.
use Prim.Native.Nat.{ℕ, zero, suc, ◌≤◌}
use mathlib.Core.Path.{◌≡◌, refl}
use mathlib.Core.Bool.{Bool, true, false, cond, ◌&&◌, ◌||◌}
use mathlib.Core.Option.{Option, none, some, get_or}
use mathlib.Core.List.{List, [], ◌∷◌}
use native.Mathlib.Omega.{arith}
use borrow.Author.Tests.{ltb-false, le-leb}
use lib.ListN.{take}
use lib.Dec.{eqb, ltb}
use Rattle.rules.specs.Limits.{count_limit}
use Rattle.rules.specs.Tokens.{Marking, beam_open, beam_close, group_open, group_close, tie, trill, group_count, Token, marking_in}
use Rattle.rules.specs.Records.{Notations, Note}
use Rattle.rules.specs.Rules.{Start, ends_in_note, is_non_grace, non_grace_in, count_from, notes_from, with_tie_start, with_beam, with_mark, Closing, nothing, fermata, tuplet, too_few, tuplet_of, closing, closed, closing_of, beam_closed, marked, notations_next, with_notations, Group, State}
use Rattle.rules.specs.Agreement.{All}
use Rattle.theorems.proofs.Lists.{cond_ind, given-ind}
use Rattle.cards.specs.Fields.{between}
use Rattle.cardtheorems.proofs.Ranges.{IfSome, else-in, given-in, CountIn, NotationsIn, NoteIn}

-- the count of an open group
abbrev pub GroupIn : Group → Type 0
GroupIn g = IfSome CountIn g.count

-- ---- what a `)` makes

-- a tuplet's number
abbrev ClosingIn : Closing → Type 0
ClosingIn nothing = Unit {0}
ClosingIn fermata = Unit {0}
ClosingIn (tuplet actual) = between 3 count_limit actual ≡ true
ClosingIn (too_few actual) = Unit {0}

tuplet-in : (actual : ℕ) → actual ≤ count_limit → ClosingIn (tuplet_of actual)
tuplet-in actual h = go (ltb actual 3) refl
  where
    go : (b : Bool) → ltb actual 3 ≡ b → ClosingIn (cond b (too_few actual) (tuplet actual))
    go true e = tt
    go false e = rw (le-leb 3 actual (ltb-false actual 3 e)) (le-leb actual count_limit h)

closing-in : (timed : ℕ) (count : Option ℕ) → IfSome CountIn count → ClosingIn (closing timed count)
closing-in zero count h = tt
closing-in (suc zero) none h = tt
closing-in (suc zero) (some actual) h = tuplet-in actual h
closing-in (suc (suc timed)) count h = tuplet-in (get_or count 3) (else-in CountIn count 3 h (omega arith))

closed_in : (c : Closing) (d : Notations) → ClosingIn c → NotationsIn d → NotationsIn (closed c d)
closed_in nothing d h g = g
closed_in fermata d h g = record { beam = g.beam; actual = g.actual; normal = g.normal }
closed_in (tuplet actual) d h g = record { beam = g.beam; actual = rw h (or-true (eqb actual 0)); normal = rw h }
  where
    or-true : (b : Bool) → b || true ≡ true
    or-true true = refl
    or-true false = refl
closed_in (too_few actual) d h g = g

-- ---- the other marks

beam-in : (beam : ℕ) (d : Notations) → beam ≤ 3 → NotationsIn d → NotationsIn (with_beam beam d)
beam-in beam d h g = record { beam = h; actual = g.actual; normal = g.normal }

tie-in : (d : Notations) → NotationsIn d → NotationsIn (with_tie_start d)
tie-in d g = record { beam = g.beam; actual = g.actual; normal = g.normal }

mark-in : (m : Bool) (d : Notations) → NotationsIn d → NotationsIn (with_mark m d)
mark-in m d g = record { beam = g.beam; actual = g.actual; normal = g.normal }

beam-closed-in : (start : Start) (s : State) (later : ℕ) (n : Note) → NotationsIn n.notations → NotationsIn (beam_closed start s later n)
beam-closed-in start s later n g =
    let all : ℕ = non_grace_in (notes_from start s) in
    let after : ℕ = non_grace_in (take later s.open_bar) in
    let which : ℕ = cond (eqb after 0) 3 (cond (eqb (suc after) all) 1 2) in
    let few : which ≤ 3 = cond_ind (λ (b : ℕ). b ≤ 3) (eqb after 0) (omega arith) (cond_ind (λ (b : ℕ). b ≤ 3) (eqb (suc after) all) (omega arith) (omega arith)) in
    cond_ind NotationsIn (is_non_grace n && ltb later (count_from start s) && ltb 1 all) (beam-in which n.notations few g) g

marked-in : (m : Marking) (s : State) → IfSome GroupIn s.group → (later : ℕ) (n : Note) → NotationsIn n.notations → NotationsIn (marked m s later n)
marked-in beam_open s h later n g = g
marked-in beam_close s h later n g = given-ind NotationsIn s.beam_start g (λ start. beam-closed-in start s later n g)
marked-in group_open s h later n g = g
marked-in group_close s h later n g = given-in GroupIn NotationsIn s.group h g
    (λ o i. cond_ind NotationsIn (is_non_grace n && ltb later (count_from o.start s)) (closed_in (closing_of o s) n.notations (closing-in (non_grace_in (notes_from o.start s)) o.count i) g) g)
marked-in tie s h later n g = cond_ind NotationsIn (eqb later 0 && ends_in_note s.open_bar) (tie-in n.notations g) g
marked-in trill s h later n g = cond_ind NotationsIn (eqb later 0) (mark-in true n.notations g) g
marked-in (group_count c) s h later n g = g

-- ---- of records

renoted : (f : ℕ → Note → Notations) → ((later : ℕ) (n : Note) → NotationsIn n.notations → NotationsIn (f later n)) → (later : ℕ) (l : List Note) → All NoteIn l → All NoteIn (with_notations f later l)
renoted f k later [] h = tt
renoted f k later (n ∷ l) h =
    let i = h.0 in
    (record { place = i.place; kind = i.kind; duration = i.duration; dots = i.dots; notations = k later n i.notations; count = i.count; pitches = i.pitches }, renoted f k (suc later) l h.1)

pub notations-in : (t : Token) (s : State) (l : List Note) → IfSome GroupIn s.group → All NoteIn l → All NoteIn (with_notations (notations_next t s) 0 l)
notations-in t s l h = renoted (notations_next t s) (λ later n g. given-ind NotationsIn (marking_in t) g (λ m. marked-in m s h later n g)) 0 l
