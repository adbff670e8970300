-- The look-back over the marks: what is sought, the latest first. Assumes nothing.
use Rattle.std.specs.Prelude.{ℕ, ◌≡◌, ◌+◌, Bool, List, [], ◌∷◌, Option, None, Some, reverse, leb, if◌then◌else◌}
use denote.Ref.{Bor}
use denote.Param.Members.{Shared}
use Rattle.marks.specs.declared.mark.Mark.{Mark}

-- what a test answers of each mark
abbrev pub Answers : {F : Type 0} → Shared F (Bor Mark × Unit {0}) Bool → F → (Mark → Bool) → Type 0
Answers g f p = (mark : Bor Mark) (r : Bool) → g.post f (mark, tt) r → r ≡ p mark.now

-- of marks, the latest first: the first that is sought, up to the one that stops the search; a mark that is both is found
abbrev pub latest_in : (Mark → Bool) → (Mark → Bool) → List Mark → Option Mark
latest_in sought stop [] = None
latest_in sought stop (mark ∷ before) =
    if sought mark then Some mark
    else if stop mark then None
    else latest_in sought stop before

-- the latest mark that is sought, since the last one that stops the search
abbrev pub latest_of : (Mark → Bool) → (Mark → Bool) → List Mark → Option Mark
latest_of sought stop marks = latest_in sought stop (reverse marks)

-- of marks, the latest first: how many are sought, up to the one that stops the search
abbrev pub count_in : (Mark → Bool) → (Mark → Bool) → List Mark → ℕ
count_in sought stop [] = 0
count_in sought stop (mark ∷ before) =
    if stop mark then 0
    else if sought mark then 1 + count_in sought stop before
    else count_in sought stop before

-- how many marks are sought, since the last one that stops the search
abbrev pub count_of : (Mark → Bool) → (Mark → Bool) → List Mark → ℕ
count_of sought stop marks = count_in sought stop (reverse marks)

-- the first mark that is sought
abbrev pub first_of : (Mark → Bool) → List Mark → Option Mark
first_of sought [] = None
first_of sought (mark ∷ behind) = if sought mark then Some mark else first_of sought behind

-- a mark has this place or a later one
abbrev pub stands_at : ℕ → Mark → Bool
stands_at place mark = leb place mark.place.0
