-- Groups: what is counted in a part of the note cells, and what is changed at its non-grace records. Assumes nothing.
use Rattle.std.specs.Prelude.{ℕ, zero, suc, ◌+◌, ◌*◌, ◌==◌, Bool, false, not, if◌then◌else◌, nat_lt, List, ℤ, pos, slice_index_or, slice_set, ◌≤◌, ⊤}
use Rattle.rules.specs.Records.{is_grace_kind}
use Rattle.rules.specs.Rules as rules
use Rattle.rules.specs.Stored.{natural}
use Rattle.stores.specs.declared.cells.TheConstants.{NOTE}
use Rattle.stores.specs.declared.note.TheConstants.{KIND, BEAM, ACTUAL, NORMAL}
use Rattle.stores.specs.declared.group.Closing.{Closing}
use Rattle.stores.specs.declared.group.Closing.TheVariants as code
use Rattle.stores.specs.Cells.{record_at, changed}
use Rattle.stores.specs.Notes.{marked}

-- record `number` is non-grace
abbrev pub timed_at : List ℤ → ℕ → Bool
timed_at l number = not (is_grace_kind (natural (slice_index_or l (number * NOTE + KIND) (pos 0))))

-- how many of the first records are non-grace
abbrev pub timed_count : List ℤ → ℕ → ℕ
timed_count l zero = 0
timed_count l (suc k) = if timed_at l k then timed_count l k + 1 else timed_count l k

-- the number of the last non-grace one
abbrev pub last_non_grace : List ℤ → ℕ → ℕ
last_non_grace l zero = 0
last_non_grace l (suc k) = if timed_at l k then k else last_non_grace l k

-- the beam of a record, `earlier` of `total` before it: the first 1, the last 3, those between 2
abbrev pub beam_number : ℕ → ℕ → ℕ
beam_number earlier total = if earlier == 0 then 1 else (if earlier + 1 == total then 3 else 2)

-- a record's words with a beam
abbrev pub beamed_words : ℕ → ℕ → List ℤ → List ℤ
beamed_words total earlier words = slice_set words BEAM (pos (beam_number earlier total))

-- and with a tuplet
abbrev pub tupled_words : ℕ → ℕ → ℕ → List ℤ → List ℤ
tupled_words actual normal earlier words = slice_set (slice_set words ACTUAL (pos actual)) NORMAL (pos normal)

-- the first records, the non-grace ones changed by f: the cells, and how many they were
abbrev pub walked : (ℕ → List ℤ → List ℤ) → List ℤ → ℕ → List ℤ × ℕ
walked f l zero = (l, 0)
walked f l (suc k) =
    let w = walked f l k in
    (if timed_at w.0 k then changed NOTE (f w.1) w.0 k else w.0, if timed_at w.0 k then w.1 + 1 else w.1)

-- `}`: a part of `count` records, beamed if two or more are non-grace
abbrev pub beamed : List ℤ → ℕ → List ℤ
beamed l count = if nat_lt 1 (timed_count l count) then (walked (beamed_words (timed_count l count)) l count).0 else l

-- `)` that makes a tuplet
abbrev pub tupled : ℕ → ℕ → List ℤ → ℕ → List ℤ
tupled actual normal l count = (walked (tupled_words actual normal) l count).0

-- the words of the last non-grace record
abbrev pub last_timed : List ℤ → ℕ → List ℤ
last_timed l count = record_at NOTE l (last_non_grace l count)

-- `)` that makes a fermata: at the last non-grace record
abbrev pub fermata_in : List ℤ → ℕ → List ℤ
fermata_in l count = changed NOTE (marked false) l (last_non_grace l count)

-- the rules' closing of the code's
abbrev pub closing_of : Closing → rules.Closing
closing_of code.Nothing = rules.nothing
closing_of code.Fermata = rules.fermata
closing_of (code.Tuplet actual) = rules.tuplet actual
closing_of (code.TooFew actual) = rules.too_few actual

-- a tuplet is of 3 or more
abbrev pub ThreeAtLeast : Closing → Type 0
ThreeAtLeast code.Nothing = ⊤
ThreeAtLeast code.Fermata = ⊤
ThreeAtLeast (code.Tuplet actual) = 3 ≤ actual
ThreeAtLeast (code.TooFew actual) = ⊤
