-- What became of marks that wait. Assumes nothing.
use Rattle.std.specs.Prelude.{ℕ, ◌+◌, Bool, List, Option, None, Some, drop, leb, is_some, ◌&&◌, if◌then◌else◌}
use Rattle.marks.specs.declared.mark.Mark.{Mark}
use Rattle.marks.specs.declared.waiting.Fate.{Fate}
use Rattle.marks.specs.declared.waiting.Fate.TheVariants as f
use Rattle.marks.specs.Kinds as k
use Rattle.marks.specs.LookBack.{first_of}
use Rattle.marks.specs.Marks.{token_of_mark}

-- ---- marks, by their tokens

abbrev pub is_letter : Mark → Bool
is_letter m = k.is_letter (token_of_mark m)

abbrev pub opens_note : Mark → Bool
opens_note m = is_letter m && is_some m.stored

abbrev pub is_sign : Mark → Bool
is_sign m = k.is_sign (token_of_mark m)

abbrev pub is_grace : Mark → Bool
is_grace m = k.is_grace (token_of_mark m)

abbrev pub opens_beam : Mark → Bool
opens_beam m = k.opens_beam (token_of_mark m)

abbrev pub closes_beam : Mark → Bool
closes_beam m = k.closes_beam (token_of_mark m)

abbrev pub opens_group : Mark → Bool
opens_group m = k.opens_group (token_of_mark m)

abbrev pub closes_group : Mark → Bool
closes_group m = k.closes_group (token_of_mark m)

-- ---- fates

-- the first mark behind a number that is sought
abbrev pub next_of : (Mark → Bool) → List Mark → ℕ → Option Mark
next_of sought marks number = first_of sought (drop (number + 1) marks)

-- the first of two marks, where the other is none or stands behind it
abbrev pub if_before : Option Mark → Option Mark → Option Mark
if_before None other = None
if_before (Some mark) None = Some mark
if_before (Some mark) (Some other) = if leb other.number mark.number then None else Some mark

-- what took it, if anything did
abbrev pub taken_by : Option Mark → Fate → Fate
taken_by (Some letter) missing = f.Taken letter
taken_by None missing = missing

-- what replaced it before that, or else what took it
abbrev pub replaced_or : Option Mark → Fate → Fate
replaced_or (Some other) fate = f.Replaced other
replaced_or None fate = fate

abbrev pub of_two : Option Mark → Option Mark → Fate → Fate
of_two taker other missing = replaced_or (if_before other taker) (taken_by taker missing)

-- an accidental alters the first letter behind it
abbrev pub sign_fate : List Mark → ℕ → Fate
sign_fate marks number = of_two (next_of is_letter marks number) (next_of is_sign marks number) f.NoLetter

-- a grace marks the next note that a letter opens
abbrev pub grace_fate : List Mark → ℕ → Fate
grace_fate marks number = of_two (next_of opens_note marks number) (next_of is_grace marks number) f.NoNote

-- what takes a length before the letter cancels a tie
abbrev pub cancelled_or : Option Mark → Fate → Fate
cancelled_or (Some rest) fate = f.Cancelled rest
cancelled_or None fate = fate

-- a tie ends at the next note that a letter opens
abbrev pub tie_fate : List Mark → ℕ → Fate
tie_fate marks number =
    let letter = next_of opens_note marks number in
    cancelled_or (if_before (next_of (λ m. m.took_length) marks number) letter) (taken_by letter f.NoNote)

-- a letter joins the last note where it stores nothing
abbrev pub chord_by : Option Mark → Fate
chord_by (Some letter) = if is_some letter.stored then f.Opened letter else f.Joined letter
chord_by None = f.NoLetter

-- the letter behind a `^` joins a note or, where it finds none, opens one
abbrev pub chord_fate : List Mark → ℕ → Fate
chord_fate marks number = chord_by (next_of is_letter marks number)

-- what was opened is closed by the first that closes it, unless another opening replaces it before
abbrev pub closed_by : Option Mark → ℕ → Fate
closed_by (Some close) end = f.Closed
closed_by None end = f.NoEnd end

abbrev pub opening_fate : Option Mark → Option Mark → ℕ → Fate
opening_fate close other end = replaced_or (if_before other close) (closed_by close end)

-- a `}`, a `)`
abbrev pub beam_fate : List Mark → ℕ → Fate
beam_fate marks number = opening_fate (next_of closes_beam marks number) (next_of opens_beam marks number) 125

abbrev pub group_fate : List Mark → ℕ → Fate
group_fate marks number = opening_fate (next_of closes_group marks number) (next_of opens_group marks number) 41
