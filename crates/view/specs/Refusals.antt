-- The numbers of refusals. Assumes nothing.
use Rattle.std.specs.Prelude.{ℕ, ◌≡◌, Option, Some, None}
use Rattle.rules.specs.Refusals as rules
use Rattle.tokens.specs.declared.cut.Place.{Place}
use Rattle.view.specs.declared.refusal.Refusal.{Refusal}
use Rattle.view.specs.declared.refusal.Refusal.TheVariants as r
use Rattle.view.specs.declared.refusal.Stop.{Stop}

abbrev pub refusal_number : Refusal → ℕ
refusal_number r.TooLong = 1
refusal_number r.FewCells = 2
refusal_number r.Malformed = 3
refusal_number r.Blank = 4
refusal_number r.NoData = 5
refusal_number r.TooManyNotes = 7
refusal_number r.NoNote = 8
refusal_number r.NoPitch = 9
refusal_number r.NoMark = 10
refusal_number r.NoFigure = 11
refusal_number r.NoBar = 12
refusal_number r.NoRecord = 13

-- the number of a place, 0 for none
abbrev pub place_number : Option Place → ℕ
place_number (Some place) = place.0
place_number None = 0

-- the refusal of the rules that it is
abbrev pub stop_in : Stop → rules.Refusal
stop_in s = rules.refusal (refusal_number s.refusal) (place_number s.place)

-- a refusal of the whole text has no place
abbrev pub HasNoPlace : Refusal → Stop → Type 0
HasNoPlace e s = s ≡ record { refusal = e; place = None }
