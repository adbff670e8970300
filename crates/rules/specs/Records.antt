-- What is stored: notes, bars, diagnostics (specification, 13); before them, four words about optional values and lists. Lists have the latest first. Assumes nothing.
use Rattle.std.specs.Prelude.{ℕ, Bool, true, false, ◌||◌, List, [], ◌∷◌, ◌++◌, ℤ, eqb}
use Rattle.std.proofs.Math.Option.{Option, none, some}
use Rattle.rules.specs.Values.{Meter}

-- ---- optional values and lists

-- a, else b
infixr 60 ◌or◌
abbrev pub ◌or◌ : {A : Type 0} → Option A → Option A → Option A
none or b = b
some a or b = some a

abbrev pub is_some : {A : Type 0} → Option A → Bool
is_some none = false
is_some (some a) = true

-- f a where there is an a, else b
abbrev pub given : {A B : Type 0} → Option A → B → (A → B) → B
given none b f = b
given (some a) b f = f a

abbrev pub is_empty : {A : Type 0} → List A → Bool
is_empty [] = true
is_empty (x ∷ l) = false

-- ---- notes

-- a pitch: the letter's place, step 0 to 6 from C, octave 0 to 9, alteration -2 to 2
pub record Pitch : Type 0 where
  pub place : ℕ
  pub step : ℕ
  pub octave : ℕ
  pub alter : ℤ

-- the place of the storing token; kind (0 note, 1 rest, 2 grace, 3 slashed grace, 4 whole-bar rest); duration; dots
pub record Heading : Type 0 where
  pub place : ℕ
  pub kind : ℕ
  pub duration : ℕ
  pub dots : ℕ

-- whether a tie starts and ends here; beam (0 none, 1 begin, 2 continue, 3 end); tuplet actual and normal (0, 0: none); marks (true trill, false fermata)
pub record Notations : Type 0 where
  pub tie_start : Bool
  pub tie_end : Bool
  pub beam : ℕ
  pub actual : ℕ
  pub normal : ℕ
  pub marks : List Bool

-- a stored note is any record, rests included
pub record Note : Type 0 where
  pub heading : Heading
  pub pitches : List Pitch
  pub notations : Notations

-- a rest, of either kind
abbrev pub is_rest_kind : ℕ → Bool
is_rest_kind kind = eqb kind 1 || eqb kind 4

-- a grace, of either kind
abbrev pub is_grace_kind : ℕ → Bool
is_grace_kind kind = eqb kind 2 || eqb kind 3

-- ---- bars

-- a bar's notes; clef, fifths and meter, none where not set; left and right (0 normal, 1 double, 2 repeat start, 3 repeat end)
pub record Bar : Type 0 where
  pub notes : List Note
  pub clef : Option ℕ
  pub fifths : Option ℤ
  pub meter : Option Meter
  pub left : ℕ
  pub right : ℕ

-- the notes of bars
abbrev pub notes_of : List Bar → List Note
notes_of [] = []
notes_of (b ∷ bs) = b.notes ++ notes_of bs

-- ---- diagnostics

-- a line; a line with field; a data place
pub data Position : Type 0 where
  at_line at_field at_data : ℕ → Position

-- a part of the text by offsets from 0, end exclusive; the value `()`; a number
pub data Value : Type 0 where
  text_part : ℕ → ℕ → Value
  parentheses : Value
  number : ℕ → Value

-- number d1 to d20, where, and the value
pub record Diagnostic : Type 0 where
  pub number : ℕ
  pub position : Position
  pub value : Value
