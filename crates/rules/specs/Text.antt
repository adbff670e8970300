-- Bytes, classes of bytes, runs and parts of a text. A text is the list of its bytes. Assumes nothing.
use Rattle.std.specs.Prelude.{ℕ, suc, ◌+◌, Bool, true, false, ◌&&◌, ◌||◌, List, [], ◌∷◌, length, drop, eqb, leb, if◌then◌else◌}
use Prim.Native.Char.{code}
use Prim.Native.String as text
use Prim.Native.String.{String}

-- the bytes of a quoted ASCII text
abbrev pub bytes : String → List ℕ
bytes text.[] = []
bytes (text.◌∷◌ c s) = code c ∷ bytes s

-- ---- classes of bytes

-- whether b is one of these
abbrev pub among : List ℕ → ℕ → Bool
among [] b = false
among (k ∷ ks) b = eqb b k || among ks b

abbrev pub is_digit : ℕ → Bool
is_digit b = leb (code "0") b && leb b (code "9")

-- a letter token, A to G
abbrev pub is_note_letter : ℕ → Bool
is_note_letter b = leb (code "A") b && leb b (code "G")

-- an ASCII letter
abbrev pub is_alphabetic : ℕ → Bool
is_alphabetic b = (leb (code "A") b && leb b (code "Z")) || (leb (code "a") b && leb b (code "z"))

-- ---- runs

-- how many bytes from the start have the property
abbrev pub run_length : (ℕ → Bool) → List ℕ → ℕ
run_length p [] = 0
run_length p (b ∷ bs) = if p b then 1 + run_length p bs else 0

-- every byte has the property
abbrev pub every : (ℕ → Bool) → List ℕ → Bool
every p [] = true
every p (b ∷ bs) = p b && every p bs

-- some byte has the property
abbrev pub has : (ℕ → Bool) → List ℕ → Bool
has p [] = false
has p (b ∷ bs) = p b || has p bs

-- the text begins with these bytes
abbrev pub begins : List ℕ → List ℕ → Bool
begins [] xs = true
begins (k ∷ ks) [] = false
begins (k ∷ ks) (x ∷ xs) = eqb x k && begins ks xs

-- the text is exactly these bytes
abbrev pub is_text : List ℕ → List ℕ → Bool
is_text ks xs = eqb (length xs) (length ks) && begins ks xs

-- where b first stands in the list, from 0
abbrev pub index_in : List ℕ → ℕ → ℕ
index_in [] b = 0
index_in (k ∷ ks) b = if eqb b k then 0 else suc (index_in ks b)

-- ---- parts

-- a part of the text: the offset where it starts, from 0, and its bytes
pub record Part : Type 0 where
  pub start : ℕ
  pub bytes : List ℕ

-- the offset behind a part
abbrev pub end_of : Part → ℕ
end_of p = p.start + length p.bytes

-- a part without its first n bytes
abbrev pub without : ℕ → Part → Part
without n p = record { start = p.start + n; bytes = drop n p.bytes }
