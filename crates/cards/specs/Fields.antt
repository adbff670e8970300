-- Fields in bytes: a number of known width, a bit map, a field under a bit; tests of a field. Assumes nothing.
use Rattle.std.specs.Prelude.{ℕ, zero, suc, ◌+◌, ◌*◌, ◌/◌, ◌%◌, Bool, true, not, cond, ◌&&◌, List, [], ◌∷◌, ◌++◌, eqb, leb}

-- a number in `width` bytes; low bytes come first
unfoldable pub number : ℕ → ℕ → List ℕ
number zero n = []
number (suc width) n = n % 256 ∷ number width (n / 256)

-- a bit stands when its first word isn't 0
abbrev pub stands : ℕ → Bool
stands first = not (eqb first 0)

-- only the fields whose bit stands
abbrev pub under : Bool → List ℕ → List ℕ
under bit fields = cond bit fields []

-- a bit map, from bit 0
unfoldable pub bit_map : List Bool → ℕ
bit_map [] = 0
bit_map (bit ∷ bits) = cond bit 1 0 + 2 * bit_map bits

-- fields in a row
unfoldable pub in_row : List (List ℕ) → List ℕ
in_row [] = []
in_row (field ∷ fields) = field ++ in_row fields

-- the bytes or words of each, one after the other
unfoldable pub each : {A B : Type 0} → (A → List B) → List A → List B
each f [] = []
each f (x ∷ l) = f x ++ each f l

-- all of these tests
unfoldable pub holds : List Bool → Bool
holds [] = true
holds (test ∷ tests) = test && holds tests

unfoldable pub every : {A : Type 0} → (A → Bool) → List A → Bool
every p [] = true
every p (x ∷ l) = p x && every p l

-- from a to b
abbrev pub between : ℕ → ℕ → ℕ → Bool
between a b n = leb a n && leb n b
