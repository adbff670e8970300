-- Records in lent cells, each of `size` words. Assumes nothing.
use Rattle.std.specs.Prelude.{ℕ, ◌≡◌, ◌+◌, ◌-◌, ◌*◌, ◌≤◌, List, ◌++◌, ℤ, length, take, drop}
use Rattle.rules.specs.Words.{zeros}

-- the cells with these words from `at` on
abbrev pub written : List ℤ → ℕ → List ℤ → List ℤ
written l at words = take at l ++ (words ++ drop (at + length words) l)

-- the words of record `number`
abbrev pub record_at : ℕ → List ℤ → ℕ → List ℤ
record_at size l number = take size (drop (number * size) l)

-- record `number` with these words
abbrev pub with_record : ℕ → List ℤ → ℕ → List ℤ → List ℤ
with_record size l number words = written l (number * size) words

-- record `number` changed by f
abbrev pub changed : ℕ → (List ℤ → List ℤ) → List ℤ → ℕ → List ℤ
changed size f l number = with_record size l number (f (record_at size l number))

-- all words from one on are 0
abbrev pub BlankFrom : ℕ → List ℤ → Type 0
BlankFrom at l = drop at l ≡ zeros (length l - at)

-- record `number` is all 0, where there is room for it
abbrev pub BlankRecord : ℕ → List ℤ → ℕ → Type 0
BlankRecord size l number = number * size + size ≤ length l → record_at size l number ≡ zeros size

-- a step on the part from record `from` on
abbrev pub on_part : ℕ → ℕ → (List ℤ → List ℤ) → List ℤ → List ℤ
on_part size from f l = take (from * size) l ++ f (drop (from * size) l)

-- a word holds numbers below this one
abbrev pub word_limit : ℕ
word_limit = 2147483648
