-- Characters (S-1.1 to S-1.5, S-3.1): well-formed UTF-8, White_Space, trimming. A text is the list of its bytes; a character is what stands at the start of a text. Assumes nothing.
use Rattle.std.specs.Prelude.{ℕ, zero, suc, ◌+◌, ◌-◌, ◌*◌, ◌%◌, Bool, true, false, not, ◌&&◌, ◌||◌, List, [], ◌∷◌, length, drop, get_or, eqb, leb, ltb, if◌then◌else◌}
use Rattle.rules.specs.Text.{run_length, Part, without}

-- a range of numbers: its first and its last
abbrev pub Range : Type 0
Range = ℕ × ℕ

abbrev pub within : Range → ℕ → Bool
within r n = leb r.0 n && leb n r.1

-- whether n is in one of these ranges
abbrev pub within_one : List Range → ℕ → Bool
within_one [] n = false
within_one (r ∷ rs) n = within r n || within_one rs n

-- ---- well-formed UTF-8

-- the bytes that continue a character
abbrev pub tail : Range
tail = (128, 191)

-- well-formed characters by the ranges of their bytes (Unicode, table 3-7): no overlong form, no surrogate, nothing above U+10FFFF
abbrev pub rows : List (List Range)
rows =
    ((0, 127) ∷ [])
    ∷ ((194, 223) ∷ tail ∷ [])
    ∷ ((224, 224) ∷ (160, 191) ∷ tail ∷ [])
    ∷ ((225, 236) ∷ tail ∷ tail ∷ [])
    ∷ ((237, 237) ∷ (128, 159) ∷ tail ∷ [])
    ∷ ((238, 239) ∷ tail ∷ tail ∷ [])
    ∷ ((240, 240) ∷ (144, 191) ∷ tail ∷ tail ∷ [])
    ∷ ((241, 243) ∷ tail ∷ tail ∷ tail ∷ [])
    ∷ ((244, 244) ∷ (128, 143) ∷ tail ∷ tail ∷ [])
    ∷ []

-- the text begins with bytes of these ranges
abbrev pub fits : List Range → List ℕ → Bool
fits [] xs = true
fits (r ∷ rs) [] = false
fits (r ∷ rs) (x ∷ xs) = within r x && fits rs xs

-- the size of the first of these rows that the text begins with; 0 where it begins with none
abbrev pub first_fit : List (List Range) → List ℕ → ℕ
first_fit [] xs = 0
first_fit (r ∷ rs) xs = if fits r xs then length r else first_fit rs xs

-- the size of the well-formed character at the start of a text; 0 where none stands there
unfoldable pub formed_size : List ℕ → ℕ
formed_size xs = first_fit rows xs

-- the text is well-formed behind its first `skip` bytes
unfoldable pub formed_after : ℕ → List ℕ → Bool
formed_after skip [] = true
formed_after zero (b ∷ bs) = ltb 0 (formed_size (b ∷ bs)) && formed_after (formed_size (b ∷ bs) - 1) bs
formed_after (suc skip) (b ∷ bs) = formed_after skip bs

-- well-formed UTF-8
abbrev pub is_formed : List ℕ → Bool
is_formed text = formed_after 0 text

-- ---- characters. Of a text that isn't well-formed they are defined too, and don't matter: it is refused

abbrev pub continues : ℕ → Bool
continues b = within tail b

-- the size of the character at the start of a text, in bytes: of a byte below 128, 1; else that byte and those that continue it
unfoldable pub character_size : List ℕ → ℕ
character_size [] = 0
character_size (b ∷ bs) = if ltb b 128 then 1 else 1 + run_length continues bs

-- the characters that begin with this byte
abbrev pub begun : ℕ → ℕ
begun b = if continues b then 0 else 1

-- how many characters these bytes are
unfoldable pub characters_in : List ℕ → ℕ
characters_in [] = 0
characters_in (b ∷ bs) = begun b + characters_in bs

-- the low six bits of byte i
abbrev pub six_bits : List ℕ → ℕ → ℕ
six_bits xs i = get_or xs i 0 % 64

-- the code point of a character of this size at the start of a text
abbrev pub code_of : ℕ → List ℕ → ℕ
code_of size xs = let first = get_or xs 0 0 in
    if eqb size 1 then first
    else if eqb size 2 then first % 32 * 64 + six_bits xs 1
    else if eqb size 3 then (first % 16 * 64 + six_bits xs 1) * 64 + six_bits xs 2
    else ((first % 8 * 64 + six_bits xs 1) * 64 + six_bits xs 2) * 64 + six_bits xs 3

-- the code point of the character at the start of a text
unfoldable pub code_point : List ℕ → ℕ
code_point xs = code_of (character_size xs) xs

-- ---- blanks

-- White_Space (Unicode, PropList)
abbrev pub white_space : List Range
white_space = (9, 13) ∷ (32, 32) ∷ (133, 133) ∷ (160, 160) ∷ (5760, 5760) ∷ (8192, 8202) ∷ (8232, 8233) ∷ (8239, 8239) ∷ (8287, 8287) ∷ (12288, 12288) ∷ []

-- the character at the start of a text is blank
unfoldable pub is_blank : List ℕ → Bool
is_blank xs = within_one white_space (code_point xs)

-- the byte at the start of a text begins a blank, or continues the character before it
abbrev pub in_blank : List ℕ → Bool
in_blank [] = false
in_blank (b ∷ bs) = continues b || is_blank (b ∷ bs)

-- the size of the blanks at the start of a text, in bytes
abbrev pub blanks_size : List ℕ → ℕ
blanks_size [] = 0
blanks_size (b ∷ bs) = if in_blank (b ∷ bs) then 1 + blanks_size bs else 0

-- the text is blank throughout
abbrev pub all_blank : List ℕ → Bool
all_blank [] = true
all_blank (b ∷ bs) = in_blank (b ∷ bs) && all_blank bs

-- the size of the non-blanks at the start of a text, n characters at most, in bytes
unfoldable pub non_blanks_size : ℕ → List ℕ → ℕ
non_blanks_size zero xs = 0
non_blanks_size (suc n) [] = 0
non_blanks_size (suc n) (b ∷ bs) = if is_blank (b ∷ bs) then 0 else character_size (b ∷ bs) + non_blanks_size n (drop (character_size (b ∷ bs)) (b ∷ bs))

-- ---- trimming

-- the text without the blanks at its end: cut where a character begins and all is blank from there on
abbrev pub trim_end : List ℕ → List ℕ
trim_end [] = []
trim_end (b ∷ bs) = if not (continues b) && all_blank (b ∷ bs) then [] else b ∷ trim_end bs

-- a part without the blanks at its start and at its end
abbrev pub trim : Part → Part
trim p = let q = without (blanks_size p.bytes) p in record { start = q.start; bytes = trim_end q.bytes }
