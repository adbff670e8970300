-- How tokens are cut from the left, by the text alone (specification, 3). Assumes nothing.
use Rattle.std.specs.Prelude.{ℕ, ◌+◌, Bool, ◌||◌, List, [], ◌∷◌, length, eqb, if◌then◌else◌}
use Prim.Native.Char.{code}
use Rattle.rules.specs.Text.{bytes, among, is_digit, is_note_letter, run_length, begins}
use Rattle.rules.specs.Characters.{character_size, non_blanks_size}

-- digits and dots follow a digit
abbrev pub is_duration : ℕ → Bool
is_duration b = is_digit b || eqb b (code ".")

-- `x b n A-G [ ]` follow `$`
abbrev pub is_key_byte : ℕ → Bool
is_key_byte b = is_note_letter b || among (bytes "xbn[]") b

-- digits and `/ c . +` follow `@`
abbrev pub is_meter_byte : ℕ → Bool
is_meter_byte b = is_digit b || among (bytes "/c.+") b

-- the length of the first of these that the text begins with, else 1: the longest, where longer ones stand first
abbrev pub longest_of : List (List ℕ) → List ℕ → ℕ
longest_of [] xs = 1
longest_of (t ∷ ts) xs = if begins t xs then length t else longest_of ts xs

-- the length of the token at the start of a text, in bytes: a run of `'`, of `,`, of `x` or of `b`; a digit with following digits and dots;
-- `;` or `=` with following digits; `%` with up to 3 non-blank characters; `$`, `@` with the bytes above;
-- the longest of `://:`, `://`, `:`; of `//:`, `//`, `/`; of `qq`, `q`; else one character
unfoldable pub token_size : List ℕ → ℕ
token_size [] = 0
token_size (b ∷ bs) =
    if among (bytes "',xb") b then 1 + run_length (λ c. eqb c b) bs
    else if is_digit b then 1 + run_length is_duration bs
    else if among (bytes ";=") b then 1 + run_length is_digit bs
    else if eqb b (code "%") then 1 + non_blanks_size 3 bs
    else if eqb b (code "$") then 1 + run_length is_key_byte bs
    else if eqb b (code "@") then 1 + run_length is_meter_byte bs
    else if eqb b (code ":") then longest_of (bytes "://:" ∷ bytes "://" ∷ []) (b ∷ bs)
    else if eqb b (code "/") then longest_of (bytes "//:" ∷ bytes "//" ∷ []) (b ∷ bs)
    else if eqb b (code "q") then longest_of (bytes "qq" ∷ []) (b ∷ bs)
    else character_size (b ∷ bs)
