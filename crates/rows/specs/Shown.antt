-- Characters as they are shown. Assumes nothing.
use Rattle.std.specs.Prelude.{ℕ, zero, suc, ◌+◌, ◌≡◌, ◌<◌, Bool, ◌&&◌, List, [], ◌∷◌, ◌++◌, length, take, drop, leb, if◌then◌else◌, Option, MatchOption}
use Rattle.std.specs.Iterator.{Count, at_most}
use denote.Ref.{Bor}
use Rattle.rules.specs.Characters.{is_formed}
use Rattle.rows.specs.declared.characters.Characters.{Characters}

-- whether the first n bytes are there and well-formed
abbrev pub formed_in : ℕ → List ℕ → Bool
formed_in n rest = leb n (length rest) && is_formed (take n rest)

-- the size of the character that the bytes begin with: a byte that is part of no well-formed character stands for one
abbrev pub shown_size : List ℕ → ℕ
shown_size rest =
    if formed_in 1 rest then 1
    else if formed_in 2 rest then 2
    else if formed_in 3 rest then 3
    else if formed_in 4 rest then 4
    else 1

-- the size of the first characters, so many at most
abbrev pub beginning_size : ℕ → List ℕ → ℕ
beginning_size zero rest = 0
beginning_size (suc most) [] = 0
beginning_size (suc most) (b ∷ rest) =
    let size = shown_size (b ∷ rest) in
    size + beginning_size most (drop size (b ∷ rest))

-- it is the first character of the bytes, and these stand behind it
pub record IsFirstCharacter (bytes character behind : List ℕ) : Type 0 where
  pub some : 0 < length character
  pub parts : bytes ≡ character ++ behind
  pub size : character ≡ take (shown_size bytes) bytes

-- the next character is given, or there is none
abbrev pub GivesCharacter : Characters → Option (Bor (List ℕ)) → Characters → Type 0
GivesCharacter s r t = MatchOption r (s.rest.now ≡ []) (λ c. IsFirstCharacter s.rest.now c.now t.rest.now)

-- no more characters are left than bytes
abbrev pub characters_at_most : Characters → Count
characters_at_most s = at_most (length s.rest.now)
