-- The look-back from one letter (specification, 14), in its own clauses: each definition scans the tokens before the letter, the latest first.
-- What is stored is worked out by the rules from those tokens; where there is no earlier letter, digit token or barline, the data's start is taken. Assumes nothing.
use Rattle.std.specs.Prelude.{ℕ, suc, ◌-◌, ◌%◌, Bool, true, false, not, ◌&&◌, ◌||◌, List, [], ◌∷◌, ◌++◌, ℤ, pos, negsuc, length, take, drop, get_or, eqb, ltb, if◌then◌else◌}
use Rattle.std.proofs.Math.Option
use Rattle.std.proofs.Math.Option.{Option, none, some}
use Rattle.rules.specs.Text.{bytes, begins, Part}
use Rattle.rules.specs.Values.{Length, whole_bars_of}
use Rattle.rules.specs.Tokens.{Item, octave_in, duration_in, key_in}
use Rattle.rules.specs.Records.{◌or◌, is_some, given, is_empty, Note}
use Rattle.rules.specs.Rules.{Attributes, whole_bar_rest, stores, state_after}

-- ---- three ways to look back; `stop` and `what` are told a token and those before it

-- the latest that `what` gives since the last `stop`
abbrev pub latest : {A : Type 0} → (Item → List Item → Bool) → (Item → List Item → Option A) → List Item → Option A
latest stop what [] = none
latest stop what (x ∷ before) = if stop x before then none else what x before or latest stop what before

-- how many tokens since the last `stop` are `what`
abbrev pub count : (Item → List Item → Bool) → (Item → List Item → Bool) → List Item → ℕ
count stop what [] = 0
count stop what (x ∷ before) = if stop x before then 0 else if what x before then suc (count stop what before) else count stop what before

-- back to the data's start
abbrev pub never : Item → List Item → Bool
never x before = false

-- the elements that pass the test
abbrev pub keep : {A : Type 0} → (A → Bool) → List A → List A
keep p [] = []
keep p (x ∷ xs) = if p x then x ∷ keep p xs else keep p xs

-- ---- what the text of a token says

-- the text of a token of the data, by its offset and its size
abbrev pub text_of : Part → Item → List ℕ
text_of line x = take x.size (drop (x.offset - line.start) line.bytes)

-- a letter, always a token A to G: its step, 0 to 6 from C
abbrev pub letter_of : List ℕ → Option ℕ
letter_of text =
    if begins (bytes "C") text then some 0
    else if begins (bytes "D") text then some 1
    else if begins (bytes "E") text then some 2
    else if begins (bytes "F") text then some 3
    else if begins (bytes "G") text then some 4
    else if begins (bytes "A") text then some 5
    else if begins (bytes "B") text then some 6
    else none

-- `x`, `xx` or longer, `b`, `bb` or longer, `n` (1, 2, -1, -2, 0)
abbrev pub sign_of : List ℕ → Option ℤ
sign_of text =
    if begins (bytes "xx") text then some (pos 2)
    else if begins (bytes "x") text then some (pos 1)
    else if begins (bytes "bb") text then some (negsuc 1)
    else if begins (bytes "b") text then some (negsuc 0)
    else if begins (bytes "n") text then some (pos 0)
    else none

-- `g` (true) or `q` (false)
abbrev pub grace_of : List ℕ → Option Bool
grace_of text =
    if begins (bytes "g") text then some true
    else if begins (bytes "qq") text then none
    else if begins (bytes "q") text then some false
    else none

-- `qq` (true) or `r` (false)
abbrev pub group_of : List ℕ → Option Bool
group_of text =
    if begins (bytes "qq") text then some true
    else if begins (bytes "r") text then some false
    else none

-- a barline token: `/` `//` `//:` `://` `://:`
abbrev pub is_bar : List ℕ → Bool
is_bar text = begins (bytes "/") text || begins (bytes "://") text

-- `^`
abbrev pub is_caret : List ℕ → Bool
is_caret text = begins (bytes "^") text

-- `-`
abbrev pub is_dash : List ℕ → Bool
is_dash text = begins (bytes "-") text

-- how many whole-bar rests an `=` token stores: its count, 0 for a bad one and for other tokens
abbrev pub whole_bar_rests : List ℕ → ℕ
whole_bar_rests text = if begins (bytes "=") text then Option.get_or (whole_bars_of (drop 1 text)) 0 else 0

-- a barline stands between two of them, so before its last one where there are two or more
abbrev pub has_inner_bar : List ℕ → Bool
has_inner_bar text = ltb 1 (whole_bar_rests text)

-- ---- octave and pattern

-- the last in-range octave token before it, else 4
abbrev pub back_octave : List Item → ℕ
back_octave before = Option.get_or (latest never (λ x b. octave_in x.token) before) 4

-- a length without dots: 4 is a quarter, 5 an eighth
abbrev pub undotted : ℕ → Length
undotted duration = record { duration = duration; dots = 0 }

-- the last digit token's pattern; none: a quarter
abbrev pub back_pattern : List Item → List Length
back_pattern before = Option.get_or (latest never (λ x b. duration_in x.token) before) (undotted 4 ∷ [])

-- ---- letters, signs, barlines and groups in the data

module _ (line : Part) where
  -- a letter
  abbrev pub is_letter : Item → List Item → Bool
  is_letter x before = is_some (letter_of (text_of line x))

  -- the latest of the signs since the previous letter
  abbrev pub back_accidental : List Item → Option ℤ
  back_accidental before = latest is_letter (λ x b. sign_of (text_of line x)) before

  -- that of the last letter so marked, same step and octave, since the last barline, inner ones too
  abbrev pub back_marked : ℕ → ℕ → List Item → Option ℤ
  back_marked step octave before = latest (λ x b. is_bar (text_of line x) || has_inner_bar (text_of line x)) (λ x b. given (letter_of (text_of line x)) none (λ n. if eqb step n && eqb octave (back_octave b) then back_accidental b else none)) before

  -- `^` since the previous letter
  abbrev pub back_chord : List Item → Bool
  back_chord before = is_some (latest is_letter (λ x b. if is_caret (text_of line x) then some x else none) before)

  -- the last of `qq`, `r` is `qq`
  abbrev pub in_grace_group : List Item → Bool
  in_grace_group before = Option.get_or (latest never (λ x b. group_of (text_of line x)) before) false

-- there is a last note and it is no rest: neither of kind 1 nor a whole-bar rest, 4
abbrev pub is_no_rest : List Note → Bool
is_no_rest [] = false
is_no_rest (n ∷ ns) = not (eqb n.heading.kind 1 || eqb n.heading.kind 4)

-- ---- key, chord, grace and length, from the fields' attributes and the data

module _ (k : Attributes) (line : Part) where
  -- the notes stored since the last barline: what the tokens since then store; an inner barline stands before the last rest of its `=`
  abbrev pub since_barline : List Item → List Note
  since_barline [] = []
  since_barline (x ∷ before) =
      if is_bar (text_of line x) then []
      else if has_inner_bar (text_of line x) then whole_bar_rest x.place ∷ []
      else stores x.place x.token (state_after k before) ++ since_barline before

  -- the key last taken, a `$` being taken exactly when no stored note's place lies between the last barline and it; a keysig field comes before any `$`
  abbrev pub back_key : List Item → List ℤ
  back_key before = Option.get_or (latest never (λ x b. if is_empty (since_barline b) then given (key_in x.token) none (λ key. some key.alters) else none) before) k.key_alters

  -- it joins a chord exactly when `^` stands since the previous letter and the last note stored since the last barline is there and no rest
  abbrev pub back_joins : List Item → Bool
  back_joins before = back_chord line before && is_no_rest (since_barline before)

  -- else it opens a note
  abbrev pub is_opening : Item → List Item → Bool
  is_opening x before = is_some (letter_of (text_of line x)) && not (back_joins before)

  -- the latest `g` (true) or `q` (false) since the last opening letter
  abbrev pub back_grace_sign : List Item → Option Bool
  back_grace_sign before = latest is_opening (λ x b. grace_of (text_of line x)) before

  -- `g` or `q` rules; without one it is grace if the last of `qq`, `r` is `qq`
  abbrev pub back_grace : List Item → Bool
  back_grace before = given (back_grace_sign before) (in_grace_group line before) (λ slashed. true)

  -- `g`, slashed (3); `q`, grace (2); without one 2 in a group, else 0: no grace
  abbrev pub back_kind : List Item → ℕ
  back_kind before = given (back_grace_sign before) (if in_grace_group line before then 2 else 0) (λ slashed. if slashed then 3 else 2)

  -- k: the `-` tokens and non-grace openings since the last digit token
  abbrev pub back_taken : List Item → ℕ
  back_taken before = count (λ x b. is_some (duration_in x.token)) (λ x b. is_dash (text_of line x) || (is_opening x b && not (back_grace b))) before

  -- element k modulo the pattern's size
  abbrev pub back_element : List Item → Length
  back_element before = let pattern = back_pattern before in get_or pattern (back_taken before % length pattern) (undotted 4)

  -- `g`, eighth, no dots; other lengths: the element
  abbrev pub back_length : List Item → Length
  back_length before = given (back_grace_sign before) (back_element before) (λ slashed. if slashed then undotted 5 else back_element before)

  -- the sign; else that of the last letter so marked; else the key's
  abbrev pub back_alter : List Item → ℕ → ℤ
  back_alter before step = Option.get_or (back_accidental line before or back_marked line step (back_octave before) before) (get_or (back_key before) step (pos 0))
