-- The data of a well-formed text is well-formed: lines, keys and blanks end where a character begins. Assumes nothing.
use Prim.Native.Nat.{ℕ, zero, suc, ◌+◌, ◌<◌}
use Prim.Native.Char.{code}
use mathlib.Core.Path.{◌≡◌, refl, sym, ap, ◌∙◌}
use mathlib.Core.Bool.{Bool, true, false, not, cond, ◌&&◌, ◌||◌}
use mathlib.Core.Option
use mathlib.Core.Option.{Option, none, some}
use mathlib.Core.List.{List, [], ◌∷◌}
use native.Mathlib.Omega.{arith}
use native.Mathlib.Numerals.{one-add, add-one}
use borrow.Author.Tests.{eqb-true}
use lib.Dec.{eqb, ltb}
use lib.ListN.{get_or, take, drop}
use lib.Seq.{drop-drop, get_or-drop}
use Rattle.rules.specs.Text.{bytes, begins, Part, without}
use Rattle.rules.specs.Characters.{formed_after, is_formed, continues, is_blank, in_blank, blanks_size, all_blank, trim_end, trim}
use Rattle.rules.specs.Records.{given}
use Rattle.rules.specs.Fields.{line_size, line_at, lines_after, lines_of, key_size, is_field, field_of, is_key, field_next, fields_after, in_field_form, fields_of, data_of, Line, Field, Fields}
use Rattle.rules.specs.Agreement.{All}
use Rattle.theorems.proofs.Lists.{cond_ind, cond-case, both_true}
use Rattle.theorems.proofs.Characters.{not_low, cut-formed, low-on}

-- behind a byte below 128, or at the end
low-next : (n : ℕ) (xs : List ℕ) → get_or xs n 0 < 128 → is_formed xs ≡ true → is_formed (drop (n + 1) xs) ≡ true
low-next n xs h e = ap is_formed (sym (drop-drop 1 n xs)) ∙ first (drop n xs) (rw (get_or-drop n xs 0 0 ∙ ap (λ k. get_or xs k 0) q) h) (cut-formed n xs e (not_low (get_or xs n 0) h)).1
  where
    q : n + 0 ≡ n
    q = omega arith

    first : (ys : List ℕ) → get_or ys 0 0 < 128 → is_formed ys ≡ true → is_formed (drop 1 ys) ≡ true
    first [] h e = e
    first (y ∷ ys) h e = low-on y ys h e

-- ---- trimming

-- the blanks at the start end before a byte that continues none
blanks-end : (xs : List ℕ) → continues (get_or xs (blanks_size xs) 0) ≡ false
blanks-end [] = refl
blanks-end (x ∷ xs) = at (in_blank (x ∷ xs)) refl (blanks-end xs)
  where
    neither : (s t : Bool) → s || t ≡ false → s ≡ false
    neither true t e = e
    neither false t e = refl

    at : (t : Bool) → in_blank (x ∷ xs) ≡ t → continues (get_or xs (blanks_size xs) 0) ≡ false → continues (get_or (x ∷ xs) (cond t (1 + blanks_size xs) 0) 0) ≡ false
    at true e h = rw one-add h
    at false e h = neither (continues x) (is_blank (x ∷ xs)) e

-- how many bytes stay
kept_size : List ℕ → ℕ
kept_size [] = 0
kept_size (x ∷ xs) = cond (not (continues x) && all_blank (x ∷ xs)) 0 (suc (kept_size xs))

trim_end_lem : (xs : List ℕ) → (trim_end xs ≡ take (kept_size xs) xs) × (continues (get_or xs (kept_size xs) 0) ≡ false)
unfolding kept_size
trim_end_lem [] = (refl, refl)
trim_end_lem (x ∷ xs) = at (continues x) refl (all_blank (x ∷ xs)) (trim_end_lem xs)
  where
    at : (t : Bool) → continues x ≡ t → (b : Bool) → (trim_end xs ≡ take (kept_size xs) xs) × (continues (get_or xs (kept_size xs) 0) ≡ false)
        → (cond (not t && b) [] (x ∷ trim_end xs) ≡ take (cond (not t && b) 0 (suc (kept_size xs))) (x ∷ xs)) × (continues (get_or (x ∷ xs) (cond (not t && b) 0 (suc (kept_size xs))) 0) ≡ false)
    at true e b h = (ap (λ l. x ∷ l) h.0, h.1)
    at false e true h = (refl, e)
    at false e false h = (ap (λ l. x ∷ l) h.0, h.1)

trim-formed : (p : Part) → is_formed p.bytes ≡ true → is_formed (trim p).bytes ≡ true
trim-formed p e =
    let xs : List ℕ = drop (blanks_size p.bytes) p.bytes in
    ap is_formed (trim_end_lem xs).0 ∙ (cut-formed (kept_size xs) xs (cut-formed (blanks_size p.bytes) p.bytes e (blanks-end p.bytes)).1 (trim_end_lem xs).1).0

-- ---- lines

-- a line ends before byte 10, or at the end
line-end : (xs : List ℕ) → get_or xs (line_size xs) 0 < 128
line-end [] = omega arith
line-end (x ∷ xs) = at (eqb x 10) refl (line-end xs)
  where
    at : (t : Bool) → eqb x 10 ≡ t → get_or xs (line_size xs) 0 < 128 → get_or (x ∷ xs) (cond (not t) (1 + line_size xs) 0) 0 < 128
    at true e h = omega (arith, eqb-true x 10 e)
    at false e h = rw one-add h

abbrev FormedLine : Line → Type 0
FormedLine l = is_formed l.content.bytes ≡ true

lines-formed : (skip number offset : ℕ) (xs : List ℕ) (before : List Line) → is_formed (drop skip xs) ≡ true → All FormedLine before → All FormedLine (lines_after skip number offset xs before)
unfolding lines_after
lines-formed skip number offset [] before e h = h
lines-formed zero number offset (x ∷ xs) before e h =
    let size : ℕ = line_size (x ∷ xs) in
    lines-formed size (number + 1) (offset + 1) xs (line_at number offset (x ∷ xs) ∷ before) (next size (low-next size (x ∷ xs) (line-end (x ∷ xs)) e))
    (trim-formed (record { start = offset; bytes = take size (x ∷ xs) }) (cut-formed size (x ∷ xs) e (not_low (get_or (x ∷ xs) size 0) (line-end (x ∷ xs)))).0, h)
  where
    next : (n : ℕ) → is_formed (drop (n + 1) (x ∷ xs)) ≡ true → is_formed (drop n xs) ≡ true
    next n g = sym (ap (λ k. is_formed (drop k (x ∷ xs))) (add-one n)) ∙ g
lines-formed (suc skip) number offset (x ∷ xs) before e h = lines-formed skip number (offset + 1) xs before e h

-- ---- fields

abbrev FormedValue : Option Field → Type 0
FormedValue none = Unit {0}
FormedValue (some f) = is_formed f.value.bytes ≡ true

abbrev FormedPart : Option Part → Type 0
FormedPart none = Unit {0}
FormedPart (some p) = is_formed p.bytes ≡ true

-- a field's value stands behind `:`
field-formed : (l : Line) → FormedLine l → FormedValue (field_of l)
field-formed l e = cond-case FormedValue (is_field xs) (λ f. trim-formed (without (key_size xs + 2) l.content) (behind f)) tt
  where
    xs : List ℕ
    xs = l.content.bytes

    n : ℕ
    n = 1 + key_size xs

    behind : is_field xs ≡ true → is_formed (drop (key_size xs + 2) xs) ≡ true
    behind f =
        let colon : get_or xs n 0 ≡ 58 = eqb-true (get_or xs n 0) 58 (both_true (begins (bytes "@") xs && ltb 0 (key_size xs)) (eqb (get_or xs n 0) (code ":")) f).1 in
        let q : key_size xs + 2 ≡ n + 1 = omega arith in
        ap (λ k. is_formed (drop k xs)) q ∙ low-next n xs (omega (arith, colon)) e

fields-formed : (ls : List Line) → All FormedLine ls → FormedPart (fields_after ls).data_value
unfolding fields_after
fields-formed [] h = tt
fields-formed (l ∷ before) h = at (field_of l) (field-formed l h.0) (fields-formed before h.1)
  where
    at : (o : Option Field) → FormedValue o → FormedPart (fields_after before).data_value → FormedPart (given o (fields_after before) (λ f. field_next f (fields_after before))).data_value
    at none v h = h
    at (some f) v h = cond_ind FormedPart (is_key (bytes "data") f) v h

-- ---- the data

pub data-formed : (text : List ℕ) → is_formed text ≡ true → is_formed (data_of text).bytes ≡ true
unfolding formed_after fields_of
data-formed text e = of (fields_of text).data_value (cond_ind (λ (s : Fields). FormedPart s.data_value) (in_field_form text) (fields-formed (lines_of text) (lines-formed 0 1 0 text [] e tt)) e)
  where
    of : (o : Option Part) → FormedPart o → is_formed (Option.get_or o (record { start = 0; bytes = [] })).bytes ≡ true
    of none h = refl
    of (some p) h = h
