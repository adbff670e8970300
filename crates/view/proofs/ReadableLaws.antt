-- The tokens of any text are such as are read. Assumes nothing.
use Rattle.std.proofs.Common.{◌≡◌, ℕ, zero, suc, ◌+◌, ◌-◌, ◌<◌, ◌≤◌, Bool, true, false, cond, not, ◌||◌, List, [], ◌∷◌, pos, negsuc, leb, ltb, eqb, take, refl, sym, ap, ◌∙◌, arith, leb-true, ltb-true}
use Rattle.std.proofs.lemmas.Bool.{and_parts}
use Rattle.std.proofs.Math.Option.{none, some}
use Rattle.rules.specs.Text.{is_note_letter, Part}
use Rattle.rules.specs.Characters.{begun}
use Rattle.rules.specs.Cut.{token_size}
use Rattle.rules.specs.Values.{raised_octave, lowered_octave, sharpened, flattened, step_of}
use Rattle.rules.specs.Tokens.{Token, letter, Item, token_of, item_at, items_after, items_of}
use Rattle.rules.specs.Agreement.{All}
use Rattle.tokens.proofs.Below.{below}
use Rattle.view.specs.Accidentals.{is_none}
use Rattle.view.specs.Readable.{IsOctave, Readable}

raised : (k : ℕ) → IsOctave (raised_octave k)
raised k = go (leb (3 + k) 9) refl
  where
    go : (t : Bool) → leb (3 + k) 9 ≡ t → IsOctave (cond t (some (3 + k)) none)
    go true e = omega (arith, leb-true (3 + k) 9 e)
    go false e = tt

lowered : (k : ℕ) → IsOctave (lowered_octave k)
lowered k = go (leb k 4)
  where
    go : (t : Bool) → IsOctave (cond t (some (4 - k)) none)
    go true = omega arith
    go false = tt

sharp : (k : ℕ) → is_none (sharpened k) ≡ false
sharp k = go (eqb k 1)
  where
    go : (t : Bool) → is_none (cond t (pos 1) (pos 2)) ≡ false
    go true = refl
    go false = refl

flat : (k : ℕ) → is_none (flattened k) ≡ false
flat k = go (eqb k 1)
  where
    go : (t : Bool) → is_none (cond t (negsuc 0) (negsuc 1)) ≡ false
    go true = refl
    go false = refl

-- each letter has one of seven steps
step_below : (b : ℕ) → is_note_letter b ≡ true → step_of b < 7
step_below b e =
    let high : b ≤ 71 = leb-true b 71 (and_parts (leb 65 b) (leb b 71) e).1 in
    ltb-true (step_of b) 7 (sym (ap (λ (t : Bool). not t || ltb (step_of b) 7) e) ∙ below (λ (k : ℕ). not (is_note_letter k) || ltb (step_of k) 7) 72 refl b (omega (arith, high)))

-- what both branches have
pick : (t : Bool) (x y : Token) → Readable x → Readable y → Readable (cond t x y)
pick true x y h g = h
pick false x y h g = g

by_letter : (b : ℕ) (y : Token) → Readable y → Readable (cond (is_note_letter b) (letter (step_of b)) y)
by_letter b y h = go (is_note_letter b) refl
  where
    go : (t : Bool) → is_note_letter b ≡ t → Readable (cond t (letter (step_of b)) y)
    go true e = step_below b e
    go false e = h

token_readable : (b : ℕ) (bs : List ℕ) → Readable (token_of b bs)
unfolding token_of
token_readable b bs = search (by_letter, pick, raised, lowered, sharp, flat) depth 40 fits 20000

after_readable : (skip place offset : ℕ) (bytes : List ℕ) (before : List Item) → All (λ x. Readable x.token) before → All (λ x. Readable x.token) (items_after skip place offset bytes before)
unfolding items_after item_at
after_readable skip place offset [] before h = h
after_readable zero place offset (b ∷ bs) before h =
    let size : ℕ = token_size (b ∷ bs) in
    after_readable (size - 1) (place + 1) (offset + 1) bs (item_at place offset b bs ∷ before) (token_readable b (take (size - 1) bs), h)
after_readable (suc skip) place offset (b ∷ bs) before h = after_readable skip (place + begun b) (offset + 1) bs before h

-- the tokens of the data
pub items_readable : (d : Part) → All (λ x. Readable x.token) (items_of d)
items_readable d = after_readable 0 1 d.start d.bytes [] tt
