-- Of well-formed data, tokens are whole characters, and a token's place is one more than the characters before it. Assumes nothing.
use Prim.Native.Nat.{ℕ, zero, suc, ◌+◌, ◌-◌, ◌<◌}
use Prim.Native.Char.{code}
use mathlib.Core.Path.{◌≡◌, refl, sym, ap, ◌∙◌}
use mathlib.Core.Bool.{Bool, true, false≢true}
use mathlib.Core.List.{List, [], ◌∷◌, ◌++◌, append_assoc}
use native.Mathlib.Omega.{arith}
use native.Mathlib.Numerals.{one-add}
use borrow.Author.Tests.{ltb-true}
use lib.Dec.{eqb}
use lib.ListN.{length, take, drop, length-append}
use lib.Seq.{drop-drop, take-append_seam}
use Rattle.rules.specs.Text.{bytes, among, is_digit, run_length, every, begins, Part}
use Rattle.rules.specs.Characters.{is_formed, character_size, begun, characters_in, is_blank, non_blanks_size}
use Rattle.rules.specs.Cut.{is_duration, is_key_byte, is_meter_byte, longest_of, token_size}
use Rattle.rules.specs.Tokens.{Item, item_at, items_after, items_of}
use Rattle.rules.specs.Agreement.{All, Placed}
use Rattle.rules.proofs.Low.{Low, is_low, same_low, among-low, digit_low, duration-low, key-low, meter-low}
use Rattle.theorems.proofs.Lists.{cond-case, both_true}
use Rattle.theorems.proofs.Characters.{head-begins, character, low-on}
use Rattle.theorems.proofs.Cutting.{some_size}

-- ---- what keeps a text well-formed

run_on : (p : ℕ → Bool) → Low p → (xs : List ℕ) → is_formed xs ≡ true → is_formed (drop (run_length p xs) xs) ≡ true
run_on p l [] e = e
run_on p l (x ∷ xs) e = cond-case (λ n. is_formed (drop n (x ∷ xs)) ≡ true) (p x) (λ f. rw one-add (run_on p l xs (low-on x xs (l x f) e))) e

begins-on : (t xs : List ℕ) → every is_low t ≡ true → begins t xs ≡ true → is_formed xs ≡ true → is_formed (drop (length t) xs) ≡ true
begins-on [] xs h b e = e
begins-on (k ∷ t) [] h b e = absurd (false≢true b)
begins-on (k ∷ t) (x ∷ xs) h b e =
    let l = both_true (is_low k) (every is_low t) h in
    let g = both_true (eqb x k) (begins t xs) b in
    begins-on t xs l.1 g.1 (low-on x xs (same_low k (ltb-true k 128 l.0) x g.0) e)

longest-on : (ts : List (List ℕ)) (x : ℕ) (xs : List ℕ) → All (λ t. every is_low t ≡ true) ts → x < 128 → is_formed (x ∷ xs) ≡ true → is_formed (drop (longest_of ts (x ∷ xs)) (x ∷ xs)) ≡ true
longest-on [] x xs h p e = low-on x xs p e
longest-on (t ∷ ts) x xs h p e = cond-case (λ n. is_formed (drop n (x ∷ xs)) ≡ true) (begins t (x ∷ xs)) (λ b. begins-on t (x ∷ xs) h.0 b e) (longest-on ts x xs h.1 p e)

non-blanks-on : (n : ℕ) (xs : List ℕ) → is_formed xs ≡ true → is_formed (drop (non_blanks_size n xs) xs) ≡ true
unfolding non_blanks_size
non-blanks-on zero xs e = e
non-blanks-on (suc n) [] e = e
non-blanks-on (suc n) (x ∷ xs) e = cond-case (λ n. is_formed (drop n (x ∷ xs)) ≡ true) (is_blank (x ∷ xs)) (λ b. e)
    (ap is_formed (sym (drop-drop (non_blanks_size n rest) size (x ∷ xs))) ∙ non-blanks-on n rest (character x xs e).goes_on)
  where
    size : ℕ
    size = character_size (x ∷ xs)

    rest : List ℕ
    rest = drop size (x ∷ xs)

-- ---- a token is whole characters

pub token-on : (x : ℕ) (xs : List ℕ) → is_formed (x ∷ xs) ≡ true → is_formed (drop (token_size (x ∷ xs)) (x ∷ xs)) ≡ true
unfolding token_size
token-on x xs e =
    cond-case On (among (bytes "',xb") x) (λ f. let p : x < 128 = among-low (bytes "',xb") refl x f in run p (λ c. eqb c x) (same_low x p))
    (cond-case On (is_digit x) (λ f. run (digit_low x f) is_duration duration-low)
    (cond-case On (among (bytes ";=") x) (λ f. run (among-low (bytes ";=") refl x f) is_digit digit_low)
    (cond-case On (eqb x (code "%")) (λ f. after (non_blanks_size 3 xs) (non-blanks-on 3 xs (low-on x xs (is 37 refl f) e)))
    (cond-case On (eqb x (code "$")) (λ f. run (is 36 refl f) is_key_byte key-low)
    (cond-case On (eqb x (code "@")) (λ f. run (is 64 refl f) is_meter_byte meter-low)
    (cond-case On (eqb x (code ":")) (λ f. longest-on (bytes "://:" ∷ bytes "://" ∷ []) x xs (refl, (refl, tt)) (is 58 refl f) e)
    (cond-case On (eqb x (code "/")) (λ f. longest-on (bytes "//:" ∷ bytes "//" ∷ []) x xs (refl, (refl, tt)) (is 47 refl f) e)
    (cond-case On (eqb x (code "q")) (λ f. longest-on (bytes "qq" ∷ []) x xs (refl, tt) (is 113 refl f) e)
    (character x xs e).goes_on))))))))
  where
    On : ℕ → Type 0
    On n = is_formed (drop n (x ∷ xs)) ≡ true

    after : (n : ℕ) → is_formed (drop n xs) ≡ true → On (1 + n)
    after n h = rw one-add h

    run : x < 128 → (p : ℕ → Bool) → Low p → On (1 + run_length p xs)
    run h p l = after (run_length p xs) (run_on p l xs (low-on x xs h e))

    is : (k : ℕ) → is_low k ≡ true → eqb x k ≡ true → x < 128
    is k h f = same_low k (ltb-true k 128 h) x f

-- ---- places

count-last : (pre : List ℕ) (x : ℕ) → characters_in (pre ++ x ∷ []) ≡ characters_in pre + begun x
unfolding characters_in
count-last [] x = omega arith
count-last (y ∷ pre) x = omega (arith, count-last pre x)

-- from a token's first byte to its end
rest-on : (n : ℕ) (x : ℕ) (xs : List ℕ) → 0 < n → is_formed (drop n (x ∷ xs)) ≡ true → is_formed (drop (n - 1) xs) ≡ true
rest-on n x xs h e = let q : suc (n - 1) ≡ n = omega (arith, h) in ap (λ k. is_formed (drop k (x ∷ xs))) q ∙ e

-- pre: what is read
placed : (line : Part) (skip place offset : ℕ) (pre xs : List ℕ) (before : List Item) → line.bytes ≡ pre ++ xs → place ≡ 1 + characters_in pre → offset ≡ line.start + length pre → is_formed (drop skip xs) ≡ true
    → All (Placed line) before → All (Placed line) (items_after skip place offset xs before)
unfolding items_after item_at
placed line skip place offset pre [] before d p o e h = h
placed line zero place offset pre (x ∷ xs) before d p o e h =
    let b : begun x ≡ 1 = rw (head-begins (x ∷ xs) e) in
    placed line (token_size (x ∷ xs) - 1) (place + 1) (offset + 1) (pre ++ x ∷ []) xs (item_at place offset x xs ∷ before) (d ∙ sym (append_assoc pre (x ∷ []) xs)) (omega (arith, p, b, count-last pre x)) (omega (arith, o, length-append pre (x ∷ [])))
    (rest-on (token_size (x ∷ xs)) x xs (some_size x xs) (token-on x xs e)) (here, h)
  where
    here : place ≡ 1 + characters_in (take (offset - line.start) line.bytes)
    here = let n : length pre ≡ offset - line.start = omega (arith, o) in p ∙ ap (λ l. 1 + characters_in l) (sym (take-append_seam pre (x ∷ xs)) ∙ (λ i. take (n i) (sym d i)))
placed line (suc skip) place offset pre (x ∷ xs) before d p o e h =
    placed line skip (place + begun x) (offset + 1) (pre ++ x ∷ []) xs before (d ∙ sym (append_assoc pre (x ∷ []) xs)) (omega (arith, p, count-last pre x)) (omega (arith, o, length-append pre (x ∷ []))) e h

-- of well-formed data, each token's place is one more than the characters before it
pub token-places : (line : Part) → is_formed line.bytes ≡ true → All (Placed line) (items_of line)
unfolding characters_in
token-places line e = placed line 0 1 line.start [] line.bytes [] refl refl (omega arith) e tt
