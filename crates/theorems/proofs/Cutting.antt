-- Tokens as they are cut from the data: places rise, and the text of a sign says what its token holds. Assumes nothing.
use Prim.Native.Nat.{ℕ, zero, suc, ◌+◌, ◌-◌, ◌<◌, ◌≤◌}
use Prim.Native.Char.{code}
use mathlib.Core.Path.{◌≡◌, refl, sym, ap, ◌∙◌, subst}
use mathlib.Core.Bool.{Bool, true, false, cond, ◌&&◌}
use mathlib.Core.Logic.{◌⊎◌, inl, inr, ◌≢◌}
use mathlib.Core.Option.{Option, none, some, get_or}
use mathlib.Core.List.{List, [], ◌∷◌, ◌++◌}
use native.Mathlib.Omega.{arith}
use mir.Facts.{no_eqb, leb_yes, eqb_no}
use lib.Dec.{eqb, leb, ltb, eqb→eq}
use lib.ListN.{length, take, drop}
use lib.Seq.{drop-drop}
use Rattle.rules.specs.Text.{bytes, among, is_digit, is_note_letter, run_length, every, begins, Part}
use Rattle.rules.specs.Characters.{character_size, begun, is_blank}
use Rattle.rules.specs.Cut.{token_size}
use Rattle.rules.specs.Limits.{whole_bar_limit}
use Rattle.rules.specs.Values.{decimal_from, number_to, whole_bars_of, sharpened, flattened}
use Rattle.rules.specs.Tokens.{colons, grace, grace_group, figure_mark, figure_repeat, bar_repeat, item_at, items_after, latest_place, Ordered, Item, Token, token_of, accidental_in, letter_in, grace_in, grace_group_in, is_barline, is_chord, is_rest, figure_in, whole_bars_in}
use Rattle.rules.specs.Records.{given}
use Rattle.rules.specs.Fields.{data_of}
use Rattle.rules.specs.Reading.{tokens_of}
use Rattle.rules.specs.LookBack.{text_of, letter_of, sign_of, grace_of, group_of, is_bar, is_caret, is_dash, whole_bar_rests}
use Rattle.rules.specs.Agreement.{All, Some, is_repeat}
use Rattle.theorems.proofs.Lists.{is_false, cond_ind}

-- an `f` or `i`
abbrev pub repeats_in : Token → Bool
repeats_in t = given (figure_in t) false (λ f. elim f [ figure_mark ↦ false | figure_repeat ↦ true | bar_repeat ↦ true ])

-- how many whole-bar rests a token stores
abbrev pub rests_in : Token → ℕ
rests_in t = given (whole_bars_in t) 0 (λ n. suc (n - 1))

-- what a token is, as its text says it
pub record Says (t : Token) (text : List ℕ) : Type 0 where
  pub letter : letter_in t ≡ letter_of text
  pub sign : accidental_in t ≡ sign_of text
  pub grace : grace_in t ≡ grace_of text
  pub group : grace_group_in t ≡ group_of text
  pub bar : is_barline t ≡ is_bar text
  pub caret : is_chord t ≡ is_caret text
  pub dash : is_rest t ≡ is_dash text
  pub copy : repeats_in t ≡ is_repeat text
  pub rests : rests_in t ≡ whole_bar_rests text

-- places rise from token to token, and each is what its text says
abbrev pub Cut : Part → List Item → Type 0
Cut line [] = Unit {0}
Cut line (x ∷ before) = (latest_place before < x.place) × Cut line before × Says x.token (text_of line x)

pub ordered : (line : Part) (e : List Item) → Cut line e → Ordered e
ordered line [] h = tt
ordered line (x ∷ e) h = (h.0, ordered line e h.1)

pub cut-from : (line : Part) (later e : List Item) → Cut line (later ++ e) → Cut line e
cut-from line [] e h = h
cut-from line (y ∷ later) e h = cut-from line later e h.1

-- ---- a token has a byte or more

pub some_size : (b : ℕ) (bs : List ℕ) → 0 < token_size (b ∷ bs)
unfolding token_size character_size
some_size b bs =
    let P : ℕ → Type 0 = λ n. 0 < n in
    cond_ind P (among (bytes "',xb") b) (omega arith)
    (cond_ind P (is_digit b) (omega arith)
    (cond_ind P (among (bytes ";=") b) (omega arith)
    (cond_ind P (eqb b (code "%")) (omega arith)
    (cond_ind P (eqb b (code "$")) (omega arith)
    (cond_ind P (eqb b (code "@")) (omega arith)
    (cond_ind P (eqb b (code ":")) (cond_ind P (begins (bytes "://:") (b ∷ bs)) (omega arith) (cond_ind P (begins (bytes "://") (b ∷ bs)) (omega arith) (omega arith)))
    (cond_ind P (eqb b (code "/")) (cond_ind P (begins (bytes "//:") (b ∷ bs)) (omega arith) (cond_ind P (begins (bytes "//") (b ∷ bs)) (omega arith) (omega arith)))
    (cond_ind P (eqb b (code "q")) (cond_ind P (begins (bytes "qq") (b ∷ bs)) (omega arith) (omega arith))
    (cond_ind P (ltb b 128) (omega arith) (omega arith))))))))))

-- ---- the tokens whose text has more than one byte

-- the text of a token that is b and what follows
abbrev tail : ℕ → List ℕ → List ℕ
tail b bs = take (token_size (b ∷ bs) - 1) bs

-- longer than one byte
long : (n : ℕ) → eqb (1 + suc n) 1 ≡ false
long n = is_false (eqb (1 + suc n) 1) (no_eqb other)
  where
    other : 1 + suc n ≡ 1 → ⊥
    other e = omega arith

sharp-is : (bs : List ℕ) → accidental_in (token_of (code "x") (tail (code "x") bs)) ≡ sign_of (code "x" ∷ tail (code "x") bs)
unfolding token_size token_of
sharp-is [] = refl
sharp-is (c ∷ bs) = go (eqb c (code "x")) refl
  where
    run : ℕ
    run = run_length (λ b. eqb b (code "x")) bs

    Says : ℕ → Type 0
    Says n = some (sharpened (1 + length (take n (c ∷ bs)))) ≡ sign_of (code "x" ∷ take n (c ∷ bs))

    go : (t : Bool) → eqb c (code "x") ≡ t → Says (1 + cond t (1 + run) 0 - 1)
    go true e = let q : suc run ≡ 1 + (1 + run) - 1 = omega arith in subst Says q (rw (long, e))
    go false e = refl

flat-is : (bs : List ℕ) → accidental_in (token_of (code "b") (tail (code "b") bs)) ≡ sign_of (code "b" ∷ tail (code "b") bs)
unfolding token_size token_of
flat-is [] = refl
flat-is (c ∷ bs) = go (eqb c (code "b")) refl
  where
    run : ℕ
    run = run_length (λ b. eqb b (code "b")) bs

    Says : ℕ → Type 0
    Says n = some (flattened (1 + length (take n (c ∷ bs)))) ≡ sign_of (code "b" ∷ take n (c ∷ bs))

    go : (t : Bool) → eqb c (code "b") ≡ t → Says (1 + cond t (1 + run) 0 - 1)
    go true e = let q : suc run ≡ 1 + (1 + run) - 1 = omega arith in subst Says q (rw (long, e))
    go false e = refl

-- `q`, `qq`
grace-is : (bs : List ℕ) → Says (token_of (code "q") (tail (code "q") bs)) (code "q" ∷ tail (code "q") bs)
unfolding token_size token_of
grace-is [] = record { letter = refl; sign = refl; grace = refl; group = refl; bar = refl; caret = refl; dash = refl; copy = refl; rests = refl }
grace-is (c ∷ bs) = go (eqb c (code "q")) refl
  where
    Of : ℕ → Type 0
    Of n = Says (cond (eqb (1 + length (take (n - 1) (c ∷ bs))) 1) (grace false) (grace_group true)) (code "q" ∷ take (n - 1) (c ∷ bs))

    go : (t : Bool) → eqb c (code "q") ≡ t → Of (cond (t && true) 2 1)
    go true e = record { letter = refl; sign = refl; grace = rw e; group = rw e; bar = refl; caret = refl; dash = refl; copy = refl; rests = refl }
    go false e = record { letter = refl; sign = refl; grace = refl; group = refl; bar = refl; caret = refl; dash = refl; copy = refl; rests = refl }

-- `:`, `://`, `://:`
colon-is : (bs : List ℕ) → Says (token_of (code ":") (tail (code ":") bs)) (code ":" ∷ tail (code ":") bs)
unfolding token_size token_of
colon-is [] = record { letter = refl; sign = refl; grace = refl; group = refl; bar = refl; caret = refl; dash = refl; copy = refl; rests = refl }
colon-is (c ∷ bs) = first (eqb c (code "/")) refl
  where
    Of : List ℕ → ℕ → Type 0
    Of cs n = Says (colons (1 + length (take (n - 1) cs))) (code ":" ∷ take (n - 1) cs)

    third : (bs : List ℕ) → Of (code "/" ∷ code "/" ∷ bs) (cond (begins (bytes ":") bs) 4 3)
    third [] = record { letter = refl; sign = refl; grace = refl; group = refl; bar = refl; caret = refl; dash = refl; copy = refl; rests = refl }
    third (e ∷ bs) = go (eqb e (code ":"))
      where
        go : (t : Bool) → Of (code "/" ∷ code "/" ∷ e ∷ bs) (cond (t && true) 4 3)
        go true = record { letter = refl; sign = refl; grace = refl; group = refl; bar = refl; caret = refl; dash = refl; copy = refl; rests = refl }
        go false = record { letter = refl; sign = refl; grace = refl; group = refl; bar = refl; caret = refl; dash = refl; copy = refl; rests = refl }

    second : (bs : List ℕ) → Of (code "/" ∷ bs) (cond (begins (bytes "/:") bs) 4 (cond (begins (bytes "/") bs) 3 1))
    second [] = record { letter = refl; sign = refl; grace = refl; group = refl; bar = refl; caret = refl; dash = refl; copy = refl; rests = refl }
    second (d ∷ bs) = go (eqb d (code "/")) refl
      where
        go : (t : Bool) → eqb d (code "/") ≡ t → Of (code "/" ∷ d ∷ bs) (cond (t && begins (bytes ":") bs) 4 (cond (t && true) 3 1))
        go true e = subst (λ x. Of (code "/" ∷ x ∷ bs) (cond (begins (bytes ":") bs) 4 3)) (sym (eqb→eq d (code "/") (rw e tt))) (third bs)
        go false e = record { letter = refl; sign = refl; grace = refl; group = refl; bar = refl; caret = refl; dash = refl; copy = refl; rests = refl }

    first : (t : Bool) → eqb c (code "/") ≡ t → Of (c ∷ bs) (cond (t && begins (bytes "/:") bs) 4 (cond (t && begins (bytes "/") bs) 3 1))
    first true e = subst (λ x. Of (x ∷ bs) (cond (begins (bytes "/:") bs) 4 (cond (begins (bytes "/") bs) 3 1))) (sym (eqb→eq c (code "/") (rw e tt))) (second bs)
    first false e = record { letter = refl; sign = refl; grace = refl; group = refl; bar = refl; caret = refl; dash = refl; copy = refl; rests = refl }

-- `/`, `//`, `//:`
slash-is : (bs : List ℕ) → Says (token_of (code "/") (tail (code "/") bs)) (code "/" ∷ tail (code "/") bs)
unfolding token_of
slash-is bs =
    let text : List ℕ = code "/" ∷ tail (code "/") bs in
    let size : ℕ = 1 + length (tail (code "/") bs) in
    cond_ind (λ t. Says t text) (eqb size 1) record { letter = refl; sign = refl; grace = refl; group = refl; bar = refl; caret = refl; dash = refl; copy = refl; rests = refl } (cond_ind (λ t. Says t text) (eqb size 2) record { letter = refl; sign = refl; grace = refl; group = refl; bar = refl; caret = refl; dash = refl; copy = refl; rests = refl } record { letter = refl; sign = refl; grace = refl; group = refl; bar = refl; caret = refl; dash = refl; copy = refl; rests = refl })

-- a count is not 0
rests-are : (cs : List ℕ) → given (whole_bars_of cs) 0 (λ n. suc (n - 1)) ≡ get_or (whole_bars_of cs) 0
unfolding whole_bars_of
rests-are [] = refl
rests-are (d ∷ ds) = go (eqb number 0) refl
  where
    number : ℕ
    number = decimal_from 0 (d ∷ ds)

    Same : Option ℕ → Type 0
    Same o = given o 0 (λ n. suc (n - 1)) ≡ get_or o 0

    go : (b : Bool) → eqb number 0 ≡ b → Same (cond b none (number_to whole_bar_limit (d ∷ ds)))
    go true e = refl
    go false e =
        let some-bar : number ≢ 0 = eqb_no (rw e tt) in
        let same : suc (number - 1) ≡ number = omega (arith, some-bar) in
        cond_ind Same (ltb 0 (length (d ∷ ds)) && every is_digit (d ∷ ds) && leb number whole_bar_limit) same refl

-- ---- every token

-- the first bytes that the look-back knows, beside `=`
abbrev signs : List ℕ
signs = bytes "xbn^-/:gqrfiCDEFGAB"

abbrev known : List ℕ
known = code "=" ∷ signs

-- a byte is one of these, or none
one_of : (b : ℕ) (ks : List ℕ) → Some (λ n. n ≡ b) ks ⊎ All (λ n. eqb b n ≡ false) ks
one_of b [] = inr tt
one_of b (n ∷ ks) = go (eqb b n) refl (one_of b ks)
  where
    go : (t : Bool) → eqb b n ≡ t → Some (λ n. n ≡ b) ks ⊎ All (λ n. eqb b n ≡ false) ks → Some (λ n. n ≡ b) (n ∷ ks) ⊎ All (λ n. eqb b n ≡ false) (n ∷ ks)
    go true e r = inl (inl (sym (eqb→eq b n (rw e tt))))
    go false e (inl r) = inl (inr r)
    go false e (inr r) = inr (e, r)

found : (P : ℕ → Type 0) (b : ℕ) (ks : List ℕ) → All P ks → Some (λ n. n ≡ b) ks → P b
found P b [] h f = absurd f
found P b (n ∷ ks) h (inl e) = subst P e h.0
found P b (n ∷ ks) h (inr f) = found P b ks h.1 f

no-letter : (b : ℕ) → All (λ n. eqb b n ≡ false) (bytes "CDEFGAB") → is_note_letter b ≡ false
no-letter b n = go (leb (code "A") b) (leb b (code "G")) refl refl
  where
    apart : (k : ℕ) → eqb b k ≡ false → b ≢ k
    apart k e = eqb_no (rw e tt)

    go : (p q : Bool) → leb (code "A") b ≡ p → leb b (code "G") ≡ q → p && q ≡ false
    go false q ep eq = refl
    go true false ep eq = refl
    go true true ep eq =
        let low : 65 ≤ b = leb_yes (rw ep tt) in
        let high : b ≤ 71 = leb_yes (rw eq tt) in
        let past : 68 ≤ b = omega (arith, low, apart 65 n.1.1.1.1.1.0, apart 66 n.1.1.1.1.1.1.0, apart 67 n.0) in
        let z : ⊥ = omega (arith, past, high, apart 68 n.1.0, apart 69 n.1.1.0, apart 70 n.1.1.1.0, apart 71 n.1.1.1.1.0) in absurd z

-- a token that the look-back passes over
record Quiet (t : Token) : Type 0 where
  letter : letter_in t ≡ none
  sign : accidental_in t ≡ none
  grace : grace_in t ≡ none
  group : grace_group_in t ≡ none
  bar : is_barline t ≡ false
  caret : is_chord t ≡ false
  dash : is_rest t ≡ false
  copy : repeats_in t ≡ false
  rests : rests_in t ≡ 0

-- any other byte
quiet-token : (b : ℕ) (cs : List ℕ) → eqb b (code "=") ≡ false → All (λ n. eqb b n ≡ false) signs → Quiet (token_of b cs)
unfolding token_of
quiet-token b cs e n = rw (e, n.0, n.1.0, n.1.1.0, n.1.1.1.0, n.1.1.1.1.0, n.1.1.1.1.1.0, n.1.1.1.1.1.1.0, n.1.1.1.1.1.1.1.0, n.1.1.1.1.1.1.1.1.0, n.1.1.1.1.1.1.1.1.1.0, n.1.1.1.1.1.1.1.1.1.1.0, n.1.1.1.1.1.1.1.1.1.1.1.0, no-letter b n.1.1.1.1.1.1.1.1.1.1.1.1)
    (cond_ind Quiet (eqb b (code "%")) record { letter = refl; sign = refl; grace = refl; group = refl; bar = refl; caret = refl; dash = refl; copy = refl; rests = refl }
    (cond_ind Quiet (eqb b (code "$")) record { letter = refl; sign = refl; grace = refl; group = refl; bar = refl; caret = refl; dash = refl; copy = refl; rests = refl }
    (cond_ind Quiet (eqb b (code "@")) record { letter = refl; sign = refl; grace = refl; group = refl; bar = refl; caret = refl; dash = refl; copy = refl; rests = refl }
    (cond_ind Quiet (eqb b (code "'")) record { letter = refl; sign = refl; grace = refl; group = refl; bar = refl; caret = refl; dash = refl; copy = refl; rests = refl }
    (cond_ind Quiet (eqb b (code ",")) record { letter = refl; sign = refl; grace = refl; group = refl; bar = refl; caret = refl; dash = refl; copy = refl; rests = refl }
    (cond_ind Quiet (is_digit b) record { letter = refl; sign = refl; grace = refl; group = refl; bar = refl; caret = refl; dash = refl; copy = refl; rests = refl }
    (cond_ind Quiet (eqb b (code "!")) record { letter = refl; sign = refl; grace = refl; group = refl; bar = refl; caret = refl; dash = refl; copy = refl; rests = refl }
    (cond_ind Quiet (eqb b (code "{")) record { letter = refl; sign = refl; grace = refl; group = refl; bar = refl; caret = refl; dash = refl; copy = refl; rests = refl }
    (cond_ind Quiet (eqb b (code "}")) record { letter = refl; sign = refl; grace = refl; group = refl; bar = refl; caret = refl; dash = refl; copy = refl; rests = refl }
    (cond_ind Quiet (eqb b (code "(")) record { letter = refl; sign = refl; grace = refl; group = refl; bar = refl; caret = refl; dash = refl; copy = refl; rests = refl }
    (cond_ind Quiet (eqb b (code ";")) record { letter = refl; sign = refl; grace = refl; group = refl; bar = refl; caret = refl; dash = refl; copy = refl; rests = refl }
    (cond_ind Quiet (eqb b (code ")")) record { letter = refl; sign = refl; grace = refl; group = refl; bar = refl; caret = refl; dash = refl; copy = refl; rests = refl }
    (cond_ind Quiet (eqb b (code "+")) record { letter = refl; sign = refl; grace = refl; group = refl; bar = refl; caret = refl; dash = refl; copy = refl; rests = refl }
    (cond_ind Quiet (eqb b (code "t")) record { letter = refl; sign = refl; grace = refl; group = refl; bar = refl; caret = refl; dash = refl; copy = refl; rests = refl }
    (cond_ind Quiet (is_blank (b ∷ cs)) record { letter = refl; sign = refl; grace = refl; group = refl; bar = refl; caret = refl; dash = refl; copy = refl; rests = refl }
    record { letter = refl; sign = refl; grace = refl; group = refl; bar = refl; caret = refl; dash = refl; copy = refl; rests = refl })))))))))))))))

other-is : (b : ℕ) (cs : List ℕ) → eqb b (code "=") ≡ false → All (λ n. eqb b n ≡ false) signs → Says (token_of b cs) (b ∷ cs)
other-is b cs e n =
    let q : Quiet (token_of b cs) = quiet-token b cs e n in
    record {
      letter = q.letter ∙ rw (n.1.1.1.1.1.1.1.1.1.1.1.1.0, n.1.1.1.1.1.1.1.1.1.1.1.1.1.0, n.1.1.1.1.1.1.1.1.1.1.1.1.1.1.0, n.1.1.1.1.1.1.1.1.1.1.1.1.1.1.1.0, n.1.1.1.1.1.1.1.1.1.1.1.1.1.1.1.1.0, n.1.1.1.1.1.1.1.1.1.1.1.1.1.1.1.1.1.0, n.1.1.1.1.1.1.1.1.1.1.1.1.1.1.1.1.1.1.0);
      sign = q.sign ∙ rw (n.0, n.1.0, n.1.1.0);
      grace = q.grace ∙ rw (n.1.1.1.1.1.1.1.0, n.1.1.1.1.1.1.1.1.0);
      group = q.group ∙ rw (n.1.1.1.1.1.1.1.1.0, n.1.1.1.1.1.1.1.1.1.0);
      bar = q.bar ∙ rw (n.1.1.1.1.1.0, n.1.1.1.1.1.1.0);
      caret = q.caret ∙ rw n.1.1.1.0;
      dash = q.dash ∙ rw n.1.1.1.1.0;
      copy = q.copy ∙ rw (n.1.1.1.1.1.1.1.1.1.1.0, n.1.1.1.1.1.1.1.1.1.1.1.0);
      rests = q.rests ∙ rw e;
    }

says : (b : ℕ) (bs : List ℕ) → Says (token_of b (tail b bs)) (b ∷ tail b bs)
unfolding token_size character_size token_of
says b bs = go (one_of b known)
  where
    go : Some (λ n. n ≡ b) known ⊎ All (λ n. eqb b n ≡ false) known → Says (token_of b (tail b bs)) (b ∷ tail b bs)
    go (inl f) = found (λ c. Says (token_of c (tail c bs)) (c ∷ tail c bs)) b known
        (record { letter = refl; sign = refl; grace = refl; group = refl; bar = refl; caret = refl; dash = refl; copy = refl; rests = rests-are (tail (code "=") bs) }, (record { letter = refl; sign = sharp-is bs; grace = refl; group = refl; bar = refl; caret = refl; dash = refl; copy = refl; rests = refl }, (record { letter = refl; sign = flat-is bs; grace = refl; group = refl; bar = refl; caret = refl; dash = refl; copy = refl; rests = refl }, (record { letter = refl; sign = refl; grace = refl; group = refl; bar = refl; caret = refl; dash = refl; copy = refl; rests = refl }, (record { letter = refl; sign = refl; grace = refl; group = refl; bar = refl; caret = refl; dash = refl; copy = refl; rests = refl }, (record { letter = refl; sign = refl; grace = refl; group = refl; bar = refl; caret = refl; dash = refl; copy = refl; rests = refl }, (slash-is bs, (colon-is bs, (record { letter = refl; sign = refl; grace = refl; group = refl; bar = refl; caret = refl; dash = refl; copy = refl; rests = refl }, (grace-is bs, (record { letter = refl; sign = refl; grace = refl; group = refl; bar = refl; caret = refl; dash = refl; copy = refl; rests = refl }, (record { letter = refl; sign = refl; grace = refl; group = refl; bar = refl; caret = refl; dash = refl; copy = refl; rests = refl }, (record { letter = refl; sign = refl; grace = refl; group = refl; bar = refl; caret = refl; dash = refl; copy = refl; rests = refl }, (record { letter = refl; sign = refl; grace = refl; group = refl; bar = refl; caret = refl; dash = refl; copy = refl; rests = refl }, (record { letter = refl; sign = refl; grace = refl; group = refl; bar = refl; caret = refl; dash = refl; copy = refl; rests = refl }, (record { letter = refl; sign = refl; grace = refl; group = refl; bar = refl; caret = refl; dash = refl; copy = refl; rests = refl }, (record { letter = refl; sign = refl; grace = refl; group = refl; bar = refl; caret = refl; dash = refl; copy = refl; rests = refl }, (record { letter = refl; sign = refl; grace = refl; group = refl; bar = refl; caret = refl; dash = refl; copy = refl; rests = refl }, (record { letter = refl; sign = refl; grace = refl; group = refl; bar = refl; caret = refl; dash = refl; copy = refl; rests = refl }, (record { letter = refl; sign = refl; grace = refl; group = refl; bar = refl; caret = refl; dash = refl; copy = refl; rests = refl }, tt)))))))))))))))))))) f
    go (inr n) = other-is b (tail b bs) n.0 n.1

-- ---- the data's tokens

-- a token's text is its first byte and what follows
text-is : (line : Part) (place offset b : ℕ) (bs : List ℕ) → b ∷ bs ≡ drop (offset - line.start) line.bytes → b ∷ tail b bs ≡ text_of line (item_at place offset b bs)
unfolding item_at
text-is line place offset b bs t = first (token_size (b ∷ bs)) (some_size b bs) ∙ ap (take (token_size (b ∷ bs))) t
  where
    first : (n : ℕ) → 0 < n → b ∷ take (n - 1) bs ≡ take n (b ∷ bs)
    first zero h = absurd (omega arith)
    first (suc n) h = let e : suc n - 1 ≡ n = omega arith in ap (λ m. b ∷ take m bs) e

-- what stands behind the first byte
next-is : (line : Part) (offset b : ℕ) (bs : List ℕ) → line.start ≤ offset → b ∷ bs ≡ drop (offset - line.start) line.bytes → bs ≡ drop (offset + 1 - line.start) line.bytes
next-is line offset b bs s t = ap (drop 1) t ∙ drop-drop 1 (offset - line.start) line.bytes ∙ ap (λ n. drop n line.bytes) q
  where
    q : offset - line.start + 1 ≡ offset + 1 - line.start
    q = omega (arith, s)

cut-tokens : (line : Part) (skip place offset : ℕ) (text : List ℕ) (before : List Item) → text ≡ drop (offset - line.start) line.bytes → line.start ≤ offset → latest_place before < place → Cut line before → Cut line (items_after skip place offset text before)
unfolding items_after item_at
cut-tokens line skip place offset [] before t s h o = o
cut-tokens line zero place offset (b ∷ bs) before t s h o =
    cut-tokens line (token_size (b ∷ bs) - 1) (place + 1) (offset + 1) bs (item_at place offset b bs ∷ before) (next-is line offset b bs s t) (omega (arith, s)) (omega arith)
    (h, o, subst (Says (token_of b (tail b bs))) (text-is line place offset b bs t) (says b bs))
cut-tokens line (suc skip) place offset (b ∷ bs) before t s h o = cut-tokens line skip (place + begun b) (offset + 1) bs before (next-is line offset b bs s t) (omega (arith, s)) (omega (arith, h)) o

-- the tokens of a text are cut from its data
pub tokens-cut : (text : List ℕ) → Cut (data_of text) (tokens_of text)
tokens-cut text = cut-tokens (data_of text) 0 1 (data_of text).start (data_of text).bytes [] (ap (λ n. drop n (data_of text).bytes) q) (omega arith) (omega arith) tt
  where
    q : 0 ≡ (data_of text).start - (data_of text).start
    q = omega arith
