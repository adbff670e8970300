-- The lent list after all diagnostics has the rules' words. Assumes nothing.
use Rattle.std.specs.Prelude.{slice_set, if◌then◌else◌, ℤ}
use Rattle.std.proofs.Common.{◌≡◌, ℕ, zero, suc, ◌+◌, ◌-◌, ◌*◌, ◌<◌, ◌≤◌, ⊎_elim, Bool, true, false, min, ltb, List, [], ◌∷◌, ◌++◌, length, drop, pos, refl, sym, ap, ◌∙◌, arith}
use Rattle.std.proofs.lemmas.Bool.{cases_lt, lt-ltb, le-ltb}
use Rattle.std.proofs.lemmas.Bool.Decides.{nat_tests}
use lib.ListN.{length-append, length-replicate, length-drop, replicate-append-replicate}
use lib.Seq.{set-append_seam}
use mathlib.Core.List.{append_assoc}
use native.Mathlib.Nat.{sub-zero}
use Rattle.rules.specs.Limits.{diagnostic_limit, diagnostic_size}
use Rattle.rules.specs.Records.{Position, at_line, at_field, at_data, Value, text_part, parentheses, number, Diagnostic}
use Rattle.rules.specs.Words.{zeros, padded, cells, diagnostic_words, stored_diagnostics, diagnostic_cells}
use Rattle.stores.specs.declared.diagnostic.Diagnostic as stores
use Rattle.stores.specs.Diagnostics.{six_words, lent_of, blank, blanks, diagnosed, count_after, count_after_all, list_after_all}
use Rattle.reader.specs.Answer.{words}

-- ---- one after the other

pub count-append : (n : ℕ) (later before : List Diagnostic) → count_after_all n (later ++ before) ≡ count_after_all (count_after_all n before) later
count-append n [] before = refl
count-append n (d ∷ later) before = ap count_after (count-append n later before)

pub list-append : (l : List stores.Diagnostic) (n : ℕ) (later before : List Diagnostic)
    → list_after_all l n (later ++ before) ≡ list_after_all (list_after_all l n before) (count_after_all n before) later
list-append l n [] before = refl
list-append l n (d ∷ later) before = λ i. diagnosed (list-append l n later before i) (count-append n later before i) (lent_of d)

-- ---- as words

six-of : (d : Diagnostic) → six_words (lent_of d) ≡ diagnostic_words d
six-of d = go d.position d.value
  where
    at : Position → Value → Diagnostic
    at p v = record { number = d.number; position = p; value = v }

    go : (p : Position) (v : Value) → six_words (lent_of (at p v)) ≡ diagnostic_words (at p v)
    go (at_line n) (text_part a e) = refl
    go (at_line n) parentheses = refl
    go (at_line n) (number m) = refl
    go (at_field n) (text_part a e) = refl
    go (at_field n) parentheses = refl
    go (at_field n) (number m) = refl
    go (at_data n) (text_part a e) = refl
    go (at_data n) parentheses = refl
    go (at_data n) (number m) = refl

words-append : (ds es : List stores.Diagnostic) → words (ds ++ es) ≡ words ds ++ words es
words-append [] es = refl
words-append (d ∷ ds) es = ap (λ l. six_words d ++ l) (words-append ds es)

pub words-blanks : (n : ℕ) → words (blanks n) ≡ zeros (diagnostic_size * n)
words-blanks zero = refl
words-blanks (suc n) = ap (λ l. six_words blank ++ l) (words-blanks n) ∙ (replicate-append-replicate diagnostic_size (diagnostic_size * n) (pos 0) ∙ ap zeros (more n))
  where
    more : (m : ℕ) → diagnostic_size + diagnostic_size * m ≡ diagnostic_size * suc m
    more m = omega arith

-- ---- the list and the count

-- the latest last
abbrev listed : List Diagnostic → List stores.Diagnostic
listed [] = []
listed (d ∷ ds) = listed ds ++ lent_of d ∷ []

length-listed : (ds : List Diagnostic) → length (listed ds) ≡ length ds
length-listed [] = refl
length-listed (d ∷ ds) = rw (length-append, length-listed ds) (omega arith)

words-listed : (ds : List Diagnostic) → words (listed ds) ≡ cells diagnostic_words ds
words-listed [] = refl
words-listed (d ∷ ds) = words-append (listed ds) (lent_of d ∷ []) ∙ (λ i. words-listed ds i ++ one i)
  where
    one : words (lent_of d ∷ []) ≡ diagnostic_words d
    one = six-of d

-- up to the limit
count-capped : (ds : List Diagnostic) → count_after_all 0 ds ≡ length ds - (length ds - diagnostic_limit)
count-capped [] = refl
count-capped (d ∷ ds) = ap count_after (count-capped ds) ∙ step (length ds)
  where
    step : (n : ℕ) → count_after (n - (n - diagnostic_limit)) ≡ suc n - (suc n - diagnostic_limit)
    step n = grind (arith, nat_tests)

pub count-stored : (ds : List Diagnostic) → count_after_all 0 ds ≡ length (stored_diagnostics ds)
count-stored ds = count-capped ds ∙ sym (length-drop (length ds - diagnostic_limit) ds)

pub few-stored : (ds : List Diagnostic) → length (stored_diagnostics ds) ≤ diagnostic_limit
few-stored ds = rw (length-drop (length ds - diagnostic_limit) ds) (omega arith)

-- ---- a list of n cells, however few: it holds the first that find a cell

abbrev pub held_limit : ℕ → ℕ
held_limit n = min n diagnostic_limit

-- the latest first
abbrev pub held : ℕ → List Diagnostic → List Diagnostic
held n ds = drop (length ds - held_limit n) ds

-- these, and blank cells behind them
abbrev filled : ℕ → List Diagnostic → List stores.Diagnostic
filled n ds = listed ds ++ blanks (n - length ds)

abbrev pub held_list : ℕ → List Diagnostic → List stores.Diagnostic
held_list n ds = filled n (held n ds)

abbrev pub held_cells : ℕ → List Diagnostic → List ℤ
held_cells n ds = padded (diagnostic_size * n) (cells diagnostic_words (held n ds))

few-held : (n : ℕ) (ds : List Diagnostic) → length (held n ds) ≤ held_limit n
few-held n ds = rw (length-drop (length ds - held_limit n) ds) (omega arith)

length-filled : (n : ℕ) (ds : List Diagnostic) → length ds ≤ n → length (filled n ds) ≡ n
length-filled n ds g = rw (length-append, length-listed ds, length-replicate) (omega arith)

pub length-held : (n : ℕ) (ds : List Diagnostic) → length (held_list n ds) ≡ n
length-held n ds = length-filled n (held n ds) (omega (arith, few-held n ds))

filled-more : (n : ℕ) (d : Diagnostic) (ds : List Diagnostic) → length ds < n → slice_set (filled n ds) (length ds) (lent_of d) ≡ filled n (d ∷ ds)
filled-more n d ds g =
    let k = n - suc (length ds) in
    let left : n - length ds ≡ suc k = omega arith in
    (λ i. slice_set (listed ds ++ blanks (left i)) (sym (length-listed ds) i) (lent_of d))
    ∙ set-append_seam (listed ds) blank (blanks k) (lent_of d)
    ∙ sym (append_assoc (listed ds) (lent_of d ∷ []) (blanks k))

-- while there is room, and after
module _ (limit : ℕ) (d : Diagnostic) (ds : List Diagnostic) where
  all-kept : length ds ≤ limit → drop (length ds - limit) ds ≡ ds
  all-kept h = let e : length ds - limit ≡ 0 = omega arith in rw e

  one-more : length ds < limit → drop (suc (length ds) - limit) (d ∷ ds) ≡ d ∷ ds
  one-more h = let e : suc (length ds) - limit ≡ 0 = omega arith in rw e

  dropped : limit ≤ length ds → drop (suc (length ds) - limit) (d ∷ ds) ≡ drop (length ds - limit) ds
  dropped h = let e : suc (length ds) - limit ≡ suc (length ds - limit) = omega arith in rw e

module _ (l : List stores.Diagnostic) (n : ℕ) (x : stores.Diagnostic) where
  set-there : n < diagnostic_limit → n < length l → diagnosed l n x ≡ slice_set l n x
  set-there h g = rw (lt-ltb n diagnostic_limit h, lt-ltb n (length l) g)

  set-beyond : diagnostic_limit ≤ n → diagnosed l n x ≡ l
  set-beyond h = rw (le-ltb n diagnostic_limit h)

  set-nowhere : length l ≤ n → diagnosed l n x ≡ l
  set-nowhere h = rw (le-ltb n (length l) h) (either (ltb n diagnostic_limit))
    where
      either : (b : Bool) → (if b then l else l) ≡ l
      either true = refl
      either false = refl

module _ (n : ℕ) where
  -- one more diagnostic
  pub diagnostic-stored : (d : Diagnostic) (ds : List Diagnostic) → diagnosed (held_list n ds) (length (stored_diagnostics ds)) (lent_of d) ≡ held_list n (d ∷ ds)
  diagnostic-stored d ds = ⊎_elim room full (cases_lt (length ds) (held_limit n))
    where
      count : length (stored_diagnostics ds) ≡ length ds - (length ds - diagnostic_limit)
      count = length-drop (length ds - diagnostic_limit) ds

      stays : held_limit n ≤ length ds → diagnosed (held_list n ds) (length (stored_diagnostics ds)) (lent_of d) ≡ held_list n ds
      stays g = ⊎_elim
          (λ (few : n < diagnostic_limit). set-nowhere (held_list n ds) (length (stored_diagnostics ds)) (lent_of d) (omega (arith, g, few, count, length-held n ds)))
          (λ (many : diagnostic_limit ≤ n). set-beyond (held_list n ds) (length (stored_diagnostics ds)) (lent_of d) (omega (arith, g, many, count)))
          (cases_lt n diagnostic_limit)

      room : length ds < held_limit n → diagnosed (held_list n ds) (length (stored_diagnostics ds)) (lent_of d) ≡ held_list n (d ∷ ds)
      room g =
          let below : length ds < diagnostic_limit = omega (arith, g) in
          let within : length ds < n = omega (arith, g) in
          rw (one-more (held_limit n) d ds g, all-kept (held_limit n) d ds (omega (arith, g)), all-kept diagnostic_limit d ds (omega (arith, below)))
          (set-there (filled n ds) (length ds) (lent_of d) below (rw (length-filled n ds (omega (arith, within))) within) ∙ filled-more n d ds within)

      full : held_limit n ≤ length ds → diagnosed (held_list n ds) (length (stored_diagnostics ds)) (lent_of d) ≡ held_list n (d ∷ ds)
      full g = stays g ∙ ap (filled n) (sym (dropped (held_limit n) d ds g))

  -- all of them
  pub list-held : (ds : List Diagnostic) → list_after_all (blanks n) 0 ds ≡ held_list n ds
  list-held [] = let e : 0 - held_limit n ≡ 0 = omega arith in rw (e, sub-zero)
  list-held (d ∷ ds) = (λ i. diagnosed (list-held ds i) (count-stored ds i) (lent_of d)) ∙ diagnostic-stored d ds

  length-cells : (ds : List Diagnostic) → length (cells diagnostic_words ds) ≡ diagnostic_size * length ds
  length-cells [] = refl
  length-cells (d ∷ ds) = let e : length (diagnostic_words d) ≡ diagnostic_size = sym (ap length (six-of d)) in rw (length-append, length-cells ds, e) (omega arith)

  -- the words of the final list
  pub held-words : (ds : List Diagnostic) → words (list_after_all (blanks n) 0 ds) ≡ held_cells n ds
  held-words ds =
      let kept = held n ds in
      let left : diagnostic_size * (n - length kept) ≡ diagnostic_size * n - length (cells diagnostic_words kept) = rw (length-cells kept) (omega arith) in
      ap words (list-held ds) ∙ words-append (listed kept) (blanks (n - length kept)) ∙ (λ i. words-listed kept i ++ words-blanks (n - length kept) i) ∙ ap (λ k. cells diagnostic_words kept ++ zeros k) left

  -- where all find room, all stand there
  pub held_all : (ds : List Diagnostic) → length (stored_diagnostics ds) ≤ n → held_cells n ds ≡ padded (diagnostic_size * n) (diagnostic_cells ds)
  held_all ds h = ap (λ (k : ℕ). padded (diagnostic_size * n) (cells diagnostic_words (drop k ds))) same
    where
      same : length ds - held_limit n ≡ length ds - diagnostic_limit
      same = omega (arith, h, length-drop (length ds - diagnostic_limit) ds)

  pub list-words : diagnostic_limit ≤ n → (ds : List Diagnostic) → words (list_after_all (blanks n) 0 ds) ≡ padded (diagnostic_size * n) (diagnostic_cells ds)
  list-words h ds = held-words ds ∙ held_all ds (omega (arith, h, few-stored ds))
