-- A line is cut off the start, and its field.
use Rattle.std.proofs.Common.{◌≡◌, ℕ, zero, suc, ◌+◌, ◌<◌, ◌≤◌, true, min, List, [], ◌∷◌, length, get_or, take, drop, refl, sym, ap, ◌∙◌, arith}
use mathlib.Core.Logic.{⊎_elim}
use lib.ListN.{drop_of_length-le}
use Rattle.std.proofs.lemmas.Bool.{cases_lt}
use Rattle.std.proofs.lemmas.Bool.Decides.{nat_tests}
use Rattle.rules.specs.Text.{bytes, begins}
use Rattle.rules.specs.Characters.{trim}
use Rattle.rules.specs.Fields.{Line, line_size, line_at, lines_after, key_size, is_field}

none_more : (n : ℕ) → n ≡ n + 0
none_more n = omega arith

one_more : (n j : ℕ) → n + 1 + j ≡ n + suc j
one_more n j = omega arith

-- skipping bytes is dropping them
lines_skip : (j n o : ℕ) (xs : List ℕ) (e : List Line) → lines_after j n o xs e ≡ lines_after 0 n (o + j) (drop j xs) e
unfolding lines_after
lines_skip zero n o xs e = λ i. lines_after 0 n (none_more o i) xs e
lines_skip (suc j) n o [] e = refl
lines_skip (suc j) n o (x ∷ xs) e = lines_skip j n (o + 1) xs e ∙ (λ i. lines_after 0 n (one_more o j i) (drop j xs) e)

-- the offset of nothing does not matter
pub lines_nil : (n o : ℕ) (xs : List ℕ) (e : List Line) → length xs ≡ 0 → lines_after 0 n o xs e ≡ e
unfolding lines_after
lines_nil n o [] e h = refl
lines_nil n o (x ∷ xs) e h = absurd (omega (arith, h))

-- a line with its byte 10
pub line_cut : (n o : ℕ) (xs : List ℕ) (e : List Line) → 0 < length xs → lines_after 0 n o xs e ≡ lines_after 0 (n + 1) (o + (line_size xs + 1)) (drop (line_size xs + 1) xs) (line_at n o xs ∷ e)
unfolding lines_after
line_cut n o [] e h = absurd (omega (arith, h))
line_cut n o (x ∷ xs) e h =
    let k = line_size (x ∷ xs) in
    let sum : o + 1 + k ≡ o + (k + 1) = omega arith in
    let same : suc k ≡ k + 1 = omega arith in
    lines_skip k (n + 1) (o + 1) xs (line_at n o (x ∷ xs) ∷ e) ∙ (λ i. lines_after 0 (n + 1) (sum i) (drop (same i) (x ∷ xs)) (line_at n o (x ∷ xs) ∷ e))

-- the last line may have none
pub line_past : (n o past : ℕ) (xs : List ℕ) (e : List Line) → 0 < length xs → past ≡ min (line_size xs + 1) (length xs)
    → lines_after 0 n o xs e ≡ lines_after 0 (n + 1) (o + past) (drop past xs) (line_at n o xs ∷ e)
line_past n o past xs e h p = ⊎_elim
    (λ l. let same : line_size xs + 1 ≡ past = omega (arith, l, p) in line_cut n o xs e h ∙ (λ i. lines_after 0 (n + 1) (o + same i) (drop (same i) xs) (line_at n o xs ∷ e)))
    (λ l. let all : length xs ≤ past = omega (arith, l, p) in
    let far : length xs ≤ line_size xs + 1 = omega (arith, l) in
    let none : length (drop past xs) ≡ 0 = ap length (drop_of_length-le xs all) in
    let none' : length (drop (line_size xs + 1) xs) ≡ 0 = ap length (drop_of_length-le xs far) in
    line_cut n o xs e h ∙ lines_nil (n + 1) (o + (line_size xs + 1)) (drop (line_size xs + 1) xs) (line_at n o xs ∷ e) none' ∙ sym (lines_nil (n + 1) (o + past) (drop past xs) (line_at n o xs ∷ e) none))
    (cases_lt (line_size xs) (length xs))

-- a line is within the text
pub line_at_part : (n o size : ℕ) (xs : List ℕ) → size ≡ line_size xs → record { number = n; content = trim (record { start = o; bytes = take size xs }) } ≡ line_at n o xs
line_at_part n o size xs e = λ i. record { number = n; content = trim (record { start = o; bytes = take (e i) xs }) }

-- `@`, letters and `:` make a field
pub field_some : (xs : List ℕ) → begins (bytes "@") xs ≡ true → 0 < key_size xs → get_or xs (1 + key_size xs) 0 ≡ 58 → is_field xs ≡ true
field_some xs b k e = grind (arith, nat_tests, b, k, e)
