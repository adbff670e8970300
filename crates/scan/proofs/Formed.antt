-- A text is well-formed by the table of its bytes' ranges exactly where it is UTF-8 in std's sense,
-- the encoding of some scalar values.
use Rattle.std.proofs.Common.{◌≡◌, ◌+◌, ◌-◌, ◌<◌, ◌≤◌, ◌*◌, ◌/◌, ◌%◌, ◌++◌, ℕ, true, false, List, [], ◌∷◌, length, take, drop, get_or, arith}
use Rattle.std.specs.Prelude.{◌&&◌, leb, ltb, zero, suc, refl}
use Rattle.std.specs.Str.{IsUtf8}
use Rattle.std.proofs.lemmas.Str.{IsUtf8-append, IsUtf8-nil, IsUtf8-encode, IsUtf8-drop, IsCharBoundary-from_take}
use Rattle.std.proofs.lemmas.Bool.{and_parts, and_from, leb-true, le-leb, ltb-true, lt-ltb, le-ltb, cond_both, cond-true, cond-false, both_ways, false_from_ne_true, false≢true, cases_lt}
use mathlib.Core.Path.{sym, ap, subst, ◌∙◌}
use mathlib.Core.Logic.{◌⊎◌, inl, inr, ⊎_elim}
use lib.ListN.{take-append-drop, length-drop}
use lib.Utf8.{scalar, scalars, encode, encodes, scalar_cases, low_scalar}
use Rattle.rules.specs.Characters.{Range, within, tail, fits, formed_size, formed_after, is_formed}

-- ---- a row of the table

abbrev Reads : List Range → List ℕ → Type 0
Reads [] xs = Unit {0}
Reads (r ∷ rs) [] = ⊥
Reads (r ∷ rs) (x ∷ xs) = (r.0 ≤ x) × (x ≤ r.1) × Reads rs xs

reads : (rs : List Range) (xs : List ℕ) → fits rs xs ≡ true → Reads rs xs
reads [] xs e = tt
reads (r ∷ rs) [] e = absurd (false≢true e)
reads (r ∷ rs) (x ∷ xs) e =
    let p = and_parts (within r x) (fits rs xs) e in
    let q = and_parts (leb r.0 x) (leb x r.1) p.0 in
    (leb-true r.0 x q.0, leb-true x r.1 q.1, reads rs xs p.1)

fit : (rs : List Range) (xs : List ℕ) → Reads rs xs → fits rs xs ≡ true
fit [] xs t = refl
fit (r ∷ rs) [] t = absurd t
fit (r ∷ rs) (x ∷ xs) t = and_from (within r x) (fits rs xs) (and_from (leb r.0 x) (leb x r.1) (le-leb r.0 x t.0) (le-leb x r.1 t.1)) (fit rs xs t.2)

abbrev In : Range → ℕ → Type 0
In r x = (r.0 ≤ x) × (x ≤ r.1)

fit1 : (r : Range) (bs : List ℕ) → 0 < length bs → In r (get_or bs 0 0) → fits (r ∷ []) bs ≡ true
fit1 r [] l h = absurd (omega arith)
fit1 r (a ∷ bs) l h = fit (r ∷ []) (a ∷ bs) (h.0, h.1, tt)

fit2 : (r s : Range) (bs : List ℕ) → 1 < length bs → In r (get_or bs 0 0) → In s (get_or bs 1 0) → fits (r ∷ s ∷ []) bs ≡ true
fit2 r s [] l h i = absurd (omega arith)
fit2 r s (a ∷ []) l h i = absurd (omega arith)
fit2 r s (a ∷ b ∷ bs) l h i = fit (r ∷ s ∷ []) (a ∷ b ∷ bs) (h.0, h.1, (i.0, i.1, tt))

fit3 : (r s t : Range) (bs : List ℕ) → 2 < length bs → In r (get_or bs 0 0) → In s (get_or bs 1 0) → In t (get_or bs 2 0) → fits (r ∷ s ∷ t ∷ []) bs ≡ true
fit3 r s t [] l h i j = absurd (omega arith)
fit3 r s t (a ∷ []) l h i j = absurd (omega arith)
fit3 r s t (a ∷ b ∷ []) l h i j = absurd (omega arith)
fit3 r s t (a ∷ b ∷ c ∷ bs) l h i j = fit (r ∷ s ∷ t ∷ []) (a ∷ b ∷ c ∷ bs) (h.0, h.1, (i.0, i.1, (j.0, j.1, tt)))

fit4 : (r s t u : Range) (bs : List ℕ) → 3 < length bs → In r (get_or bs 0 0) → In s (get_or bs 1 0) → In t (get_or bs 2 0) → In u (get_or bs 3 0) → fits (r ∷ s ∷ t ∷ u ∷ []) bs ≡ true
fit4 r s t u [] l h i j k = absurd (omega arith)
fit4 r s t u (a ∷ []) l h i j k = absurd (omega arith)
fit4 r s t u (a ∷ b ∷ []) l h i j k = absurd (omega arith)
fit4 r s t u (a ∷ b ∷ c ∷ []) l h i j k = absurd (omega arith)
fit4 r s t u (a ∷ b ∷ c ∷ d ∷ bs) l h i j k = fit (r ∷ s ∷ t ∷ u ∷ []) (a ∷ b ∷ c ∷ d ∷ bs) (h.0, h.1, (i.0, i.1, (j.0, j.1, (k.0, k.1, tt))))

-- ---- the bytes of a character

pub one : (c : ℕ) → c < 128 → encode c ≡ c ∷ []
unfolding encode
one c h = cond-true _ _ _ (lt-ltb c 128 h)

pub two : (c : ℕ) → 128 ≤ c → c < 2048 → encode c ≡ (192 + c / 64) ∷ (128 + c % 64) ∷ []
unfolding encode
two c l h = cond-false _ _ _ (le-ltb c 128 l) ∙ cond-true _ _ _ (lt-ltb c 2048 h)

pub three : (c : ℕ) → 2048 ≤ c → c < 65536 → encode c ≡ (224 + c / 4096) ∷ (128 + c / 64 % 64) ∷ (128 + c % 64) ∷ []
unfolding encode
three c l h = cond-false _ _ _ (le-ltb c 128 (omega arith)) ∙ cond-false _ _ _ (le-ltb c 2048 l) ∙ cond-true _ _ _ (lt-ltb c 65536 h)

pub four : (c : ℕ) → 65536 ≤ c → encode c ≡ (240 + c / 262144) ∷ (128 + c / 4096 % 64) ∷ (128 + c / 64 % 64) ∷ (128 + c % 64) ∷ []
unfolding encode
four c l = cond-false _ _ _ (le-ltb c 128 (omega arith)) ∙ cond-false _ _ _ (le-ltb c 2048 (omega arith)) ∙ cond-false _ _ _ (le-ltb c 65536 l)

high_scalar : (c : ℕ) → 57344 ≤ c → c < 1114112 → scalar c ≡ true
high_scalar c l h = cond-false _ _ _ (le-ltb c 55296 (omega arith)) ∙ and_from _ _ (le-leb 57344 c l) (lt-ltb c 1114112 h)

-- ---- a row that fits is a character

abbrev Begins : List ℕ → ℕ → Type 0
Begins bs n = (n ≤ length bs) × IsUtf8 (take n bs)

is_text : (c : ℕ) (bs : List ℕ) → scalar c ≡ true → encode c ≡ bs → IsUtf8 bs
is_text c bs s e = subst IsUtf8 e (IsUtf8-encode c s)

of_two : (a b : ℕ) → In (194, 223) a → In (128, 191) b → IsUtf8 (a ∷ b ∷ [])
of_two a b h i =
    let h0 = h.0 in let h1 = h.1 in let i0 = i.0 in let i1 = i.1 in
    let c : ℕ = (a - 192) * 64 + (b - 128) in
    let p : 192 + c / 64 ≡ a = omega arith in
    let q : 128 + c % 64 ≡ b = omega arith in
    is_text c (a ∷ b ∷ []) (low_scalar c (omega arith)) (two c (omega arith) (omega arith) ∙ (λ k. p k ∷ q k ∷ []))

of_three : (a b d : ℕ) → 224 ≤ a → a < 240 → In (128, 191) b → In (128, 191) d → (let high : ℕ = (a - 224) * 64 + (b - 128) in (32 ≤ high) × ((high < 864) ⊎ (896 ≤ high))) → IsUtf8 (a ∷ b ∷ d ∷ [])
of_three a b d h0 h1 i j g =
    let i0 = i.0 in let i1 = i.1 in let j0 = j.0 in let j1 = j.1 in let g0 = g.0 in
    let c : ℕ = (a - 224) * 4096 + (b - 128) * 64 + (d - 128) in
    let p : 224 + c / 4096 ≡ a = omega arith in
    let q : 128 + c / 64 % 64 ≡ b = omega arith in
    let r : 128 + c % 64 ≡ d = omega arith in
    is_text c (a ∷ b ∷ d ∷ []) (⊎_elim (λ k. low_scalar c (omega arith)) (λ k. high_scalar c (omega arith) (omega arith)) g.1)
    (three c (omega arith) (omega arith) ∙ (λ k. p k ∷ q k ∷ r k ∷ []))

of_four : (a b d f : ℕ) → 240 ≤ a → In (128, 191) b → In (128, 191) d → In (128, 191) f → (let high : ℕ = (a - 240) * 64 + (b - 128) in (16 ≤ high) × (high < 272)) → IsUtf8 (a ∷ b ∷ d ∷ f ∷ [])
of_four a b d f h0 i j k g =
    let i0 = i.0 in let i1 = i.1 in let j0 = j.0 in let j1 = j.1 in let k0 = k.0 in let k1 = k.1 in let g0 = g.0 in let g1 = g.1 in
    let c : ℕ = (a - 240) * 262144 + (b - 128) * 4096 + (d - 128) * 64 + (f - 128) in
    let p : 240 + c / 262144 ≡ a = omega arith in
    let q : 128 + c / 4096 % 64 ≡ b = omega arith in
    let r : 128 + c / 64 % 64 ≡ d = omega arith in
    let s : 128 + c % 64 ≡ f = omega arith in
    is_text c (a ∷ b ∷ d ∷ f ∷ []) (high_scalar c (omega arith) (omega arith)) (four c (omega arith) ∙ (λ m. p m ∷ q m ∷ r m ∷ s m ∷ []))

row1 : (bs : List ℕ) → Reads ((0, 127) ∷ []) bs → Begins bs 1
row1 [] t = absurd t
row1 (a ∷ bs) t = let h = t.1 in (omega arith, is_text a (a ∷ []) (low_scalar a (omega arith)) (one a (omega arith)))

row2 : (bs : List ℕ) → Reads ((194, 223) ∷ tail ∷ []) bs → Begins bs 2
row2 [] t = absurd t
row2 (a ∷ []) t = absurd t.2
row2 (a ∷ b ∷ bs) t = (omega arith, of_two a b (t.0, t.1) (t.2.0, t.2.1))

row3 : (r s : Range) → 224 ≤ r.0 → r.1 < 240 → 128 ≤ s.0 → s.1 < 192 → (bs : List ℕ)
    → ((x y : ℕ) → In r x → In s y → let high : ℕ = (x - 224) * 64 + (y - 128) in (32 ≤ high) × ((high < 864) ⊎ (896 ≤ high)))
    → Reads (r ∷ s ∷ tail ∷ []) bs → Begins bs 3
row3 r s p q u v [] h t = absurd t
row3 r s p q u v (a ∷ []) h t = absurd t.2
row3 r s p q u v (a ∷ b ∷ []) h t = absurd t.2.2
row3 r s p q u v (a ∷ b ∷ c ∷ bs) h t =
    let ta = t.0 in let tb = t.1 in let ua = t.2.0 in let ub = t.2.1 in let w = t.2.2 in
    (omega arith, of_three a b c (omega arith) (omega arith) (omega arith, omega arith) (w.0, w.1) (h a b (ta, tb) (ua, ub)))

row4 : (r s : Range) → 240 ≤ r.0 → 128 ≤ s.0 → s.1 < 192 → (bs : List ℕ)
    → ((x y : ℕ) → In r x → In s y → let high : ℕ = (x - 240) * 64 + (y - 128) in (16 ≤ high) × (high < 272))
    → Reads (r ∷ s ∷ tail ∷ tail ∷ []) bs → Begins bs 4
row4 r s p u v [] h t = absurd t
row4 r s p u v (a ∷ []) h t = absurd t.2
row4 r s p u v (a ∷ b ∷ []) h t = absurd t.2.2
row4 r s p u v (a ∷ b ∷ c ∷ []) h t = absurd t.2.2.2
row4 r s p u v (a ∷ b ∷ c ∷ d ∷ bs) h t =
    let ta = t.0 in let tb = t.1 in let ua = t.2.0 in let ub = t.2.1 in let w = t.2.2 in
    (omega arith, of_four a b c d (omega arith) (omega arith, omega arith) (w.0, w.1) (w.2.0, w.2.1) (h a b (ta, tb) (ua, ub)))

-- ---- where no row fits, no character begins

abbrev Unfit : List Range → List ℕ → Type 0
Unfit row bs = fits row bs ≡ false

pub record NoRow (bs : List ℕ) : Type 0 where
  r1 : Unfit ((0, 127) ∷ []) bs
  r2 : Unfit ((194, 223) ∷ tail ∷ []) bs
  r3 : Unfit ((224, 224) ∷ (160, 191) ∷ tail ∷ []) bs
  r4 : Unfit ((225, 236) ∷ tail ∷ tail ∷ []) bs
  r5 : Unfit ((237, 237) ∷ (128, 159) ∷ tail ∷ []) bs
  r6 : Unfit ((238, 239) ∷ tail ∷ tail ∷ []) bs
  r7 : Unfit ((240, 240) ∷ (144, 191) ∷ tail ∷ tail ∷ []) bs
  r8 : Unfit ((241, 243) ∷ tail ∷ tail ∷ tail ∷ []) bs
  r9 : Unfit ((244, 244) ∷ (128, 143) ∷ tail ∷ tail ∷ []) bs

-- one of the rows fits the bytes of each character
module _ (c : ℕ) (t : List ℕ) where
  low : c < 128 → NoRow (encode c ++ t) → ⊥
  low h n = let m = subst (λ bs. NoRow (bs ++ t)) (one c h) n in both_ways _ m.r1 (fit1 (0, 127) (c ∷ t) (omega arith) (omega arith, omega arith))

  pair : 128 ≤ c → c < 2048 → NoRow (encode c ++ t) → ⊥
  pair l h n =
      let m = subst (λ bs. NoRow (bs ++ t)) (two c l h) n in
      both_ways _ m.r2 (fit2 (194, 223) tail ((192 + c / 64) ∷ (128 + c % 64) ∷ t) (omega arith) (omega arith, omega arith) (omega arith, omega arith))

  triple : 2048 ≤ c → c < 65536 → (c < 55296) ⊎ (57344 ≤ c) → NoRow (encode c ++ t) → ⊥
  triple l h s n =
      let m = subst (λ bs. NoRow (bs ++ t)) (three c l h) n in
      let bs : List ℕ = (224 + c / 4096) ∷ (128 + c / 64 % 64) ∷ (128 + c % 64) ∷ t in
      let z : In tail (128 + c % 64) = (omega arith, omega arith) in
      let y : In tail (128 + c / 64 % 64) = (omega arith, omega arith) in
      ⊎_elim
      (λ a. both_ways _ m.r3 (fit3 (224, 224) (160, 191) tail bs (omega arith) (omega arith, omega arith) (omega arith, omega arith) z))
      (λ a. ⊎_elim
      (λ b. both_ways _ m.r4 (fit3 (225, 236) tail tail bs (omega arith) (omega arith, omega arith) y z))
      (λ b. ⊎_elim
      (λ d. both_ways _ m.r5 (fit3 (237, 237) (128, 159) tail bs (omega arith) (omega arith, omega arith) (omega arith, ⊎_elim (λ f. omega arith) (λ f. absurd (omega arith)) s) z))
      (λ d. both_ways _ m.r6 (fit3 (238, 239) tail tail bs (omega arith) (omega arith, omega arith) y z))
      (cases_lt (c / 4096) 14))
      (cases_lt (c / 4096) 13))
      (cases_lt (c / 4096) 1)

  wide : 65536 ≤ c → c < 1114112 → NoRow (encode c ++ t) → ⊥
  wide l h n =
      let m = subst (λ bs. NoRow (bs ++ t)) (four c l) n in
      let bs : List ℕ = (240 + c / 262144) ∷ (128 + c / 4096 % 64) ∷ (128 + c / 64 % 64) ∷ (128 + c % 64) ∷ t in
      let w : In tail (128 + c % 64) = (omega arith, omega arith) in
      let z : In tail (128 + c / 64 % 64) = (omega arith, omega arith) in
      let y : In tail (128 + c / 4096 % 64) = (omega arith, omega arith) in
      ⊎_elim
      (λ a. both_ways _ m.r7 (fit4 (240, 240) (144, 191) tail tail bs (omega arith) (omega arith, omega arith) (omega arith, omega arith) z w))
      (λ a. ⊎_elim
      (λ b. both_ways _ m.r8 (fit4 (241, 243) tail tail tail bs (omega arith) (omega arith, omega arith) y z w))
      (λ b. both_ways _ m.r9 (fit4 (244, 244) (128, 143) tail tail bs (omega arith) (omega arith, omega arith) (omega arith, omega arith) z w))
      (cases_lt (c / 262144) 4))
      (cases_lt (c / 262144) 1)

abbrev NoChar : List ℕ → Type 0
NoChar bs = (c : ℕ) (t : List ℕ) → scalar c ≡ true → bs ≡ encode c ++ t → ⊥

pub under : (c : ℕ) → scalar c ≡ true → (c < 1114112) × ((c < 55296) ⊎ (57344 ≤ c))
under c s = ⊎_elim (λ h. (omega arith, inl h)) (λ h. (h.1, inr h.0)) (scalar_cases c s)

no_row : (bs : List ℕ) → NoRow bs → NoChar bs
no_row bs n c t s e =
    let m : NoRow (encode c ++ t) = subst NoRow e n in
    let u = under c s in
    ⊎_elim (λ a. low c t a m) (λ a. ⊎_elim (λ b. pair c t a b m) (λ b. ⊎_elim (λ d. triple c t b d u.1 m) (λ d. wide c t d u.0 m) (cases_lt c 65536)) (cases_lt c 2048)) (cases_lt c 128)

-- ---- the size of the first character

pub record Sized (bs : List ℕ) (n : ℕ) : Type 0 where
  none : n ≡ 0 → NoChar bs
  some : 0 < n → Begins bs n

here : (bs : List ℕ) (n : ℕ) → 0 < n → Begins bs n → Sized bs n
here bs n h b = record { none = λ e. absurd (omega arith); some = λ _. b }

sized : (bs : List ℕ) → 0 < length bs → Sized bs (formed_size bs)
unfolding formed_size
sized bs l =
    let P = Sized bs in
    cond_both _ _ _ P (λ e. here bs 1 (omega arith) (row1 bs (reads ((0, 127) ∷ []) bs e)))
    (λ f1. cond_both _ _ _ P (λ e. here bs 2 (omega arith) (row2 bs (reads ((194, 223) ∷ tail ∷ []) bs e)))
    (λ f2. cond_both _ _ _ P (λ e. here bs 3 (omega arith) (row3 (224, 224) (160, 191) (omega arith) (omega arith) (omega arith) (omega arith) bs (λ x y i j. (omega (arith, i.0, i.1, j.0, j.1), inl (omega (arith, i.0, i.1, j.0, j.1)))) (reads ((224, 224) ∷ (160, 191) ∷ tail ∷ []) bs e)))
    (λ f3. cond_both _ _ _ P (λ e. here bs 3 (omega arith) (row3 (225, 236) tail (omega arith) (omega arith) (omega arith) (omega arith) bs (λ x y i j. (omega (arith, i.0, i.1, j.0, j.1), inl (omega (arith, i.0, i.1, j.0, j.1)))) (reads ((225, 236) ∷ tail ∷ tail ∷ []) bs e)))
    (λ f4. cond_both _ _ _ P (λ e. here bs 3 (omega arith) (row3 (237, 237) (128, 159) (omega arith) (omega arith) (omega arith) (omega arith) bs (λ x y i j. (omega (arith, i.0, i.1, j.0, j.1), inl (omega (arith, i.0, i.1, j.0, j.1)))) (reads ((237, 237) ∷ (128, 159) ∷ tail ∷ []) bs e)))
    (λ f5. cond_both _ _ _ P (λ e. here bs 3 (omega arith) (row3 (238, 239) tail (omega arith) (omega arith) (omega arith) (omega arith) bs (λ x y i j. (omega (arith, i.0, i.1, j.0, j.1), inr (omega (arith, i.0, i.1, j.0, j.1)))) (reads ((238, 239) ∷ tail ∷ tail ∷ []) bs e)))
    (λ f6. cond_both _ _ _ P (λ e. here bs 4 (omega arith) (row4 (240, 240) (144, 191) (omega arith) (omega arith) (omega arith) bs (λ x y i j. (omega (arith, i.0, i.1, j.0, j.1), omega (arith, i.0, i.1, j.0, j.1))) (reads ((240, 240) ∷ (144, 191) ∷ tail ∷ tail ∷ []) bs e)))
    (λ f7. cond_both _ _ _ P (λ e. here bs 4 (omega arith) (row4 (241, 243) tail (omega arith) (omega arith) (omega arith) bs (λ x y i j. (omega (arith, i.0, i.1, j.0, j.1), omega (arith, i.0, i.1, j.0, j.1))) (reads ((241, 243) ∷ tail ∷ tail ∷ tail ∷ []) bs e)))
    (λ f8. cond_both _ _ _ P (λ e. here bs 4 (omega arith) (row4 (244, 244) (128, 143) (omega arith) (omega arith) (omega arith) bs (λ x y i j. (omega (arith, i.0, i.1, j.0, j.1), omega (arith, i.0, i.1, j.0, j.1))) (reads ((244, 244) ∷ (128, 143) ∷ tail ∷ tail ∷ []) bs e)))
    (λ f9. record {
      none = λ _. no_row bs (record { r1 = f1; r2 = f2; r3 = f3; r4 = f4; r5 = f5; r6 = f6; r7 = f7; r8 = f8; r9 = f9 });
      some = λ h. absurd (omega arith);
    })))))))))

-- ---- the whole text

behind : (skip : ℕ) (bs : List ℕ) → formed_after skip bs ≡ is_formed (drop skip bs)
unfolding formed_after
behind zero bs = refl
behind (suc skip) [] = refl
behind (suc skip) (b ∷ bs) = behind skip bs

less : (k : ℕ) (b : ℕ) (bs : List ℕ) → 0 < k → drop (k - 1) bs ≡ drop k (b ∷ bs)
less zero b bs h = absurd (omega arith)
less (suc k) b bs h = let e : suc k - 1 ≡ k = omega arith in ap (λ (n : ℕ). drop n bs) e

step : (b : ℕ) (bs : List ℕ) → is_formed (b ∷ bs) ≡ (ltb 0 (formed_size (b ∷ bs)) && formed_after (formed_size (b ∷ bs) - 1) bs)
unfolding formed_after
step b bs = refl

pub formed_text : (n : ℕ) (bs : List ℕ) → length bs ≤ n → is_formed bs ≡ true → IsUtf8 bs
formed_text n [] l e = IsUtf8-nil
formed_text zero (b ∷ bs) l e = absurd (omega arith)
formed_text (suc n) (b ∷ bs) l e =
    let k = formed_size (b ∷ bs) in
    let p = and_parts (ltb 0 k) (formed_after (k - 1) bs) (sym (step b bs) ∙ e) in
    let more : 0 < k = ltb-true 0 k p.0 in
    let s = (sized (b ∷ bs) (omega arith)).some more in
    let rest : is_formed (drop k (b ∷ bs)) ≡ true = ap is_formed (sym (less k b bs more)) ∙ sym (behind (k - 1) bs) ∙ p.1 in
    let short : length (drop k (b ∷ bs)) ≤ n = omega (arith, length-drop k (b ∷ bs)) in
    subst IsUtf8 (take-append-drop k (b ∷ bs)) (IsUtf8-append (take k (b ∷ bs)) (drop k (b ∷ bs)) s.1 (formed_text n (drop k (b ∷ bs)) short rest))

-- a text that is not empty begins with a character
first_char : (b : ℕ) (bs cs : List ℕ) → scalars cs ≡ true → encodes cs ≡ b ∷ bs → NoChar (b ∷ bs) → ⊥
first_char b bs [] s e n = let z : 0 ≡ length (b ∷ bs) = ap length e in absurd (omega arith)
first_char b bs (c ∷ cs) s e n = n c (encodes cs) (and_parts (scalar c) (scalars cs) s).0 (sym e)

empty : is_formed [] ≡ true
unfolding formed_after
empty = refl

pub text_formed : (n : ℕ) (bs : List ℕ) → length bs ≤ n → IsUtf8 bs → is_formed bs ≡ true
text_formed n [] l u = empty
text_formed zero (b ∷ bs) l u = absurd (omega arith)
text_formed (suc n) (b ∷ bs) l u =
    let k = formed_size (b ∷ bs) in
    let t = sized (b ∷ bs) (omega arith) in
    ⊎_elim
    (λ h. absurd (first_char b bs u.0 u.1.0 u.1.1 (t.none (omega arith))))
    (λ more.
    let s = t.some more in
    let short : length (drop k (b ∷ bs)) ≤ n = omega (arith, length-drop k (b ∷ bs)) in
    let rest = text_formed n (drop k (b ∷ bs)) short (IsUtf8-drop (b ∷ bs) k u (IsCharBoundary-from_take (b ∷ bs) k u s.0 s.1)) in
    step b bs ∙ and_from (ltb 0 k) (formed_after (k - 1) bs) (lt-ltb 0 k more) (behind (k - 1) bs ∙ ap is_formed (less k b bs more) ∙ rest))
    (cases_lt k 1)

pub formed_if_text : (bs : List ℕ) → IsUtf8 bs → true ≡ is_formed bs
formed_if_text bs u = let l : length bs ≤ length bs = omega arith in sym (text_formed (length bs) bs l u)

pub unformed_if_none : (bs : List ℕ) → (IsUtf8 bs → ⊥) → false ≡ is_formed bs
unformed_if_none bs h = let l : length bs ≤ length bs = omega arith in sym (false_from_ne_true (is_formed bs) (λ k. h (formed_text (length bs) bs l k)))
