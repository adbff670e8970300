-- The first characters of bytes, and those behind them. Assumes nothing.
use Rattle.std.proofs.Common.{ℕ, zero, suc, ◌≡◌, ◌+◌, ◌-◌, ◌<◌, ◌≤◌, ◌∙◌, refl, ap, arith, List, [], ◌∷◌, length, take, take_all, drop, length-drop}
use Rattle.rows.specs.Shown.{shown_size, beginning_size}

-- none are left, or none are asked for
pub beginning_none : (most : ℕ) (rest : List ℕ) → length rest ≡ 0 → beginning_size most rest ≡ 0
beginning_none zero rest h = refl
beginning_none (suc most) [] h = refl
beginning_none (suc most) (b ∷ rest) h = absurd (omega (arith, h))

pub beginning_more : (most : ℕ) (rest : List ℕ) → 0 < length rest
    → beginning_size (suc most) rest ≡ shown_size rest + beginning_size most (drop (shown_size rest) rest)
beginning_more most [] h = absurd (omega (arith, h))
beginning_more most (b ∷ rest) h = refl

-- one character more
pub beginning_step : (most i : ℕ) (text rest : List ℕ) (size : ℕ) (next : List ℕ)
    → i < most → 0 < length rest → length rest ≤ length text → size ≤ length rest
    → size ≡ shown_size rest → next ≡ take (length rest - size) (drop size rest)
    → length text - length rest + beginning_size (most - i) rest ≡ beginning_size most text
    → length text - length next + beginning_size (most - (i + 1)) next ≡ beginning_size most text
beginning_step most i text rest size next w some within small s n h =
    let k : most - i ≡ suc (most - (i + 1)) = omega (arith, w) in
    let behind : next ≡ drop size rest = n ∙ take_all _ _ (omega (arith, length-drop size rest)) in
    let e : beginning_size (most - i) rest ≡ size + beginning_size (most - (i + 1)) next
    = rw (behind, s) (ap (λ k. beginning_size k rest) k ∙ beginning_more (most - (i + 1)) rest some) in
    let long : length next ≡ length rest - size = ap (λ (l : List ℕ). length l) behind ∙ length-drop size rest in
    omega (arith, e, h, within, small, long)

pub beginning_done : (most i : ℕ) (text rest : List ℕ) → most ≤ i
    → length text - length rest + beginning_size (most - i) rest ≡ beginning_size most text → length text - length rest ≡ beginning_size most text
beginning_done most i text rest w h =
    let k : most - i ≡ 0 = omega (arith, w) in
    let e : beginning_size (most - i) rest ≡ 0 = ap (λ k. beginning_size k rest) k in
    omega (arith, e, h)
