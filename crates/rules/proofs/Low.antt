-- The classes of bytes that tokens are cut by hold bytes below 128 alone. Assumes nothing.
use Prim.Native.Nat.{ℕ, ◌<◌}
use mathlib.Core.Path.{◌≡◌, refl}
use mathlib.Core.Bool.{Bool, true, false, ◌&&◌, ◌||◌, false≢true}
use mathlib.Core.List.{List, [], ◌∷◌}
use native.Mathlib.Omega.{arith}
use borrow.Author.Tests.{leb-true, ltb-true, eqb-true}
use lib.Dec.{eqb, leb, ltb}
use Rattle.rules.specs.Text.{bytes, among, is_digit, every}
use Rattle.rules.specs.Cut.{is_duration, is_key_byte, is_meter_byte}

-- only bytes below 128 have the property
abbrev pub Low : (ℕ → Bool) → Type 0
Low p = (c : ℕ) → p c ≡ true → c < 128

abbrev pub is_low : ℕ → Bool
is_low k = ltb k 128

both : (s t : Bool) → s && t ≡ true → (s ≡ true) × (t ≡ true)
both true t e = (refl, e)
both false t e = absurd (false≢true e)

or-low : {s t : Bool} {c : ℕ} → (s ≡ true → c < 128) → (t ≡ true → c < 128) → s || t ≡ true → c < 128
or-low {s = true} f g e = f refl
or-low {s = false} f g e = g e

pub same_low : (b : ℕ) → b < 128 → Low (λ c. eqb c b)
same_low b h c e = omega (arith, h, eqb-true c b e)

pub among-low : (ks : List ℕ) → every is_low ks ≡ true → Low (among ks)
among-low [] h c e = absurd (false≢true e)
among-low (k ∷ ks) h c e = let g = both (is_low k) (every is_low ks) h in or-low {s = eqb c k} (same_low k (ltb-true k 128 g.0) c) (among-low ks g.1 c) e

range-low : (a z c : ℕ) → z < 128 → leb a c && leb c z ≡ true → c < 128
range-low a z c h e = omega (arith, h, leb-true c z (both (leb a c) (leb c z) e).1)

pub digit_low : Low is_digit
digit_low c e = range-low 48 57 c (omega arith) e

pub duration-low : Low is_duration
duration-low c e = or-low (digit_low c) (same_low 46 (omega arith) c) e

pub key-low : Low is_key_byte
key-low c e = or-low (range-low 65 71 c (omega arith)) (among-low (bytes "xbn[]") refl c) e

pub meter-low : Low is_meter_byte
meter-low c e = or-low (digit_low c) (among-low (bytes "/c.+") refl c) e
