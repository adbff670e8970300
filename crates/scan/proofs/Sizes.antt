-- Blanks below 128.
use Rattle.std.proofs.Common.{◌≡◌, ℕ, ◌<◌, List, ◌∷◌, arith}
use borrow.Author.Tests.{lt-ltb}
use Rattle.std.proofs.lemmas.Bool.Decides.{nat_tests}
use Rattle.rules.specs.Characters.{within_one, character_size, code_point, white_space, is_blank}
use Rattle.scan.specs.Low.{is_low_blank}

low : (c : ℕ) → c < 128 → within_one white_space c ≡ is_low_blank c
low c h = grind (arith, nat_tests)

pub blank_low : (b : ℕ) (bs : List ℕ) → b < 128 → is_blank (b ∷ bs) ≡ is_low_blank b
unfolding is_blank code_point character_size
blank_low b bs h = rw (lt-ltb b 128 h) (low b h)
