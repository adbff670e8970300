-- The numbers of refusals. Assumes nothing.
use Rattle.std.specs.Prelude.{ℕ, ◌≡◌}
use Rattle.cards.specs.declared.error.CardError.{CardError}
use Rattle.cards.specs.declared.error.CardError.TheVariants.{Invalid, NoRoom}

abbrev pub error_number : CardError → ℕ
error_number Invalid = 14
error_number NoRoom = 15

abbrev pub Numbered : CardError → ℕ → Type 0
Numbered error number = number ≡ error_number error
