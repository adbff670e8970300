-- Results in the form that C has. Assumes nothing.
use Rattle.std.specs.Prelude.{ℕ, ◌≡◌, Result, Ok, Err}
use Rattle.cards.specs.declared.error.CardError.{CardError}
use Rattle.cards.specs.declared.read.CardCounts.{CardCounts}
use Rattle.cards.specs.Errors.{error_number}
use Rattle.view.specs.declared.refusal.Stop.{Stop}
use Rattle.view.specs.Refusals.{refusal_number, place_number}
use Rattle.reader.specs.declared.read.Counts.{Counts}
use Rattle.pae.specs.declared.answers.Reading.{Reading}
use Rattle.pae.specs.declared.answers.CardWritten.{CardWritten}
use Rattle.pae.specs.declared.answers.CardRead.{CardRead}

-- of a reading: 0 and the counts, or a refusal's number and place
abbrev pub reading_of : Result Counts Stop → Reading
reading_of (Ok counts) =
    record { number = 0; place = 0; notes = counts.notes; bars = counts.bars; diagnostics = counts.diagnostics }
reading_of (Err stop) =
    record { number = refusal_number stop.refusal; place = place_number stop.place; notes = 0; bars = 0; diagnostics = 0 }

abbrev pub Says : Result Counts Stop → Reading → Type 0
Says result reading = reading ≡ reading_of result

-- of a card that is written: 0 and its length, or a refusal's number
abbrev pub written_of : Result ℕ CardError → CardWritten
written_of (Ok size) = record { number = 0; length = size }
written_of (Err error) = record { number = error_number error; length = 0 }

abbrev pub SaysWritten : Result ℕ CardError → CardWritten → Type 0
SaysWritten result written = written ≡ written_of result

-- of a card that is read: 0 and the counts, or a refusal's number
abbrev pub read_of : Result CardCounts CardError → CardRead
read_of (Ok counts) = record { number = 0; notes = counts.notes; bars = counts.bars }
read_of (Err error) = record { number = error_number error; notes = 0; bars = 0 }

abbrev pub SaysRead : Result CardCounts CardError → CardRead → Type 0
SaysRead result read = read ≡ read_of result
