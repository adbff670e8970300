-- What a token of the first six kinds leaves alone. A kind goes by the token's first character, also where the token isn't taken. Assumes nothing.
use Rattle.std.specs.Prelude.{ℕ, ◌≡◌, ◌≢◌, eqb, if◌then◌else◌}
use Prim.Native.Char.{code}
use Rattle.std.proofs.Math.Option.{Option, none, some}
use Rattle.rules.specs.Text.{is_digit}
use Rattle.rules.specs.Rules.{State, stored}

-- the first six kinds of tokens
pub data FirstKind : Type 0 where
  clef_kind key_kind meter_kind octave_kind duration_kind accidental_kind : FirstKind

-- the kind of a token by its first character, if it is one of the six
unfoldable pub kind_of_byte : ℕ → Option FirstKind
kind_of_byte b =
    if eqb b (code "%") then some clef_kind
    else if eqb b (code "$") then some key_kind
    else if eqb b (code "@") then some meter_kind
    else if eqb b (code "'") then some octave_kind
    else if eqb b (code ",") then some octave_kind
    else if is_digit b then some duration_kind
    else if eqb b (code "x") then some accidental_kind
    else if eqb b (code "b") then some accidental_kind
    else if eqb b (code "n") then some accidental_kind
    else none

-- from s, before a token of the kind, to s', after it
pub record Framed (kind : FirstKind) (s s' : State) : Type 0 where
  -- it changes no note record, nor their number, nor the open bar's notes, nor the bars
  pub same_records : stored s' ≡ stored s
  pub same_open_bar : s'.open_bar ≡ s.open_bar
  pub same_bars : s'.bars ≡ s.bars
  -- and of the octave, the pattern with its cursor and the waiting accidental at most its own
  pub same_octave : kind ≢ octave_kind → s'.octave ≡ s.octave
  pub same_pattern : kind ≢ duration_kind → (s'.pattern ≡ s.pattern) × (s'.values_taken ≡ s.values_taken)
  pub same_accidental : kind ≢ accidental_kind → s'.pending_accidental ≡ s.pending_accidental
