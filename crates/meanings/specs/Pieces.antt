-- Pieces of a text that fit a row. Assumes nothing.
use Rattle.std.specs.Prelude.{◌≡◌, ◌+◌, ◌<◌, ◌≤◌, [], ◌++◌, length, Option, MatchOption}
use Rattle.std.specs.Iterator.{Count, at_most}
use Rattle.meanings.specs.declared.pieces.Piece.{Piece}
use Rattle.meanings.specs.declared.pieces.Pieces.{Pieces}

-- it is the first piece of what is left, and the next ones go on behind it
pub record IsFirstPiece (s : Pieces) (piece : Piece) (t : Pieces) : Type 0 where
  pub some : 0 < length piece.bytes.now
  pub parts : s.rest.now ≡ piece.bytes.now ++ t.rest.now
  pub from : piece.before ≡ s.before
  pub to : piece.end ≡ t.before
  pub counted : piece.end ≤ piece.before + length piece.bytes.now

-- the next piece is given, or there is none
abbrev pub GivesPiece : Pieces → Option Piece → Pieces → Type 0
GivesPiece s r t = MatchOption r (s.rest.now ≡ []) (λ piece. IsFirstPiece s piece t)

-- no more pieces are left than bytes
abbrev pub pieces_at_most : Pieces → Count
pieces_at_most s = at_most (length s.rest.now)
