-- Signs of keys, in the rules' words. Assumes nothing.
use Rattle.std.specs.Prelude.{ℤ, pos, negsuc, Option, Some, None}
use Rattle.std.proofs.Math.Option as math
use Rattle.tokens.specs.declared.attributes.Sign.{Sign}
use Rattle.tokens.specs.declared.attributes.Sign.TheVariants.{Sharp, Flat}

-- the alteration of a sign
abbrev pub sign_number : Sign → ℤ
sign_number Sharp = pos 1
sign_number Flat = negsuc 0

-- the sign's, if there is one
abbrev pub sign_in : Option Sign → math.Option ℤ
sign_in (Some s) = math.some (sign_number s)
sign_in None = math.none
