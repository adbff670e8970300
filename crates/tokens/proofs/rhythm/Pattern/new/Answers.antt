use Rattle.std.proofs.Common.{refl}
use Rattle.rules.specs.Values.{pattern_of}
use Rattle.tokens.proofs.rhythm.Pattern.new.Goals as goal

pub returns : goal.returns
unfolding pattern_of
returns c = refl
