use Rattle.tokens.specs.Kinds.{token_in}
use Rattle.view.proofs.WalkLaws.{walk_ready, walk_stops}
use Rattle.reader.proofs.walk.Reader.walk.Goals as goal

pub step-requires : goal.step-requires
step-requires c = walk_ready _ _ _ _ c.loop-span.invariant.walked c.requires

pub returns-in-Err-clause-run : goal.returns-in-Err-clause-run
returns-in-Err-clause-run c =
    walk_stops _ _ _ _ c.loop-span.invariant.walked _ _ c.in-Some.ensures.steps (token_in c.decode.result) c.decode.ensures _ c.in-Err.ensures.token
