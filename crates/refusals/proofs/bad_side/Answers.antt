-- `refusals::bad_side` is the test `bad_side`. Assumes nothing.
use Rattle.refusals.specs.Tests.{bad_side}
use Rattle.refusals.proofs.bad_side.Goals as goal

pub returns : goal.returns
unfolding bad_side
returns c = c.side_beyond.ensures
