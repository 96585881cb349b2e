-- `moves::bad_background` meets its contract: a background is judged as number 12 judges it, and no background never is. Assumes nothing.
use Rattle.std.proofs.Common.{arith}
use Rattle.std.proofs.lemmas.Grind.{common_steps}
use Rattle.std.proofs.lemmas.Int.{ints, to_z-of_z}
use Rattle.moves.specs.Border.{bad_background}
use Rattle.moves.proofs.bad_background.Goals as goal

pub returns-in-Wrapped : goal.returns-in-Wrapped
unfolding bad_background
returns-in-Wrapped c = grind (arith, common_steps)

pub returns-in-Background : goal.returns-in-Background
unfolding bad_background
returns-in-Background c = grind (arith, common_steps, ints, to_z-of_z)
