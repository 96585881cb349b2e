-- `rows::held_of` holds a move under background alone. Assumes nothing.
use mathlib.Core.Path.{refl}
use mir.Syntax.{w64}
use mir.Facts.{to_z-of_z}
use Rattle.arith.proofs.Machine.{read_back}
use Rattle.moves.specs.Row.{held}
use Rattle.rows.proofs.held_of.Goals as goal

pub returns-in-Wrapped : goal.returns-in-Wrapped
unfolding held
returns-in-Wrapped c =
    rw (to_z-of_z c.ranges.d, c.in-Wrapped.is) (refl, c.requires.1)

pub returns-in-Background : goal.returns-in-Background
unfolding held
returns-in-Background c =
    rw (read_back w64 _ c.held_to.type_inv, c.in-Background.is) (rw (to_z-of_z c.ranges.d) at c.held_to.ensures)
