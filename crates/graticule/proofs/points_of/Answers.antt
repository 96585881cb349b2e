-- `graticule::points_of` meets its contract. Assumes nothing.
use mathlib.Core.Path.{refl}
use mir.Syntax.{w64}
use mir.Facts.{to_z-of_z}
use Rattle.arith.proofs.Machine.{cast_unsigned}
use Rattle.graticule.proofs.points_of.Goals as goal

pub overflow_cast-result : goal.overflow_cast-result
overflow_cast-result c = rw (to_z-of_z c.ranges.x1) (cast_unsigned {w' = w64} tt c.ranges.x1 c.requires.0)

pub overflow_cast-result-2 : goal.overflow_cast-result-2
overflow_cast-result-2 c = rw (to_z-of_z c.ranges.y1) (cast_unsigned {w' = w64} tt c.ranges.y1 c.requires.1)

pub overflow_cast-result-3 : goal.overflow_cast-result-3
overflow_cast-result-3 c = rw (to_z-of_z c.ranges.x2) (cast_unsigned {w' = w64} tt c.ranges.x2 c.requires.2)

pub overflow_cast-result-4 : goal.overflow_cast-result-4
overflow_cast-result-4 c = rw (to_z-of_z c.ranges.y2) (cast_unsigned {w' = w64} tt c.ranges.y2 c.requires.3)

pub returns : goal.returns
returns c = rw (to_z-of_z c.ranges.x1, to_z-of_z c.ranges.y1, to_z-of_z c.ranges.x2, to_z-of_z c.ranges.y2) refl
