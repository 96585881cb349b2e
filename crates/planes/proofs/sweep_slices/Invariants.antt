-- `sweep_slices` goes from slice to slice, and lends the part of the list that begins with each to a pass. Assumes nothing.
use Rattle.planes.specs.Sweep.{move_at, Swept}
use Rattle.planes.proofs.Treated.{first_slices}
use Rattle.planes.proofs.sweep_slices.Given as goal

abbrev pub invariant-loop-i : goal.invariant-loop-i
invariant-loop-i l = Swept l.shear.border l.shear.kernel (move_at l.shear.moves l.alike) (first_slices l.i l.s) l.initial.list l.list
