-- `sweep` goes over the slices, or over the rows with slices and rows exchanged. Assumes nothing.
use Rattle.planes.proofs.Three.{exchanged_within, exchanged_swept}
use Rattle.planes.proofs.sweep.Goals as goal

pub sweep_slices-requires-clause-slices_within : goal.sweep_slices-requires-clause-slices_within
sweep_slices-requires-clause-slices_within c =
    rw c.exchanged.ensures (exchanged_within c.args.s 294912 c.args.list.now c.requires.slices_within)

pub returns-then-s : goal.returns-then-s
returns-then-s c =
    exchanged_swept c.args.shear c.args.s c.args.list.now _ c.requires.sweepable.columns.0 (rw c.exchanged.ensures at c.sweep_slices.ensures)
