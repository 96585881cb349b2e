-- `readings::float` is v/128. Assumes nothing.
use mir.Facts.{to_z-of_z}
use Rattle.readings.proofs.Exact.{converts, float_is}
use Rattle.readings.proofs.float.Goals as goal

pub int_to_float-result : goal.int_to_float-result
int_to_float-result c = rw (to_z-of_z c.ranges.v) (converts c.args.v c.requires)

pub returns : goal.returns
returns c = rw (to_z-of_z c.ranges.v) (float_is c.args.v c.requires)
