-- `readings::floats_out` is `forms_out` of floats, and nothing is rounded. Assumes nothing.
use Rattle.readings.proofs.Calls.{floats_exact}
use Rattle.readings.proofs.floats_out.Goals as goal

pub returns : goal.returns
returns c = floats_exact _ _ _ _ _ _ c.forms_out.ensures
