-- `texts::put_samples` meets its contract.
use native.Mathlib.Omega.{arith}
use Rattle.format.proofs.Text.{samples_all}
use Rattle.texts.proofs.put_samples.Goals as goal

pub returns : goal.returns
returns c = samples_all _ _ _ c.loop-k.k (omega arith) c.requires c.loop-k.invariant
