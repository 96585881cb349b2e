-- `texts::put_samples` meets its contract.
use Prim.Native.Nat.{◌*◌}
use mathlib.Core.List.{◌++◌}
use mathlib.Core.Path.{◌≡◌}
use lib.ListN.{drop}
use Rattle.lists.specs.Tab.{cat}
use Rattle.format.proofs.Text.{sample_at8}
use Rattle.texts.proofs.put_samples.Given as goal

abbrev pub invariant-loop-k : goal.invariant-loop-k
invariant-loop-k l = l.out ≡ cat (sample_at8 l.samples) l.k ++ drop (l.k * 8) l.initial.out
