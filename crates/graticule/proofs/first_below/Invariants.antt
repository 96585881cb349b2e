-- `graticule::first_below` finds the first sample on the line below the threshold. The loop: those of the columns before are not. Assumes nothing.
use Prim.Native.Nat.{ℕ, ◌≤◌, ◌<◌}
use mathlib.Core.Path.{◌≡◌}
use mathlib.Core.Bool.{false}
use lib.Signed.{lt_z}
use Rattle.graticule.specs.Look.{looked_at}
use Rattle.graticule.proofs.first_below.Given as goal

abbrev pub invariant-loop-column : goal.invariant-loop-column
invariant-loop-column l = (j : ℕ) → j < l.column → l.points.x1 ≤ j → lt_z (looked_at l.width l.points l.picture j) l.threshold ≡ false
