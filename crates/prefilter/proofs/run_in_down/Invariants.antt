-- `run_in_down`: j is the place that the next turn reads, and x the value after the turns so far. Assumes nothing.
use Rattle.std.proofs.Common.{◌≡◌, suc, ◌+◌, ◌-◌, ◌%◌, ◌<◌, length}
use Rattle.lists.specs.Line.{line}
use Rattle.spline.specs.Coefficients.{run_in, down}
use Rattle.prefilter.proofs.run_in_down.Given as goal

abbrev pub invariant-loop : goal.invariant-loop
invariant-loop l = record {
  inside : l.j < length l.u;
  place : l.j ≡ (length l.u + run_in - suc l.counter) % length l.u;
  carried : l.x ≡ down (length l.u) (line l.u) l.counter;
}
