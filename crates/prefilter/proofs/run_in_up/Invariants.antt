-- `run_in_up`: j is the place that the next turn reads, and x the value after the turns so far. Assumes nothing.
use Rattle.std.proofs.Common.{◌≡◌, ◌+◌, ◌*◌, ◌-◌, ◌%◌, ◌<◌, length}
use Rattle.lists.specs.Line.{line}
use Rattle.spline.specs.Coefficients.{run_in, run}
use Rattle.prefilter.proofs.run_in_up.Given as goal

abbrev pub invariant-loop : goal.invariant-loop
invariant-loop l = record {
  inside : l.j < length l.s;
  place : l.j ≡ (run_in * (length l.s - 1) + l.counter) % length l.s;
  carried : l.x ≡ run (length l.s) (line l.s) l.counter;
}
