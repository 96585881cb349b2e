-- The sign changes between the two places of the bracket, which draw together. Assumes nothing.
use Prim.Native.Nat.{◌-◌}
use Rattle.levelling.specs.Search.{Between}
use Rattle.levelling.proofs.Direction.sign_change.Given as goal

abbrev pub invariant-loop-bracket : goal.invariant-loop-bracket
invariant-loop-bracket l = Between l.self.dx l.self.dy l.bracket.lo l.bracket.hi

abbrev pub decreases-loop-bracket : goal.decreases-loop-bracket
decreases-loop-bracket l = l.bracket.hi - l.bracket.lo
