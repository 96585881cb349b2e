-- The sign changes between the two places of the bracket, which draw together. Assumes nothing.
use Rattle.levelling.proofs.Levelling.{ends}
use Rattle.levelling.proofs.Direction.sign_change.Goals as goal

pub loop-bracket-init : goal.loop-bracket-init
loop-bracket-init c = ends c.args.self.dx c.args.self.dy c.args.self.flat
