-- The first k places are filled from the line. Assumes nothing.
use Prim.Native.Nat.{◌+◌, ◌*◌}
use mathlib.Core.Path.{◌≡◌}
use native.Mathlib.Omega.{arith}
use borrow.Author.Rules.{rules}
use lib.IntN.{pos}
use lib.ListN.{length, get_or}
use mir.Syntax.{w32}
use Rattle.arith.proofs.Machine.{read_back}
use Rattle.lists.specs.Grid.{placed, line_of}
use Rattle.lists.proofs.Tab.{fill_start, fill_step, fill_end}
use Rattle.lists.proofs.load_line.Goals as goal

pub loop-k-init : goal.loop-k-init
loop-k-init c = fill_start _ _

pub loop-k-preserved : goal.loop-k-preserved
unfolding placed
loop-k-preserved c =
    let l = c.loop-k in
    fill_step (placed c.args.at c.args.along c.args.picture.now) c.args.samples.now l.k l.samples _ l.invariant (omega arith)
    (read_back w32 (get_or c.args.picture.now (c.args.at + l.k * c.args.along) (pos 0)) (search rules))

pub returns : goal.returns
unfolding line_of
returns c =
    let l = c.loop-k in
    let e : length c.args.samples.now ≡ l.k = omega arith in
    rw e (fill_end (placed c.args.at c.args.along c.args.picture.now) c.args.samples.now l.k l.samples l.invariant (omega arith))
