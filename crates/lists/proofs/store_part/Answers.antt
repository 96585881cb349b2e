-- The first k places of the line are put. Assumes nothing.
use mathlib.Core.Path.{refl}
use borrow.Author.Rules.{rules}
use mir.Syntax.{w32}
use Rattle.arith.proofs.Machine.{read_back}
use Rattle.lists.specs.Line.{line}
use Rattle.lists.proofs.Grid.{put_none, put_more}
use Rattle.lists.proofs.store_part.Goals as goal

pub loop-k-init : goal.loop-k-init
loop-k-init c = put_none _ _ _ _

pub loop-k-preserved : goal.loop-k-preserved
loop-k-preserved c =
    let l = c.loop-k in
    put_more c.args.at c.args.along _ l.k c.args.picture.now l.picture _ _ l.invariant refl (read_back w32 (line c.args.samples.now l.k) (search rules))
