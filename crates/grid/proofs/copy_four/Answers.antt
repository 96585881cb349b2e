-- `copy_four` puts four places, one a turn. Assumes nothing.
use mathlib.Core.Path.{refl}
use borrow.Author.Rules.{rules}
use Rattle.lists.proofs.Grid.{put_none, put_more}
use Rattle.grid.proofs.copy_four.Goals as goal

pub loop-i-init : goal.loop-i-init
loop-i-init c = put_none _ _ _ _

pub loop-i-preserved : goal.loop-i-preserved
loop-i-preserved c =
    let a = c.args in
    put_more a.q a.stride _ c.loop-i.i a.to.now c.loop-i.to _ _ c.loop-i.invariant refl (search rules)
