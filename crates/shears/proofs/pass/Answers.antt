-- `pass` has moved the first y lines, and none of those to come. Assumes nothing.
use Prim.Native.Nat.{ℕ, ◌<◌}
use mathlib.Core.Path.{refl}
use native.Mathlib.Omega.{arith}
use Rattle.lists.proofs.Grid.{passed_more}
use Rattle.shears.specs.Pass.{sheared_line}
use Rattle.shears.proofs.Moved.{ahead_size}
use Rattle.shears.proofs.pass.Goals as goal

pub move_line-requires-clause-by_index_2 : goal.move_line-requires-clause-by_index_2
move_line-requires-clause-by_index_2 c =
    let a = c.args in
    let l = c.loop-y in
    λ (k : ℕ) (h : k < a.s.n).
    ahead_size a.shear a.s a.lines l.y a.picture.now l.picture c.requires.lines c.requires.lines_within l.invariant l.y k (omega arith) (omega arith) h

pub loop-y-preserved : goal.loop-y-preserved
loop-y-preserved c =
    let a = c.args in
    passed_more a.s.n a.s.along a.s.across (sheared_line a.shear) c.loop-y.y a.s.n a.picture.now c.loop-y.picture _ refl c.loop-y.invariant c.move_line.ensures
