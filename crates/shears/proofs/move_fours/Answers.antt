-- `move_fours` has moved the first 4·q lines, and none of those to come. Assumes nothing.
use Prim.Native.Nat.{ℕ, ◌+◌, ◌*◌, ◌<◌}
use mathlib.Core.Path.{◌≡◌, ap, ◌∙◌}
use native.Mathlib.Omega.{arith}
use Rattle.lists.proofs.Grid.{passed_none}
use Rattle.grid.proofs.Laid.{laid-passed}
use Rattle.shears.specs.Pass.{sheared, sheared_line}
use Rattle.shears.proofs.Moved.{ahead_size}
use Rattle.shears.proofs.move_fours.Goals as goal

pub loop-q-init : goal.loop-q-init
loop-q-init c = passed_none _ _ _ _ _

pub move_four-requires-clause-by_index : goal.move_four-requires-clause-by_index
move_four-requires-clause-by_index c =
    let a = c.args in
    let y = 4 * c.loop-q.q in
    λ (i k : ℕ) (l : i < 4) (h : k < a.s.n).
    ahead_size a.shear a.s a.lines y a.picture.now c.loop-q.picture c.requires.lines c.requires.lines_within c.loop-q.invariant (y + i) k (omega arith) (omega arith) h

pub loop-q-preserved : goal.loop-q-preserved
loop-q-preserved c =
    let a = c.args in
    let y = 4 * c.loop-q.q in
    c.move_four.ensures
    ∙ laid-passed a.s.n a.lines a.s.along a.s.across (sheared_line a.shear) a.picture.now c.requires.lines y 4 c.loop-q.picture (omega arith) c.loop-q.invariant
    ∙ ap (λ (z : ℕ). sheared a.shear a.s z a.picture.now) (next c.loop-q.q)
  where
    next : (q : ℕ) → 4 * q + 4 ≡ 4 * (q + 1)
    next q = omega arith
