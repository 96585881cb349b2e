-- `store_lines` lays the rows of work line after line. Assumes nothing.
use Prim.Native.Nat.{ℕ, ◌<◌}
use mathlib.Core.Path.{refl}
use native.Mathlib.Omega.{arith}
use lib.ListN.{get_or}
use Rattle.lists.specs.Grid.{row_of}
use Rattle.lists.specs.Line.{rolled}
use Rattle.lists.proofs.Rows.{row_part}
use Rattle.grid.proofs.Laid.{laid_none, laid_more, laid_inside}
use Rattle.grid.proofs.store_lines.Goals as goal

pub loop-i-init : goal.loop-i-init
loop-i-init c = laid_none _ _ _ _ _ _

pub overflow_mul-i : goal.overflow_mul-i
overflow_mul-i c = omega (arith, laid_inside c.args.at c.requires.lines c.loop-i.i 0 (omega arith) (omega arith))

pub overflow_add-at : goal.overflow_add-at
overflow_add-at c = omega (arith, laid_inside c.args.at c.requires.lines c.loop-i.i 0 (omega arith) (omega arith))

pub loop-i-preserved : goal.loop-i-preserved
loop-i-preserved c =
    let a = c.args in
    let i = c.loop-i.i in
    let v = c.store_line in
    laid_more a.at 1 a.s.across a.s.n _ i a.picture.now c.loop-i.picture _ (rolled (get_or a.starts i 0) (row_of a.m a.work.now i)) c.loop-i.invariant
    (rw (row_part a.m a.work.now i) at v.ensures)
    (λ (k : ℕ) (h : k < a.s.n). refl)
