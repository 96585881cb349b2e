-- `graticule::first_below` finds the first sample on the line below the threshold. The loop: those of the columns before are not. Assumes nothing.
use Prim.Native.Nat.{◌+◌, ◌*◌, ◌≤◌, ◌<◌, max}
use mathlib.Core.Path.{sym, ap}
use native.Mathlib.Nat.{mul-le-mul_right}
use native.Mathlib.Omega.{arith}
use borrow.Author.Rules.{rules}
use borrow.Author.Count.{below_more}
use lib.IntN.{pos, nat_abs}
use lib.ListN.{length, get_or}
use mir.Syntax.{w32}
use mir.Facts.{to_z-of_z}
use Rattle.arith.proofs.Machine.{read_back}
use Rattle.graticule.proofs.Look.{row_between, looked_is, none_found, one_found}
use Rattle.graticule.proofs.first_below.Goals as goal
use Rattle.graticule.proofs.first_below.Goals.{After-row_at-row}

pub loop-column-init : goal.loop-column-init
loop-column-init c = λ j l from. absurd (omega arith)

-- the look is inside the picture
module _ (c : After-row_at-row) where
  low : c.row_at-row.result ≤ max c.args.points.y1 c.args.points.y2
  low = rw (ap nat_abs c.row_at-row.ensures) (row_between c.args.points c.loop-column.column c.requires.rightward (omega arith) (omega arith)).1

  inside : c.row_at-row.result * c.args.width + c.loop-column.column < length c.args.picture.now
  inside = omega (arith, mul-le-mul_right c.args.width low, c.requires.rows, c.requires.columns)

pub overflow_mul-row : goal.overflow_mul-row
overflow_mul-row c = record { fits = omega (arith, inside c) }

pub overflow_add-row : goal.overflow_add-row
overflow_add-row c = record { fits = omega (arith, inside c) }

pub offset_bounds-picture-row : goal.offset_bounds-picture-row
offset_bounds-picture-row c = record { fits = omega (arith, inside c) }

pub bounds-picture-row : goal.bounds-picture-row
bounds-picture-row c = inside c

pub loop-column-preserved : goal.loop-column-preserved
loop-column-preserved c =
    let a = c.args in
    let x = c.loop-column.column in
    let r = c.row_at-row in
    let v = get_or a.picture.now (r.result * a.width + x) (pos 0) in
    let looked = looked_is a.width a.points a.picture.now r.result x r.ensures in
    let left = rw (read_back w32 v (search rules)) at c.if-picture-row.false in
    below_more _ _ c.loop-column.invariant (λ from. rw looked left)

pub returns-then-picture-row : goal.returns-then-picture-row
returns-then-picture-row c =
    let a = c.args in
    let x = c.loop-column.column in
    let r = c.row_at-row in
    let v = get_or a.picture.now (r.result * a.width + x) (pos 0) in
    let looked = looked_is a.width a.points a.picture.now r.result x r.ensures in
    let taken = rw (to_z-of_z c.ranges.threshold, read_back w32 v (search rules)) at c.if-picture-row.true in
    let earlier = rw (to_z-of_z c.ranges.threshold) at c.loop-column.invariant in
    sym (one_found a.width a.points a.threshold a.picture.now c.requires.rightward r.result x
    (omega arith) (omega arith) (λ j from l. earlier j l from) (rw looked taken) r.ensures)

-- after the last column
pub returns-else-picture-row : goal.returns-else-picture-row
returns-else-picture-row c =
    let a = c.args in
    let x = c.loop-column.column in
    let r = c.row_at-row in
    let v = get_or a.picture.now (r.result * a.width + x) (pos 0) in
    let looked = looked_is a.width a.points a.picture.now r.result x r.ensures in
    let left = rw (to_z-of_z c.ranges.threshold, read_back w32 v (search rules)) at c.if-picture-row.false in
    let earlier = rw (to_z-of_z c.ranges.threshold) at c.loop-column.invariant in
    let all = below_more _ _ earlier (λ from. rw looked left) in
    sym (none_found a.width a.points a.threshold a.picture.now c.requires.rightward (λ j from to. all j (omega arith) from))

-- where the range has none
pub returns : goal.returns
returns c =
    let a = c.args in
    let earlier = rw (to_z-of_z c.ranges.threshold) at c.loop-column.invariant in
    sym (none_found a.width a.points a.threshold a.picture.now c.requires.rightward (λ j from to. earlier j (omega arith) from))
