-- `graticule::row_at` meets its contract: with both rows below 1,024 and dx below 1,024, no product leaves its type. Assumes nothing.
use Prim.Native.Nat.{ℕ, ◌*◌, ◌-◌, ◌≤◌}
use native.Mathlib.Nat.{mul-le-mul}
use native.Mathlib.Omega.{arith}
use Rattle.graticule.specs.declared.Points.{Points}
use Rattle.graticule.specs.Look.{Rightward}
use Rattle.graticule.proofs.Look.{row_is}
use Rattle.graticule.proofs.row_at.Goals as goal

-- the two rows, each by the columns to the other end
few : (p : Points) (x : ℕ) → Rightward p → x ≤ p.x2 → (p.y1 * (p.x2 - x) ≤ 1024 * 1024) × (p.y2 * (x - p.x1) ≤ 1024 * 1024)
few p x r to =
    let y1 : p.y1 ≤ 1024 = omega (arith, r.rows) in
    let y2 : p.y2 ≤ 1024 = omega (arith, r.rows) in
    let left : p.x2 - x ≤ 1024 = omega (arith, r.columns) in
    let right : x - p.x1 ≤ 1024 = omega (arith, r.columns) in
    (mul-le-mul y1 left, mul-le-mul y2 right)

pub overflow_mul-rows : goal.overflow_mul-rows
overflow_mul-rows c = omega (arith, few c.args.points c.args.x c.requires.0 c.requires.2)

pub overflow_mul-rows-2 : goal.overflow_mul-rows-2
overflow_mul-rows-2 c = omega (arith, few c.args.points c.args.x c.requires.0 c.requires.2)

pub overflow_add-rows : goal.overflow_add-rows
overflow_add-rows c = omega (arith, few c.args.points c.args.x c.requires.0 c.requires.2)

pub overflow_mul-result : goal.overflow_mul-result
overflow_mul-result c = omega (arith, few c.args.points c.args.x c.requires.0 c.requires.2)

pub overflow_add-result : goal.overflow_add-result
overflow_add-result c = omega (arith, few c.args.points c.args.x c.requires.0 c.requires.2, c.requires.0.columns)

pub returns : goal.returns
returns c = row_is c.args.points c.args.x c.requires.0 c.requires.1 c.requires.2
