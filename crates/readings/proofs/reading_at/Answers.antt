-- `readings::reading_at` meets its contract: accepted, the point's sample is in the picture and in its range. Assumes nothing.
use Prim.Native.Nat.{◌+◌, ◌*◌}
use native.Mathlib.Omega.{arith}
use borrow.Author.Rules.{rules}
use mathlib.Core.Path.{◌≡◌, sym}
use mir.Syntax.{w32}
use Rattle.std.specs.Prelude.{Err}
use Rattle.arith.proofs.Machine.{read_back}
use Rattle.readings.specs.Answers.{sample_at}
use Rattle.readings.proofs.Passed.{PassedPoint, passed_point}
use Rattle.readings.proofs.Calls.{reading_refused, reading_accepted}
use Rattle.readings.proofs.reading_at.Goals as goal
use Rattle.readings.proofs.reading_at.Goals.{In_ok-judge_point}

-- accepted, the point is in the picture
point : (c : In_ok-judge_point) → let a = c.args in PassedPoint a.width a.height a.column a.row a.picture.now
point c = passed_point _ _ _ _ _ (sym c.in_ok-judge_point.ensures)

pub returns-in_err-judge_point : goal.returns-in_err-judge_point
returns-in_err-judge_point c =
    let up : c.from_residual.result ≡ Err c.in_err-judge_point.field-0.0 = search rules in
    rw up (reading_refused _ _ _ _ _ _ c.in_err-judge_point.ensures)

pub overflow_mul-row : goal.overflow_mul-row
overflow_mul-row c = omega (arith, (point c).inside, (point c).picture_passed.few)

pub overflow_add-row : goal.overflow_add-row
overflow_add-row c = omega (arith, (point c).inside, (point c).picture_passed.few)

pub offset_bounds-picture-row : goal.offset_bounds-picture-row
offset_bounds-picture-row c = omega (arith, (point c).inside, (point c).picture_passed.few)

pub bounds-picture-row : goal.bounds-picture-row
bounds-picture-row c = omega (arith, (point c).inside, (point c).picture_passed.room)

pub read-requires : goal.read-requires
read-requires c =
    let a = c.args in
    let p = point c.before in
    rw (read_back w32 (sample_at a.width a.column a.row a.picture.now) (search rules))
    (p.picture_passed.within (a.row * a.width + a.column) p.inside)

pub returns : goal.returns
returns c =
    let a = c.args in
    let p = point c.before.before in
    let v = sample_at a.width a.column a.row a.picture.now in
    reading_accepted a.width a.height a.column a.row a.picture.now _ c.in_ok-judge_point.ensures
    (rw (read_back w32 v (search rules)) at c.read.ensures)
    (p.picture_passed.within (a.row * a.width + a.column) p.inside)
