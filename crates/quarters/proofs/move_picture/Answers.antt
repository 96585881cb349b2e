-- `quarters::move_picture` meets its contract: refused, nothing is written; accepted, the moved picture is. Assumes nothing.
use mathlib.Core.Path.{◌≡◌, sym, ◌∙◌}
use native.Mathlib.Nat.{mul_comm}
use native.Mathlib.Omega.{arith}
use borrow.Author.Rules.{rules}
use lib.ListN.{length}
use Rattle.std.specs.Prelude.{Err, min}
use Rattle.readings.specs.Answers.{judged_by}
use Rattle.quarters.specs.Answer.{judged}
use Rattle.quarters.proofs.Accepted.{accepted_fit}
use Rattle.quarters.proofs.Calls.{swapped_size, kept_size, moved-refused, moved-accepted}
use Rattle.quarters.proofs.move_picture.Goals as goal
use Rattle.quarters.proofs.move_picture.Goals.{After-judge_by}

-- the verdict that the contract names is the code's
verdict_is : (c : After-judge_by) → let a = c.args in c.judge_by.result ≡ judged a.width a.height a.quarter (min (length a.picture.now) (length a.res.now)) a.picture.now
unfolding judged_by
verdict_is c = rw (c.min-places.ensures, c.judge_move.ensures) at c.judge_by.ensures

pub judge_by-requires : goal.judge_by-requires
judge_by-requires c = omega (arith, c.min-places.ensures)

pub returns-in_err-judge_by : goal.returns-in_err-judge_by
returns-in_err-judge_by c =
    let up : c.from_residual.result ≡ Err c.in_err-judge_by.field-0.0 = search rules in
    rw up (moved-refused _ _ _ _ _ _ (sym c.in_err-judge_by.was ∙ verdict_is (goal.at.returns-in_err-judge_by c).After-judge_by))

pub write_moved-requires : goal.write_moved-requires
write_moved-requires c =
    let a = c.args in
    let v = sym c.in_ok-judge_by.was ∙ verdict_is (goal.at.write_moved-requires c).After-judge_by in
    let f = accepted_fit _ _ _ _ _ (sym v) in
    let e = mul_comm a.height a.width in
    (record { wide = f.0.wide; tall = f.0.tall; picture_places = omega (arith, e, f.0.room); result_places = omega (arith, e, f.0.room) }, f.1)

pub returns-then-swap : goal.returns-then-swap
returns-then-swap c =
    let a = c.args in
    let v = sym c.in_ok-judge_by.was ∙ verdict_is (goal.at.returns-then-swap c).After-judge_by in
    let f = accepted_fit _ _ _ _ _ (sym v) in
    let size = swapped_size a.width a.height a.quarter f.1 (sym c.swap.ensures ∙ c.if-swap.true) a.picture.now in
    moved-accepted a.width a.height a.quarter a.picture.now a.res.now _ _ _ v size.0 size.1 c.write_moved.ensures

pub returns : goal.returns
returns c =
    let a = c.args in
    let v = sym c.in_ok-judge_by.was ∙ verdict_is (goal.at.returns c).After-judge_by in
    let f = accepted_fit _ _ _ _ _ (sym v) in
    let size = kept_size a.width a.height a.quarter f.1 (sym c.swap.ensures ∙ c.if-swap.false) a.picture.now in
    moved-accepted a.width a.height a.quarter a.picture.now a.res.now _ _ _ v size.0 size.1 c.write_moved.ensures
