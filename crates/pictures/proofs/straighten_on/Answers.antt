-- `straighten_on` answers as the tests say. Assumes nothing.
use Prim.Native.Nat.{ℕ, ◌*◌, ◌≤◌}
use mathlib.Core.Path.{sym, ◌∙◌}
use mathlib.Core.List.{List}
use native.Mathlib.Nat.{mul-le-mul, mul-pos}
use native.Mathlib.Omega.{arith}
use lib.IntN.{ℤ}
use lib.ListN.{length, take}
use lib.Seq.{length-take-le}
use Rattle.acceptance.proofs.Accepted.{accepted_fit}
use Rattle.lists.proofs.Ends.{extremes_take}
use Rattle.pictures.proofs.Call.{accepted-answer}
use Rattle.pictures.proofs.straighten_on.Goals as goal

-- the picture has places in the result
taken_some : (W H : ℕ) (s : List ℤ) → 1 ≤ W → 1 ≤ H → W * H ≤ length s → 1 ≤ length (take (W * H) s)
taken_some W H s wide high room = omega (arith, length-take-le (W * H) s room, mul-pos wide high)

pub straighten_accepted-lines-requires : goal.straighten_accepted-lines-requires
straighten_accepted-lines-requires c =
    let a = c.args in
    accepted_fit a.other a.width a.height a.setting a.picture.now _ _ (sym c.judge_on.ensures ∙ c.in_ok-judge_on.was)

pub overflow_mul-width : goal.overflow_mul-width
overflow_mul-width c =
    let a = c.args in
    let f = accepted_fit a.other a.width a.height a.setting a.picture.now _ _ (sym c.judge_on.ensures ∙ c.in_ok-judge_on.was) in
    omega (arith, mul-le-mul f.width.1 f.height.1)

pub slice_bounds-extremes_of-end : goal.slice_bounds-extremes_of-end
slice_bounds-extremes_of-end c =
    let a = c.args in
    let f = accepted_fit a.other a.width a.height a.setting a.picture.now _ _ (sym c.judge_on.ensures ∙ c.in_ok-judge_on.was) in
    omega (arith, f.result_places, c.straighten_accepted-lines.auto.res)

pub slice_bounds-extremes_of-end-2 : goal.slice_bounds-extremes_of-end-2
slice_bounds-extremes_of-end-2 c =
    let a = c.args in
    let f = accepted_fit a.other a.width a.height a.setting a.picture.now _ _ (sym c.judge_on.ensures ∙ c.in_ok-judge_on.was) in
    sym (length-take-le _ _ (omega (arith, f.result_places, c.straighten_accepted-lines.auto.res)))

pub extremes_of-extremes-requires : goal.extremes_of-extremes-requires
extremes_of-extremes-requires c =
    let a = c.args in
    let f = accepted_fit a.other a.width a.height a.setting a.picture.now _ _ (sym c.judge_on.ensures ∙ c.in_ok-judge_on.was) in
    taken_some a.width a.height _ f.width.0 f.height.0 (omega (arith, f.result_places, c.straighten_accepted-lines.auto.res))

pub returns : goal.returns
returns c =
    let a = c.args in
    let e = c.straighten_accepted-lines.ensures in
    let v = sym c.judge_on.ensures ∙ c.in_ok-judge_on.was in
    let f = accepted_fit a.other a.width a.height a.setting a.picture.now _ _ v in
    accepted-answer _ a.width a.height a.setting a.picture.now a.res.now a.work.now _ _ _ _ v f e.value
    (c.extremes_of-extremes.ensures ∙ extremes_take (a.width * a.height) c.straighten_accepted-lines.new.res (mul-pos f.width.0 f.height.0) (omega (arith, f.result_places, c.straighten_accepted-lines.auto.res)))
    e.res_after e.work_after
