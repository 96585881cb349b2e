-- `lines::move_line` meets its contract: refused, nothing is written; accepted, the tests give what moving the line asks. Assumes nothing.
use mathlib.Core.Path.{◌≡◌, refl, sym, ◌∙◌}
use native.Mathlib.Omega.{arith}
use borrow.Author.Rules.{rules}
use lib.ListN.{length}
use lib.Seq.{length-take-le}
use mir.Facts.{to_z-of_z}
use Rattle.std.specs.Prelude.{Err}
use Rattle.lists.proofs.Ends.{extremes_take}
use Rattle.refusals.specs.declared.Refusal.TheVariants.{BadBackground}
use Rattle.refusals.specs.Judging.{Verdict, accepted, refused_if, answer_by}
use Rattle.kernels.specs.Kernel.{kernel_of}
use Rattle.moves.specs.Border.{bad_background}
use Rattle.lines.specs.Answer.{judged_by, judged, Movable}
use Rattle.lines.proofs.Answer.{answered_err, answered_ok, movable, line_refused, line-moved}
use Rattle.lines.proofs.move_line.Goals as goal
use Rattle.lines.proofs.move_line.Goals.{After-judge, In_ok-kernel, then-bad_background, else-bad_background}

-- the verdict, at what was given
module _ (c : After-judge) where
  own_is : c.if-bad_background.own ≡ refused_if (bad_background c.args.border) BadBackground accepted
  own_is =
      elim c.if-bad_background.branch
      [ then-bad_background w ↦ w.own-is ∙ rw (sym w.if-bad_background.ensures) refl | else-bad_background w ↦ w.own-is ∙ rw (sym w.if-bad_background.ensures) refl ]

  abbrev verdict : Verdict
  verdict = let a = c.args in judged a.n a.kernel a.d a.border a.line.now (length a.res.now) (length a.work.now)

  verdict_is : c.judge.result ≡ answer_by verdict (kernel_of c.args.kernel)
  unfolding judged judged_by
  verdict_is = rw (to_z-of_z c.ranges.d, own_is, c.min-held.ensures) at c.judge.ensures

-- an accepted call: its verdict, and that the kernel handed back is that of its number
module _ (c : In_ok-kernel) where
  answered : (verdict c.before.before ≡ accepted) × (c.in_ok-kernel.kernel ≡ kernel_of c.args.kernel)
  answered = answered_ok _ _ _ (sym (verdict_is c.before.before) ∙ c.in_ok-kernel.was)

  may_move : let a = c.args in Movable a.n a.d a.border a.line.now (length a.res.now) (length a.work.now)
  may_move = movable _ _ _ _ _ _ _ answered.0

pub returns-in_err-kernel : goal.returns-in_err-kernel
returns-in_err-kernel c =
    let a = c.args in
    let up : c.from_residual.result ≡ Err c.in_err-kernel.field-0.0 = search rules in
    rw up
    (line_refused a.n a.kernel a.d a.border a.line.now a.res.now a.work.now _
    (answered_err _ _ _ (sym (verdict_is (goal.at.returns-in_err-kernel c).After-judge) ∙ c.in_err-kernel.was)))

pub make-interpolated-requires : goal.make-interpolated-requires
make-interpolated-requires c = rw (to_z-of_z c.ranges.d) (may_move (goal.at.make-interpolated-requires c).In_ok-kernel)

pub slice_bounds-extremes_of-end : goal.slice_bounds-extremes_of-end
slice_bounds-extremes_of-end c =
    let f = may_move (goal.at.slice_bounds-extremes_of-end c).In_ok-kernel in
    omega (arith, f.result_room, c.make-interpolated.auto.res)

pub slice_bounds-extremes_of-end-2 : goal.slice_bounds-extremes_of-end-2
slice_bounds-extremes_of-end-2 c =
    let f = may_move (goal.at.slice_bounds-extremes_of-end-2 c).In_ok-kernel in
    sym (length-take-le c.args.n c.make-interpolated.new.res (omega (arith, f.result_room, c.make-interpolated.auto.res)))

pub extremes_of-requires : goal.extremes_of-requires
extremes_of-requires c =
    let f = may_move (goal.at.extremes_of-requires c).In_ok-kernel in
    rw (length-take-le c.args.n c.make-interpolated.new.res (omega (arith, f.result_room, c.make-interpolated.auto.res))) f.some

pub returns : goal.returns
returns c =
    let a = c.args in
    let k = (goal.at.returns c).In_ok-kernel in
    let f = may_move k in
    let e = rw (to_z-of_z c.ranges.d, (answered k).1) at c.make-interpolated.ensures in
    line-moved a.n a.kernel a.d a.border a.line.now a.res.now a.work.now _ _ _ _ (answered k).0 e.value
    (c.extremes_of.ensures ∙ extremes_take a.n c.make-interpolated.new.res f.some (omega (arith, f.result_room, c.make-interpolated.auto.res))) e.res_after e.work_after
