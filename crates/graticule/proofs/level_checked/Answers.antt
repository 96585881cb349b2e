-- `graticule::level_checked` meets its contract: 1, 2 and 6 are told first, then 7 and 8 as the plain call tells them, and then the line is looked at.
-- Assumes nothing.
use mathlib.Core.Path.{◌≡◌, refl, sym}
use borrow.Author.Rules.{rules}
use mir.Syntax.{w32}
use mir.Facts.{to_z-of_z}
use Rattle.std.specs.Prelude.{Err}
use Rattle.arith.proofs.Machine.{read_back}
use Rattle.readings.proofs.Passed.{passed}
use Rattle.graticule.specs.Checked.{judged_points, judged_others, judged_line, checked_of}
use Rattle.graticule.proofs.Judging.{fit, lies, points_refused, points_step, answered}
use Rattle.graticule.proofs.level_checked.Goals as goal

pub level_within-requires : goal.level_within-requires
level_within-requires c = (passed _ _ _ _ (sym c.in_ok-judge.ensures)).sides

pub points_of-requires : goal.points_of-requires
points_of-requires c =
    let r = c.ranges in
    let told = rw (to_z-of_z r.x1, to_z-of_z r.y1, to_z-of_z r.x2, to_z-of_z r.y2) at c.in_ok-step.ensures.answer in
    let s = points_step _ _ _ _ _ _ _ (sym told) in
    rw (to_z-of_z r.x1, to_z-of_z r.y1, to_z-of_z r.x2, to_z-of_z r.y2) (fit _ _ _ _ _ _ s.0 s.1).natural

pub judge_line-requires : goal.judge_line-requires
judge_line-requires c =
    let r = c.ranges in
    let told = rw (to_z-of_z r.x1, to_z-of_z r.y1, to_z-of_z r.x2, to_z-of_z r.y2) at c.in_ok-step.ensures.answer in
    let s = points_step _ _ _ _ _ _ _ (sym told) in
    let p = passed _ _ _ _ (sym c.in_ok-judge.ensures) in
    let points = rw (to_z-of_z r.x1, to_z-of_z r.y1, to_z-of_z r.x2, to_z-of_z r.y2) at c.points_of.ensures in
    rw points (lies _ _ _ _ _ _ _ (fit _ _ _ _ _ _ s.0 s.1) p.sides.0 p.sides.1 p.room)

pub returns-in_err-judge : goal.returns-in_err-judge
unfolding checked_of judged_line judged_others
returns-in_err-judge c =
    let up : c.from_residual.result ≡ Err c.in_err-judge.field-0.0 = search rules in
    answered _ _ _ _ _ _ _ _ _ (rw (← c.in_err-judge.ensures) up)

pub returns-in_err-step : goal.returns-in_err-step
unfolding checked_of judged_line judged_others
returns-in_err-step c =
    let r = c.ranges in
    let up : c.from_residual-in_err-step.result ≡ Err c.in_err-step.field-0.0 = search rules in
    let told = rw (to_z-of_z r.x1, to_z-of_z r.y1, to_z-of_z r.x2, to_z-of_z r.y2) at c.in_err-step.ensures.answer in
    answered _ _ _ _ _ _ _ _ _ (rw (← c.in_ok-judge.ensures, points_refused _ _ _ _ _ _ _ (sym told)) up)

pub returns-in_err-judge_line : goal.returns-in_err-judge_line
unfolding checked_of judged_line judged_others judged_points
returns-in_err-judge_line c =
    let r = c.ranges in
    let up : c.from_residual-in_err-judge_line.result ≡ Err c.in_err-judge_line.field-0.0 = search rules in
    let told = rw (to_z-of_z r.x1, to_z-of_z r.y1, to_z-of_z r.x2, to_z-of_z r.y2) at c.in_ok-step.ensures.answer in
    let s = points_step _ _ _ _ _ _ _ (sym told) in
    let points = rw (to_z-of_z r.x1, to_z-of_z r.y1, to_z-of_z r.x2, to_z-of_z r.y2) at c.points_of.ensures in
    let looked = rw (points, to_z-of_z r.threshold) at c.in_err-judge_line.ensures in
    answered _ _ _ _ _ _ _ _ _ (rw (← c.in_ok-judge.ensures, s.0, s.1, ← looked) up)

pub returns : goal.returns
unfolding checked_of judged_line judged_others judged_points
returns c =
    let r = c.ranges in
    let told = rw (to_z-of_z r.x1, to_z-of_z r.y1, to_z-of_z r.x2, to_z-of_z r.y2) at c.in_ok-step.ensures.answer in
    let s = points_step _ _ _ _ _ _ _ (sym told) in
    let points = rw (to_z-of_z r.x1, to_z-of_z r.y1, to_z-of_z r.x2, to_z-of_z r.y2) at c.points_of.ensures in
    let looked = rw (points, to_z-of_z r.threshold) at c.in_ok-judge_line.ensures in
    answered _ _ _ _ _ _ _ _ _ (rw (← c.in_ok-judge.ensures, s.0, s.1, ← looked, read_back w32 c.in_ok-step.step (search rules), s.2) refl)
