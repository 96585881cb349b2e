-- `steps::with_step` meets its contract. Assumes nothing.
use mathlib.Core.Path.{◌≡◌, ◌∙◌}
use mathlib.Core.Bool.{false}
use borrow.Author.Rules.{rules}
use lib.IntN.{neg_ℤ, +ℤ_idl}
use mir.Syntax.{w32}
use mir.Facts.{to_z-of_z}
use Rattle.std.specs.Prelude.{Err}
use Rattle.arith.proofs.Machine.{read_back}
use Rattle.arith.proofs.Compute.{arg, num, ◌-ᵐ◌, Sized, arg_sized, num_sized, minus_sized, fit, reads}
use Rattle.refusals.proofs.Tests.{beyond_good}
use Rattle.steps.specs.Step.{beyond}
use Rattle.steps.proofs.Steps.{change_refused, change_taken, taken, refused}
use Rattle.steps.proofs.with_step.Goals as goal
use Rattle.steps.proofs.with_step.Goals.{In_ok-judge}

passed : (c : In_ok-judge) → beyond c.args.t ≡ false
passed c = taken c.args.t (rw (to_z-of_z c.ranges.t) at c.in_ok-judge.ensures)

turned : (c : In_ok-judge) → Sized {w = w32} (num 0 -ᵐ arg c.args.t) 1697
turned c = minus_sized (num_sized 0 tt) (arg_sized 1697 c.ranges.t (beyond_good c.args.t (passed c))) tt

pub returns-in_err-judge : goal.returns-in_err-judge
returns-in_err-judge c =
    let up : c.from_residual.result ≡ Err c.in_err-judge.field-0.0 = search rules in
    let (far, e) = refused c.args.t _ (rw (to_z-of_z c.ranges.t) at c.in_err-judge.ensures) in
    rw (up, e) (change_refused c.args.setting c.args.t far)

pub overflow_sub-t : goal.overflow_sub-t
overflow_sub-t c = fit 0 (turned c)

pub returns : goal.returns
returns c =
    let back = read_back w32 c.sine_of.result c.sine_of.type_inv in
    change_taken c.args.setting c.args.t (passed c.before.before) c.with_shears.ensures
    (reads (turned c.before.before) ∙ +ℤ_idl (neg_ℤ c.args.t))
    (back ∙ rw (to_z-of_z c.ranges.t) at c.sine_of.ensures)
