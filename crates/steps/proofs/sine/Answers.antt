-- `steps::sine` meets its contract. Assumes nothing.
use mathlib.Core.Path.{◌≡◌}
use borrow.Author.Rules.{rules}
use mir.Syntax.{w32}
use mir.Facts.{to_z-of_z}
use Rattle.std.specs.Prelude.{Err}
use Rattle.arith.proofs.Machine.{read_back}
use Rattle.steps.proofs.Steps.{answer-refused, answer_value, taken, refused}
use Rattle.steps.proofs.sine.Goals as goal

pub returns-in_err-judge : goal.returns-in_err-judge
returns-in_err-judge c =
    let up : c.from_residual.result ≡ Err c.in_err-judge.field-0.0 = search rules in
    let (far, e) = refused c.args.t _ (rw (to_z-of_z c.ranges.t) at c.in_err-judge.ensures) in
    rw (up, e) (answer-refused c.args.t far)

pub returns : goal.returns
returns c =
    let e = rw (to_z-of_z c.ranges.t) at c.sine_of.ensures in
    rw (read_back w32 c.sine_of.result c.sine_of.type_inv, e) (answer_value c.args.t (taken c.args.t (rw (to_z-of_z c.ranges.t) at c.in_ok-judge.ensures)))
