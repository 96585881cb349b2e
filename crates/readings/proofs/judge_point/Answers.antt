-- `readings::judge_point` answers the lowest of the numbers 1, 2, 6 and 7 that applies. Assumes nothing.
use mathlib.Core.Path.{◌≡◌, refl}
use borrow.Author.Rules.{rules}
use Rattle.std.specs.Prelude.{Err}
use Rattle.readings.specs.Answers.{judged_point}
use Rattle.readings.proofs.judge_point.Goals as goal

pub returns-in_err-judge : goal.returns-in_err-judge
unfolding judged_point
returns-in_err-judge c =
    let up : c.from_residual.result ≡ Err c.in_err-judge.field-0.0 = search rules in
    rw (← c.in_err-judge.ensures) up

pub returns-then-is_outside : goal.returns-then-is_outside
unfolding judged_point
returns-then-is_outside c = rw (← c.in_ok-judge.ensures, ← c.is_outside.ensures, c.if-is_outside.true) refl

pub returns : goal.returns
unfolding judged_point
returns c = rw (← c.in_ok-judge.ensures, ← c.is_outside.ensures, c.if-is_outside.false) refl
