-- `quarters::inverse` looks the inverse up. Assumes nothing.
use mathlib.Core.Path.{◌≡◌, refl}
use borrow.Author.Rules.{rules}
use Rattle.std.specs.Prelude.{Err}
use Rattle.arrangements.specs.Table.{inverse_of}
use Rattle.quarters.specs.Answer.{inverse_answer}
use Rattle.quarters.proofs.Accepted.{move_good, taken}
use Rattle.quarters.proofs.inverse.Goals as goal

pub returns-in_err-judge_move : goal.returns-in_err-judge_move
unfolding inverse_answer
returns-in_err-judge_move c =
    let up : c.from_residual.result ≡ Err c.in_err-judge_move.field-0.0 = search rules in
    rw (← c.in_err-judge_move.ensures) up

pub bounds-quarter : goal.bounds-quarter
bounds-quarter c = move_good (taken _ c.in_ok-judge_move.ensures)

pub returns : goal.returns
unfolding inverse_answer inverse_of
returns c = rw (taken _ c.in_ok-judge_move.ensures) refl
