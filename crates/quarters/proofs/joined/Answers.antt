-- `quarters::joined` looks the table up. Assumes nothing.
use mathlib.Core.Path.{◌≡◌, refl}
use borrow.Author.Rules.{rules}
use Rattle.std.specs.Prelude.{Err}
use Rattle.arrangements.specs.Table.{entry}
use Rattle.quarters.specs.Answer.{joined_answer}
use Rattle.quarters.proofs.Accepted.{move_good, taken, refused}
use Rattle.quarters.proofs.joined.Goals as goal

pub returns-in_err-judge_move : goal.returns-in_err-judge_move
unfolding joined_answer
returns-in_err-judge_move c =
    let up : c.from_residual.result ≡ Err c.in_err-judge_move.field-0.0 = search rules in
    let (above, e) = refused _ _ c.in_err-judge_move.ensures in
    rw (above, up, e) refl

pub returns-in_err-judge_move-2 : goal.returns-in_err-judge_move-2
unfolding joined_answer
returns-in_err-judge_move-2 c =
    let up : c.from_residual-in_err-judge_move-2.result ≡ Err c.in_err-judge_move-2.field-0.0 = search rules in
    let (above, e) = refused _ _ c.in_err-judge_move-2.ensures in
    rw (taken _ c.in_ok-judge_move.ensures, above, up, e) refl

pub bounds-first : goal.bounds-first
bounds-first c = move_good (taken _ c.in_ok-judge_move.ensures)

pub bounds-second : goal.bounds-second
bounds-second c = move_good (taken _ c.in_ok-judge_move-2.ensures)

pub returns : goal.returns
unfolding joined_answer entry
returns c = rw (taken _ c.in_ok-judge_move.ensures, taken _ c.in_ok-judge_move-2.ensures) refl
