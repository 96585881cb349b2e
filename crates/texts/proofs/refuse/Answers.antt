-- `texts::refuse` meets its contract.
use native.Mathlib.Omega.{arith}
use Rattle.refusals.specs.Judging.{number, place}
use Rattle.format.proofs.Front.{too_long}
use Rattle.format.proofs.Text.{length_refusal, refusal_written}
use Rattle.texts.proofs.refuse.Goals as goal

pub returns-then-out-lt11 : goal.returns-then-out-lt11
returns-then-out-lt11 c =
    let r = c.args.refusal in
    too_long _ c.args.out.now 11 (length_refusal (number r) (place r).row (place r).column) c.if-out-lt11.true

pub returns : goal.returns
returns c =
    let r = c.args.refusal in
    refusal_written (number r) (place r).row (place r).column c.args.out.now _ _ _ (omega arith)
    (rw (c.from.ensures, c.number.ensures, c.place-place.ensures) at c.put_head.ensures) c.close.ensures
