-- `readings::judge_by` answers the first of 1, 2, the call's own number and 6 that applies. Assumes nothing.
use mathlib.Core.Path.{◌≡◌, refl, sym}
use native.Mathlib.Omega.{arith}
use native.Mathlib.Nat.{mul-le-mul}
use borrow.Author.Rules.{rules}
use borrow.Author.Tests.{lt-ltb, le-ltb}
use lib.Signed.{le_z_yes}
use Rattle.std.specs.Prelude.{Err}
use Rattle.refusals.specs.declared.Refusal.TheVariants.{BadSample}
use Rattle.refusals.specs.Tests.{short, first_bad}
use Rattle.refusals.proofs.Tests.{size_good}
use Rattle.refusals.proofs.Judging.{of_found-accepted, of_found-told}
use Rattle.readings.specs.Answers.{range}
use Rattle.readings.proofs.judge_by.Goals as goal

pub overflow_mul-height : goal.overflow_mul-height
overflow_mul-height g c = let z = size_good (sym c.if-bad_size.ensures) in omega (arith, mul-le-mul z.1.1 z.0.1)

pub returns-then-places-height : goal.returns-then-places-height
unfolding short
returns-then-places-height g c = rw (sym c.if-bad_size.ensures, lt-ltb _ _ c.if-places-height.true, c.of-then-places-height.ensures) refl

pub returns-in_err-own : goal.returns-in_err-own
unfolding short
returns-in_err-own g c =
    let up : c.from_residual.result ≡ Err c.in_err-own.field-0.0 = search rules in
    rw (sym c.if-bad_size.ensures, le-ltb _ _ c.if-places-height.false, c.in_err-own.was) up

pub scanned-requires : goal.scanned-requires
scanned-requires g c =
    let z = size_good (sym c.if-bad_size.ensures) in
    (z.0.1, omega (arith, z.1.1), omega arith, record { from = le_z_yes tt; to = le_z_yes tt })

pub returns-in-Ok : goal.returns-in-Ok
unfolding short
returns-in-Ok g c =
    let a = c.args in
    let found = first_bad range a.width a.height a.picture.now in
    rw (sym c.if-bad_size.ensures, le-ltb _ _ c.if-places-height.false, c.in_ok-own.was, of_found-accepted BadSample found (sym c.in-Ok.ensures)) refl

pub returns-in-Err : goal.returns-in-Err
unfolding short
returns-in-Err g c =
    let a = c.args in
    let found = first_bad range a.width a.height a.picture.now in
    rw (
      sym c.if-bad_size.ensures,
      le-ltb _ _ c.if-places-height.false,
      c.in_ok-own.was,
      of_found-told g.E.Refuses.of_refusal BadSample found _ (sym c.in-Err.ensures),
      c.of-in-Err.ensures,
    )
    refl
