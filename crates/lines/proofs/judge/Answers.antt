-- `lines::judge` answers the first number whose test holds. Assumes nothing.
use mathlib.Core.Path.{◌≡◌, refl, sym, ap, ◌∙◌}
use native.Mathlib.Omega.{arith}
use borrow.Author.Rules.{rules}
use lib.Signed.{le_z_yes}
use mir.Facts.{to_z-of_z}
use Rattle.std.specs.Prelude.{Ok, Err}
use Rattle.refusals.specs.declared.Refusal.TheVariants.{BadSample}
use Rattle.refusals.specs.Tests.{short, first_bad}
use Rattle.refusals.proofs.Tests.{or_false, side_good, short_good}
use Rattle.refusals.proofs.Judging.{of_found-accepted, of_found-told}
use Rattle.lines.specs.Answer.{range, too_short}
use Rattle.lines.proofs.Answer.{kernel_refused, kernel_taken}
use Rattle.lines.proofs.judge.Goals as goal

pub too_short-requires : goal.too_short-requires
too_short-requires g c = (side_good (sym c.if-bad_side.ensures)).1

pub returns-in-Err : goal.returns-in-Err
returns-in-Err g c =
    let five = kernel_refused c.args.kernel _ (sym c.in-Err.ensures) in
    rw (
      sym c.if-bad_side.ensures,
      sym c.if-too_short.ensures,
      sym (rw (to_z-of_z c.ranges.d) at c.if-beyond.ensures),
      five.0,
      c.of-in-Err.ensures,
      five.1,
    )
    refl

pub returns-in_err-own : goal.returns-in_err-own
returns-in_err-own g c =
    let up : c.from_residual.result ≡ Err c.in_err-own.field-0.0 = search rules in
    let five = kernel_taken c.args.kernel _ (sym c.in-Ok.ensures) in
    up ∙ rw (sym c.if-bad_side.ensures, sym c.if-too_short.ensures, sym (rw (to_z-of_z c.ranges.d) at c.if-beyond.ensures), five.0, c.in_err-own.was) refl

pub scanned-requires : goal.scanned-requires
unfolding too_short
scanned-requires g c =
    let long = short_good (or_false (short c.args.held c.args.n) _ (sym c.if-too_short.ensures)).0 in (
      (side_good (sym c.if-bad_side.ensures)).1,
      omega arith,
      omega (arith, long, c.requires),
      record { from = le_z_yes tt; to = le_z_yes tt },
    )

pub returns-in-Ok-scanned : goal.returns-in-Ok-scanned
returns-in-Ok-scanned g c =
    let five = kernel_taken c.args.kernel _ (sym c.in-Ok.ensures) in
    rw (
      sym c.if-bad_side.ensures,
      sym c.if-too_short.ensures,
      sym (rw (to_z-of_z c.ranges.d) at c.if-beyond.ensures),
      five.0,
      c.in_ok-own.was,
      of_found-accepted BadSample (first_bad range c.args.n 1 c.args.line.now) (sym c.in-Ok-scanned.ensures),
    )
    (ap Ok five.1)

pub returns-in-Err-scanned : goal.returns-in-Err-scanned
returns-in-Err-scanned g c =
    let five = kernel_taken c.args.kernel _ (sym c.in-Ok.ensures) in
    rw (
      sym c.if-bad_side.ensures,
      sym c.if-too_short.ensures,
      sym (rw (to_z-of_z c.ranges.d) at c.if-beyond.ensures),
      five.0,
      c.in_ok-own.was,
      of_found-told g.E.Refuses.of_refusal BadSample (first_bad range c.args.n 1 c.args.line.now) _ (sym c.in-Err-scanned.ensures),
      c.of-in-Err-scanned.ensures,
    )
    refl
