-- `hexlines::respond_own` lends a well-formed line as few places as it needs.
use mathlib.Core.Path.{refl}
use native.Mathlib.Omega.{arith}
use Rattle.format.proofs.Judged.{well, roomy_in, roomy_small, roomy_square}
use Rattle.hexlines.proofs.respond_own.Goals as goal

pub respond_with-requires-clause-roomy : goal.respond_with-requires-clause-roomy
respond_with-requires-clause-roomy c = roomy_small c.args.line.now c.requires _ _ _ refl refl refl c.if-line-le534.true

pub field-requires : goal.field-requires
field-requires c = let f = well c.args.line.now c.requires in (omega arith, omega (arith, f.long), f.digits)

pub field-requires-2 : goal.field-requires-2
field-requires-2 c = let f = well c.args.line.now c.requires in (omega arith, omega (arith, f.long), f.digits)

pub respond_with-requires-then-max-le256-clause-roomy : goal.respond_with-requires-then-max-le256-clause-roomy
respond_with-requires-then-max-le256-clause-roomy c =
    roomy_square c.args.line.now c.requires _ _ _ refl refl refl (omega (arith, c.max.ensures, c.field-2.ensures.0, c.field.ensures.0))

pub respond_with-requires-2-clause-roomy : goal.respond_with-requires-2-clause-roomy
respond_with-requires-2-clause-roomy c = roomy_in c.args.line.now c.requires _ _ _ refl refl refl
