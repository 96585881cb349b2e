-- `levelling::step_of` meets its contract. Assumes nothing.
use mathlib.Core.Path.{refl, sym, ◌∙◌}
use mir.Syntax.{w32}
use mir.Facts.{to_z-of_z}
use Prim.Native.Nat.{ℕ, ◌≤◌}
use Rattle.arith.proofs.Compute.{nat, num, ◌-ᵐ◌, Sized, nat_sized, num_sized, minus_sized, reads}
use Rattle.levelling.specs.Level.{step_at, direction_of}
use Rattle.levelling.proofs.Judging.{flat}
use Rattle.levelling.proofs.step_of.Goals as goal

step_sized : (u : ℕ) → u ≤ 3394 → Sized {w = w32} (nat u -ᵐ num 1697) 5091
step_sized u h = minus_sized (nat_sized 3394 h tt) (num_sized 1697 tt) tt

pub returns-then-is_steep : goal.returns-then-is_steep
unfolding direction_of
returns-then-is_steep c =
    let told = rw (to_z-of_z c.ranges.dx, to_z-of_z c.ranges.dy) at c.is_steep.ensures in
    rw (sym told ∙ c.if-is_steep.true) refl

pub invariant_of-line : goal.invariant_of-line
invariant_of-line c =
    let told = rw (to_z-of_z c.ranges.dx, to_z-of_z c.ranges.dy) at c.is_steep.ensures in
    rw (to_z-of_z c.ranges.dx, to_z-of_z c.ranges.dy) (record { flat = flat c.args.dx c.args.dy c.requires.0 (sym told ∙ c.if-is_steep.false) })

pub returns : goal.returns
unfolding direction_of step_at
returns c =
    let told = rw (to_z-of_z c.ranges.dx, to_z-of_z c.ranges.dy) at c.is_steep.ensures in
    let place = rw (to_z-of_z c.ranges.dx, to_z-of_z c.ranges.dy) at c.smallest.ensures.0 in
    rw (sym told ∙ c.if-is_steep.false, reads (step_sized c.smallest.result c.smallest.ensures.1), ← place) refl
