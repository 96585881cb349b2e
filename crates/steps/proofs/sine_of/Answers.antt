-- `steps::sine_of` meets its contract. Assumes nothing.
use Prim.Native.Nat.{ℕ, ◌≤◌}
use mathlib.Core.Path.{◌≡◌}
use native.Mathlib.Omega.{arith}
use lib.IntN.{nat_abs}
use mir.Syntax.{w32}
use mir.Facts.{to_z-of_z, to_z_pos}
use Rattle.arith.proofs.Machine.{lt-true, lt-false}
use Rattle.arith.proofs.Compute.{nat, num, ◌-ᵐ◌, Sized, nat_sized, num_sized, minus_sized, reads}
use Rattle.refusals.proofs.Tests.{beyond_good}
use Rattle.steps.specs.Step.{entry}
use Rattle.steps.proofs.Steps.{sine_below, sine_above}
use Rattle.steps.proofs.sine_of.Goals as goal
use Rattle.steps.proofs.sine_of.Goals.{After-from-s}

-- an entry turned
entry_turned : (n : ℕ) → n ≤ 65535 → Sized {w = w32} (num 0 -ᵐ nat n) 65535
entry_turned n h = minus_sized (num_sized 0 tt) (nat_sized 65535 h tt) tt

module _ (c : After-from-s) where
  found : c.listed.result ≡ entry (nat_abs c.args.t)
  found = rw (to_z-of_z c.ranges.t) at c.listed.ensures

  small : c.listed.result ≤ 65535
  small = omega arith

pub listed-requires : goal.listed-requires
listed-requires c = rw (to_z-of_z c.ranges.t) (beyond_good c.args.t c.requires)

pub returns-then-t-lt0 : goal.returns-then-t-lt0
returns-then-t-lt0 c =
    let t = rw (to_z-of_z c.ranges.t) at c.if-t-lt0.true in
    rw (c.from-s.ensures, reads (entry_turned _ (small c.before)), found c.before) (sine_below c.args.t (lt-true _ _ t))

pub returns-else-t-lt0 : goal.returns-else-t-lt0
returns-else-t-lt0 c =
    let t = rw (to_z-of_z c.ranges.t) at c.if-t-lt0.false in
    rw (c.from-s.ensures, to_z_pos w32 {n = c.listed.result} (omega arith), found c.before) (sine_above c.args.t (lt-false _ _ t))
