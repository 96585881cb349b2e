-- Where none was beyond the limit, the samples so far are within it. Assumes nothing.
use Prim.Native.Nat.{ℕ, ◌<◌}
use mathlib.Core.Path.{◌≡◌, refl, sym, ◌∙◌}
use mathlib.Core.Bool.{Bool, true, false, not}
use native.Mathlib.Nat.{not-suc-le-zero}
use native.Mathlib.Omega.{arith}
use borrow.Author.Count.{below_more}
use borrow.Author.Rules.{rules}
use lib.ListN.{length, get_or}
use lib.IntN.{pos}
use mir.Syntax.{w32}
use mir.Facts.{to_z-of_z}
use Rattle.arith.proofs.Machine.{read_back}
use Rattle.refusals.proofs.Tests.{or_false, beyond_good}
use Rattle.refusals.proofs.seen_within.Goals as goal

pub loop-v-init : goal.loop-v-init
loop-v-init c = λ e (i : ℕ) (l : i < 0). absurd (not-suc-le-zero l)

pub loop-v-preserved : goal.loop-v-preserved
loop-v-preserved c =
    let l = c.loop-v in
    let v = get_or c.args.row.now l.v-index (pos 0) in
    let e = rw (read_back w32 v (search rules)) at c.beyond-far.ensures in
    λ f. let near = or_false l.far c.beyond-far.result f in below_more _ _ (l.invariant near.0) (beyond_good v (sym e ∙ near.1))

pub returns : goal.returns
returns c = λ e.
    let all : c.loop-v.v-index ≡ length c.args.row.now = omega arith in
    rw (to_z-of_z c.ranges.limit, all) at (c.loop-v.invariant (none c.loop-v.far e))
  where
    none : (far : Bool) → not far ≡ true → far ≡ false
    none true e = sym e
    none false e = refl
