-- `levelling::is_outside` meets its contract: what the library's test of a range tells. Assumes nothing.
use mathlib.Core.Path.{◌≡◌, refl}
use mathlib.Core.Bool.{Bool, true, false, cond, not, ◌||◌, ◌&&◌}
use Prim.Native.Nat.{ℕ}
use lib.IntN.{ℤ, pos}
use lib.Signed.{le_z, lt_z, clash_ℤ}
use mir.Syntax.{w32}
use mir.Facts.{to_z-of_z, to_z_pos}
use native.Mathlib.Omega.{arith}
use Rattle.std.proofs.Common.{Less, Equal, Greater}
use Rattle.std.specs.Ordering.{is_le, is_lt, int_cmp}
use Rattle.arith.proofs.Laws.{≤ℤ_of_<ℤ}
use Rattle.arith.proofs.Machine.{lt-true, lt-false, le-true, le-false}
use Rattle.levelling.specs.Level.{outside}
use Rattle.levelling.proofs.is_outside.Goals as goal

is_le-test : (x y : ℤ) → is_le (int_cmp x y) ≡ not (lt_z y x)
is_le-test x y = by (lt_z x y) (lt_z y x) refl refl
  where
    by : (s t : Bool) → lt_z x y ≡ s → lt_z y x ≡ t → is_le (cond s Less (cond t Greater Equal)) ≡ not t
    by true true e f = clash_ℤ (lt-true x y e) (≤ℤ_of_<ℤ (lt-true y x f))
    by true false e f = refl
    by false true e f = refl
    by false false e f = refl

is_lt-test : (x y : ℤ) → is_lt (int_cmp x y) ≡ lt_z x y
is_lt-test x y = by (lt_z x y) (lt_z y x)
  where
    by : (s t : Bool) → is_lt (cond s Less (cond t Greater Equal)) ≡ s
    by true t = refl
    by false true = refl
    by false false = refl

le-test : (x y : ℤ) → le_z y x ≡ not (lt_z x y)
le-test x y = by (le_z y x) (lt_z x y) refl refl
  where
    by : (s t : Bool) → le_z y x ≡ s → lt_z x y ≡ t → s ≡ not t
    by true true e f = clash_ℤ (lt-true x y f) (le-true y x e)
    by true false e f = refl
    by false true e f = refl
    by false false e f = clash_ℤ (le-false y x e) (lt-false x y f)

beyond_either : (s t : Bool) → not (not s && t) ≡ (s || not t)
beyond_either true t = refl
beyond_either false t = refl

out_of_range : (side : ℕ) (c : ℤ) → not (is_le (int_cmp (pos 0) c) && is_lt (int_cmp c (pos side))) ≡ outside side c
unfolding outside
out_of_range side c = rw (is_le-test (pos 0) c, is_lt-test c (pos side), le-test c (pos side)) (beyond_either _ _)

pub returns : goal.returns
returns c =
    let told = rw (to_z-of_z c.ranges.c, to_z_pos w32 {n = c.args.side} (omega arith)) at c.contains.ensures.value in
    rw told (out_of_range c.args.side c.args.c)
