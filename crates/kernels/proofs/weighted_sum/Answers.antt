-- `kernels::weighted_sum` meets its contract: what fits at the plain integers (`Four`) fits at each step. Assumes nothing.
use mathlib.Core.Path.{refl}
use Prim.Native.Nat.{ℕ, ◌≤◌}
use native.Mathlib.Omega.{arith}
use lib.Dec.{lit<}
use lib.IntN.{ℤ, nat_abs, ◌*ℤ◌}
use mir.Syntax.{w64}
use mir.Val.{SFits}
use Rattle.arith.proofs.Machine.{sfits-nat_abs}
use Rattle.arith.proofs.Compute.{Code, arg, plus, times, ◌+ᵐ◌, ◌*ᵐ◌, Ranges, op_range, At, asked, done, need, value}
use Rattle.kernels.specs.Four.{weighted_sum}
use Rattle.kernels.proofs.Four.{Fitting, products_fit}
use Rattle.kernels.proofs.weighted_sum.Goals as goal
use Rattle.kernels.proofs.weighted_sum.Goals.{Start}

module _ (s : Start) where
  abbrev term : ℤ → ℤ → Code w64
  term w x = arg w *ᵐ arg x

  abbrev code : Code w64
  code = let a = s.args in term a.w.w0 a.a +ᵐ term a.w.w1 a.b +ᵐ term a.w.w2 a.c +ᵐ term a.w.w3 a.e

  fitting : Fitting (s.args.w.w0 *ℤ s.args.a) (s.args.w.w1 *ℤ s.args.b) (s.args.w.w2 *ℤ s.args.c) (s.args.w.w3 *ℤ s.args.e)
  fitting = products_fit s.args.w s.args.a s.args.b s.args.c s.args.e s.requires.0 s.requires.1

  -- one of four sizes that are modest together
  weight_fits : (w : ℤ) → nat_abs w ≤ 412316860416 → SFits w64 w
  weight_fits w h = sfits-nat_abs w h (lit< tt)

  term_range : (w x : ℤ) → SFits w64 w → SFits w64 x → SFits w64 (w *ℤ x) → Ranges (term w x)
  term_range w x f g h = op_range times (arg w) (arg x) (f, tt) (g, tt) h

  ranges : Ranges code
  ranges =
      let a = s.args in
      let f = s.ranges in
      let w = a.w in
      let k = fitting in
      op_range plus (term w.w0 a.a +ᵐ term w.w1 a.b +ᵐ term w.w2 a.c) (term w.w3 a.e)
      (op_range plus (term w.w0 a.a +ᵐ term w.w1 a.b) (term w.w2 a.c)
      (op_range plus (term w.w0 a.a) (term w.w1 a.b)
      (term_range w.w0 a.a (weight_fits w.w0 (omega arith)) f.a k.first)
      (term_range w.w1 a.b (weight_fits w.w1 (omega arith)) f.b k.second) k.two)
      (term_range w.w2 a.c (weight_fits w.w2 (omega arith)) f.c k.third) k.three)
      (term_range w.w3 a.e (weight_fits w.w3 (omega arith)) f.e k.fourth) k.four

  answer : (k : ℕ) → At k (asked code done)
  answer k = need k code ranges

pub overflow_mul-result : goal.overflow_mul-result
overflow_mul-result c = answer (goal.at.overflow_mul-result c).Start 0

pub overflow_mul-result-2 : goal.overflow_mul-result-2
overflow_mul-result-2 c = answer (goal.at.overflow_mul-result-2 c).Start 1

pub overflow_add-result : goal.overflow_add-result
overflow_add-result c = answer (goal.at.overflow_add-result c).Start 2

pub overflow_mul-result-3 : goal.overflow_mul-result-3
overflow_mul-result-3 c = answer (goal.at.overflow_mul-result-3 c).Start 3

pub overflow_add-result-2 : goal.overflow_add-result-2
overflow_add-result-2 c = answer (goal.at.overflow_add-result-2 c).Start 4

pub overflow_mul-result-4 : goal.overflow_mul-result-4
overflow_mul-result-4 c = answer (goal.at.overflow_mul-result-4 c).Start 5

pub overflow_add-result-3 : goal.overflow_add-result-3
overflow_add-result-3 c = answer (goal.at.overflow_add-result-3 c).Start 6

pub returns : goal.returns
unfolding weighted_sum
returns c = let s = (goal.at.returns c).Start in rw (value (code s) (ranges s)) (refl, (fitting s).size)
