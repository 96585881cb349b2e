-- `weighing::between` meets its contract: its steps' ranges are linear in the products that `prod` speaks of. Assumes nothing.
use mathlib.Core.Path.{◌≡◌, ◌∙◌}
use Prim.Native.Nat.{ℕ}
use native.Mathlib.Omega.{arith}
use lib.Dec.{lit<}
use lib.IntN.{ℤ, pos, ◌+ℤ◌, ◌*ℤ◌}
use lib.Signed.{◌≤ℤ◌}
use mir.Syntax.{w32}
use mir.Val.{SFits}
use Rattle.arith.proofs.Bridge.{bridge, prod, all4}
use Rattle.arith.proofs.Round.{shr-round}
use Rattle.arith.proofs.Within.{Within, size_within}
use Rattle.arith.proofs.Compute.{Code, arg, num, ◌+ᵐ◌, ◌*ᵐ◌, ◌>>ᵐ◌, Ranges, At, asked, done, need, value}
use Rattle.weighing.proofs.between.Goals as goal
use Rattle.weighing.proofs.between.Goals.{Start}

abbrev code : ℤ → ℤ → ℤ → ℤ → Code w32
code a b x y = arg a *ᵐ arg x +ᵐ arg b *ᵐ arg y +ᵐ num 2048 >>ᵐ 12

in_range : (a b x y : ℤ) → SFits w32 a → SFits w32 b → Within (pos 294912) a → Within (pos 294912) b
    → pos 0 ≤ℤ x → pos 0 ≤ℤ y → x +ℤ y ≡ pos 4096 → Ranges (code a b x y)
in_range =
    all4 _ (simp bridge (λ a a' b b' x x' y y' fa fb ha hb low high e.
    omega (arith, prod ha.0 low, prod ha.1 low, prod hb.0 high, prod hb.1 high)))

module _ (s : Start) where
  abbrev body : Code w32
  body = code s.args.a s.args.b s.args.w.here s.args.w.next

  ranges : Ranges body
  ranges =
      let a = s.args in
      let f = s.ranges in
      let p = s.requires in
      in_range a.a a.b a.w.here a.w.next f.a f.b (size_within a.a 294912 p.0) (size_within a.b 294912 p.1)
      p.2.here_low p.2.next_low p.2.whole

  answer : (k : ℕ) → At k (asked body done)
  answer k = need k body ranges

pub overflow_add-result : goal.overflow_add-result
overflow_add-result c = answer (goal.at.overflow_add-result c).Start 2

pub overflow_add-result-2 : goal.overflow_add-result-2
overflow_add-result-2 c = answer (goal.at.overflow_add-result-2 c).Start 3

pub returns : goal.returns
returns c =
    let s = (goal.at.returns c).Start in
    value (body s) (ranges s)
    ∙ shr-round (s.args.a *ℤ s.args.w.here +ℤ s.args.b *ℤ s.args.w.next) 4096 (lit< tt)
