-- `fraction_part` takes 4,096·q from -d: Compute mirrors it. Assumes nothing.
use mathlib.Core.Path.{◌≡◌, ap, ◌∙◌, subst⁻¹}
use Prim.Native.Nat.{ℕ, ◌≤◌, ◌<◌}
use native.Mathlib.Omega.{arith}
use lib.IntN.{ℤ, pos, neg_ℤ, nat_abs, ◌+ℤ◌, ◌-ℤ◌, ◌*ℤ◌}
use mir.Syntax.{w32, w64}
use mir.Val.{SFits}
use mir.Facts.{to_z-of_z}
use Rattle.arith.specs.Move.{whole, fraction}
use Rattle.arith.proofs.Bridge.{bridge, all2}
use Rattle.arith.proofs.Move.{move_parts}
use Rattle.arith.proofs.Compute.{Code, arg, num, cast, ◌-ᵐ◌, ◌*ᵐ◌, Ranges, At, asked, done, need, value, arg_sized, num_sized, minus_sized, fit}
use Rattle.arith.proofs.fraction_part.Goals as goal
use Rattle.arith.proofs.fraction_part.Goals.{After-whole_part}

abbrev code : ℤ → ℤ → Code w32
code d q = cast w64 (num 0 -ᵐ arg d -ᵐ num 4096 *ᵐ arg q)

in_range : (d q : ℤ) (f : ℕ) → SFits w64 d → SFits w64 q → nat_abs d ≤ 1099511627776
    → neg_ℤ d ≡ pos 4096 *ℤ q +ℤ pos f → f < 4096 → Ranges (code d q)
in_range = all2 _ (simp bridge (omega arith))

left_over : (d q : ℤ) (f : ℕ) → neg_ℤ d ≡ pos 4096 *ℤ q +ℤ pos f → pos 0 -ℤ d -ℤ pos 4096 *ℤ q ≡ pos f
left_over = all2 _ (simp bridge (omega arith))

split : (c : After-whole_part) → neg_ℤ c.args.d ≡ pos 4096 *ℤ c.whole_part.result +ℤ pos (fraction c.args.d)
split c =
    subst⁻¹ (λ q. neg_ℤ c.args.d ≡ pos 4096 *ℤ q +ℤ pos (fraction c.args.d))
    (c.whole_part.ensures ∙ ap whole (to_z-of_z {w = w64} c.ranges.d)) (move_parts c.args.d).0

ranges : (c : After-whole_part) → Ranges (code c.args.d c.whole_part.result)
ranges c =
    in_range c.args.d c.whole_part.result (fraction c.args.d)
    c.ranges.d (record { sfits = c.whole_part.type_inv }) c.requires (split c) (move_parts c.args.d).1

answer : (k : ℕ) (c : After-whole_part) → At k (asked (code c.args.d c.whole_part.result) done)
answer k c = need k (code c.args.d c.whole_part.result) (ranges c)

pub overflow_sub-result : goal.overflow_sub-result
overflow_sub-result c = fit 0 (minus_sized (num_sized 0 tt) (arg_sized 1099511627776 c.ranges.d c.requires) tt)

pub overflow_mul-result : goal.overflow_mul-result
overflow_mul-result c = answer 1 c

pub overflow_sub-result-2 : goal.overflow_sub-result-2
overflow_sub-result-2 c = answer 2 c

pub overflow_cast-result : goal.overflow_cast-result
overflow_cast-result c = answer 3 c

pub returns : goal.returns
returns c =
    value (code c.args.d c.whole_part.result) (ranges c) ∙ left_over c.args.d c.whole_part.result (fraction c.args.d) (split c)
