-- `weighing::two_weights` meets its contract: linear's two middle weights are D²·(4,096 - f) and D²·f. Assumes nothing.
use mathlib.Core.Path.{◌≡◌, ap, ◌∙◌}
use Prim.Native.Nat.{◌≤◌}
use native.Mathlib.Omega.{arith}
use lib.IntN.{ℤ, pos, nat_abs, ◌+ℤ◌, ◌-ℤ◌, ◌*ℤ◌}
use lib.Signed.{◌≤ℤ◌, ◌<ℤ◌, shr_z}
use mir.Syntax.{w32, w64}
use mir.Val.{to_z, of_z}
use mir.Facts.{to_z-of_z}
use Rattle.arith.proofs.Bridge.{bridge, all1, all2}
use Rattle.arith.proofs.Divide.{division}
use Rattle.arith.proofs.Ring.{ring, reify, vars1}
use Rattle.arith.proofs.Machine.{read_back}
use Rattle.arith.proofs.Compute.{Code, arg, cast, ◌>>ᵐ◌, Ranges, value}
use Rattle.kernels.specs.declared.Kernel.TheVariants.{Linear}
use Rattle.kernels.specs.Kernel.{weight}
use Rattle.moves.specs.declared.TwoWeights.{TwoWeights}
use Rattle.moves.specs.InPlace.{Middle, Shares}
use Rattle.weighing.proofs.two_weights.Goals as goal
use Rattle.weighing.proofs.two_weights.Goals.{After-four_weights-w, After-from}

first_weight : (f : ℤ) → weight Linear f 1 ≡ pos 16777216 *ℤ (pos 4096 -ℤ f)
first_weight = vars1 _ (simp reify (λ ρ. ring tt))

second_weight : (f : ℤ) → weight Linear f 2 ≡ pos 16777216 *ℤ f
second_weight = vars1 _ (simp reify (λ ρ. ring tt))

-- what share f leaves of 4,096
rest : (f : ℤ) → pos 0 ≤ℤ f → f <ℤ pos 4096
    → (nat_abs f ≤ 4096) × (nat_abs (pos 4096 -ℤ f) ≤ 4096) × (pos 0 ≤ℤ (pos 4096 -ℤ f)) × (pos 4096 -ℤ f +ℤ f ≡ pos 4096)
rest = all1 _ (simp bridge (omega arith))

-- so these two are what is asked
abbrev two : ℤ → ℤ → TwoWeights
two x y = record { here = x; next = y }

two_of : (f x y : ℤ) → x ≡ pos 4096 -ℤ f → y ≡ f → pos 0 ≤ℤ f → f <ℤ pos 4096 → Middle f (two x y) × Shares (two x y)
two_of f x y e e' low high =
    let r = rest f low high in
    rw (e, e') (record { first = first_weight f; second = second_weight f }, record { here_low = r.2; next_low = low; whole = r.3 })

-- D² times x, divided by D²
abbrev code : ℤ → Code w32
code w = cast w64 (arg w >>ᵐ 24)

ranges : (w x : ℤ) → nat_abs x ≤ 4096 → w ≡ pos 16777216 *ℤ x → Ranges (code w)
ranges = all2 _ (simp division (omega arith))

divided : (w x : ℤ) → nat_abs x ≤ 4096 → w ≡ pos 16777216 *ℤ x → shr_z w 16777216 ≡ x
divided = all2 _ (simp division (omega arith))

f_is : (c : After-from) → to_z w64 (of_z w64 c.from.result) ≡ c.args.f
f_is c = read_back w64 c.from.result c.from.type_inv ∙ c.from.ensures ∙ to_z-of_z c.ranges.f

module _ (p : After-four_weights-w) where
  abbrev f : ℤ
  f = p.args.f

  share : (nat_abs f ≤ 4096) × (nat_abs (pos 4096 -ℤ f) ≤ 4096) × (pos 0 ≤ℤ (pos 4096 -ℤ f)) × (pos 4096 -ℤ f +ℤ f ≡ pos 4096)
  share = rest f p.requires.0 p.requires.1

  first_is : p.four_weights-w.result.w1 ≡ pos 16777216 *ℤ (pos 4096 -ℤ f)
  first_is = ap (λ w. w.w1) p.four_weights-w.ensures ∙ ap (λ x. weight Linear x 1) (f_is p.before) ∙ first_weight f

  second_is : p.four_weights-w.result.w2 ≡ pos 16777216 *ℤ f
  second_is = ap (λ w. w.w2) p.four_weights-w.ensures ∙ ap (λ x. weight Linear x 2) (f_is p.before) ∙ second_weight f

  first_ranges : Ranges (code p.four_weights-w.result.w1)
  first_ranges = ranges p.four_weights-w.result.w1 (pos 4096 -ℤ f) share.1 first_is

  second_ranges : Ranges (code p.four_weights-w.result.w2)
  second_ranges = ranges p.four_weights-w.result.w2 f share.0 second_is

pub returns : goal.returns
returns c =
    let p = (goal.at.returns c).After-four_weights-w in
    let w = p.four_weights-w.result in
    two_of (f p) _ _
    (value (code w.w1) (first_ranges p) ∙ divided w.w1 (pos 4096 -ℤ f p) (share p).1 (first_is p))
    (value (code w.w2) (second_ranges p) ∙ divided w.w2 (f p) (share p).0 (second_is p))
    p.requires.0 p.requires.1
