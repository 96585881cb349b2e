-- `explanations::place_of` meets its contract: k + q - 1 + i lies far inside 64 bits. Assumes nothing.
use mathlib.Core.Path.{◌≡◌, ap, ◌∙◌}
use Prim.Native.Nat.{ℕ, ◌≤◌, ◌<◌}
use native.Mathlib.Omega.{arith}
use lib.IntN.{ℤ, pos, neg_ℤ, nat_abs, ◌+ℤ◌, ◌-ℤ◌, ◌*ℤ◌}
use mir.Syntax.{w64}
use mir.Val.{to_z, of_z}
use mir.Facts.{to_z-of_z}
use Rattle.arith.specs.Whole.{remainder}
use Rattle.arith.specs.Move.{whole}
use Rattle.arith.proofs.Bridge.{bridge, all2}
use Rattle.arith.proofs.Machine.{read_back}
use Rattle.arith.proofs.Move.{move_parts}
use Rattle.arith.proofs.Compute.{nat, arg, num, ◌+ᵐ◌, ◌-ᵐ◌, Sized, nat_sized, arg_sized, num_sized, plus_sized, minus_sized, fit, reads}
use Rattle.explanations.specs.Made.{place_of}
use Rattle.explanations.proofs.place_of.Goals as goal
use Rattle.explanations.proofs.place_of.Goals.{After-whole_part, After-from}

-- q is no farther than d
near : (d q : ℤ) (f : ℕ) → neg_ℤ d ≡ pos 4096 *ℤ q +ℤ pos f → f < 4096 → nat_abs d ≤ 4194304 → nat_abs q ≤ 4194304
near = all2 _ (simp bridge (omega arith))

-- d as it was given
far_is : (c : After-from) → to_z w64 (of_z w64 c.from.result) ≡ c.args.d
far_is c = read_back w64 _ c.from.type_inv ∙ c.from.ensures ∙ to_z-of_z c.ranges.d

module _ (c : After-whole_part) where
  whole_is : c.whole_part.result ≡ whole c.args.d
  whole_is = rw (far_is c.before) at c.whole_part.ensures

  place : Sized {w = w64} (nat c.args.k +ᵐ arg c.whole_part.result -ᵐ num 1 +ᵐ nat c.args.i) 4195332
  place =
      let (e, l) = move_parts c.args.d in
      let size : nat_abs c.whole_part.result ≤ 4194304 = rw whole_is (near c.args.d (whole c.args.d) _ e l c.requires.2) in
      plus_sized
      (minus_sized (plus_sized (nat_sized 1024 (omega arith) tt) (arg_sized 4194304 (record { sfits = c.whole_part.type_inv }) size) tt) (num_sized 1 tt) tt)
      (nat_sized 3 (omega arith) tt) tt

pub overflow_add-place : goal.overflow_add-place
overflow_add-place c = fit 0 (place c)

pub overflow_sub-place : goal.overflow_sub-place
overflow_sub-place c = fit 1 (place c)

pub overflow_add-place-2 : goal.overflow_add-place-2
overflow_add-place-2 c = fit 2 (place c)

pub returns : goal.returns
unfolding place_of
returns c =
    let a = c.args in
    let w = rw (reads (place c.before)) at c.wrapped.ensures in
    (w.0 ∙ ap (λ q. remainder (pos a.k +ℤ q -ℤ pos 1 +ℤ pos a.i) a.n) (whole_is c.before), w.1)
