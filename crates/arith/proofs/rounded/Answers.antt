-- `rounded` adds half of r and rounds down. Assumes nothing.
use mathlib.Core.Path.{◌≡◌, sym, ◌∙◌}
use Prim.Native.Nat.{ℕ, ◌≤◌, ◌<◌}
use native.Mathlib.Omega.{arith}
use lib.IntN.{ℤ, pos, negsuc, nat_abs, ◌+ℤ◌}
use lib.Signed.{◌≤ℤ◌, ◌<ℤ◌, quot_z}
use mir.Syntax.{w64}
use mir.Facts.{to_z-of_z}
use Rattle.arith.specs.Whole.{floor, round}
use Rattle.arith.proofs.Bridge.{bridge, all1}
use Rattle.arith.proofs.Laws.{positive}
use Rattle.arith.proofs.Round.{euclid-floor, round-floor}
use Rattle.arith.proofs.Compute.{arg, num, quotient, ◌+ᵐ◌, ◌/ᵐ◌, Sized, arg_sized, num_sized, plus_sized, div_sized, reads}
use Rattle.arith.proofs.Machine.{read_back}
use Rattle.arith.proofs.rounded.Goals as goal
use Rattle.arith.proofs.rounded.Goals.{After-div_euclid}

sized : (r : ℤ) → pos 1 ≤ℤ r → r ≤ℤ pos 576460752303423488 → (nat_abs r ≤ 576460752303423488) × (pos 0 <ℤ r)
sized = all1 _ (simp bridge (omega arith))

-- p and half of r, in range
raised : (c : After-div_euclid) → Sized {w = w64} (arg c.args.p +ᵐ arg c.args.r /ᵐ num 2) 7493989779944505344
raised c =
    plus_sized (arg_sized 6917529027641081856 c.ranges.p c.requires.0)
    (div_sized (arg_sized 576460752303423488 c.ranges.r (sized c.args.r c.requires.1 c.requires.2).0) (num_sized 2 tt) quotient (above 2 (omega arith))) tt
  where
    above : (n : ℕ) → 0 < n → pos 0 <ℤ pos n
    above = simp bridge (omega arith)

halved : (p r : ℤ) → pos 0 <ℤ r → floor (p +ℤ quot_z r (pos 2)) (nat_abs r) ≡ round p (nat_abs r)
halved p (pos r) h = sym (round-floor p r (positive r h))
halved p (negsuc r) h = absurd h.lt

pub returns : goal.returns
returns c =
    let some = (sized c.args.r c.requires.1 c.requires.2).1 in
    read_back w64 c.div_euclid.result c.div_euclid.type_inv
    ∙ (rw (reads (raised c), to_z-of_z c.ranges.r) at c.div_euclid.ensures)
    ∙ euclid-floor (c.args.p +ℤ quot_z c.args.r (pos 2)) c.args.r some
    ∙ halved c.args.p c.args.r some
