-- `sheared_by` is a product of small numbers: Compute mirrors it. Assumes nothing.
use Prim.Native.Nat.{ℕ, ◌≤◌}
use mathlib.Core.Path.{◌≡◌, sym, ap, ◌∙◌, subst}
use native.Mathlib.Omega.{arith}
use lib.Dec.{lit<}
use lib.IntN.{ℤ, pos, nat_abs, ◌-ℤ◌, ◌*ℤ◌}
use mir.Syntax.{w64}
use mir.Facts.{to_z-of_z}
use Rattle.arith.proofs.Bridge.{bridge}
use Rattle.arith.proofs.Laws.{nat_abs-*ℤ-≤}
use Rattle.arith.proofs.Machine.{sfits-nat_abs}
use Rattle.arith.proofs.Compute.{arg_sized, nat_sized, minus_sized, times_sized, reads}
use Rattle.offsets.proofs.sheared_by.Goals as goal

apart : (y c : ℕ) → y ≤ 1024 → c ≤ 1024 → nat_abs (pos y -ℤ pos c) ≤ 1024
apart = simp bridge (omega arith)

pub returns : goal.returns
returns c =
    let a = c.args in
    let from : c.from.result ≡ a.a = c.from.ensures ∙ to_z-of_z c.ranges.a in
    let small = subst (λ (z : ℤ). nat_abs z ≤ 4096) (sym from) c.requires.0 in
    let product = times_sized (arg_sized {w = w64} 4096 (sfits-nat_abs c.from.result small (lit< tt)) small) (minus_sized (nat_sized 1024 c.requires.2 tt) (nat_sized 1024 c.requires.1 tt) tt) tt in (
      reads product ∙ ap (λ (z : ℤ). z *ℤ (pos a.y -ℤ pos a.c)) from,
      rw (reads product, from) (nat_abs-*ℤ-≤ a.a (pos a.y -ℤ pos a.c) c.requires.0 (apart a.y a.c c.requires.2 c.requires.1)),
    )
