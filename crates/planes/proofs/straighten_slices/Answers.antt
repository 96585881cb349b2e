-- `straighten_slices` moves the rows, the columns and the rows of all slices. Assumes nothing.
use Prim.Native.Nat.{ℕ, ◌≤◌}
use mathlib.Core.Path.{◌≡◌, subst}
use lib.Dec.{lit<}
use lib.IntN.{ℤ, nat_abs}
use mir.Syntax.{w32}
use mir.Val.{to_z, of_z}
use mir.Facts.{to_z-of_z}
use Rattle.arith.proofs.Machine.{sfits-nat_abs}
use Rattle.kernels.specs.declared.Kernel.{Kernel}
use Rattle.kernels.specs.Kernel.{kernel_of}
use Rattle.kernels.proofs.Numbers.{kernel_known}
use Rattle.passes.specs.Picture.{shear, straightened}
use Rattle.planes.specs.Slices.{transposed}
use Rattle.planes.specs.Sweep.{Treated, Swept}
use Rattle.planes.proofs.Three.{three_passes, second_range, third_range}
use Rattle.planes.proofs.straighten_slices.Goals as goal

-- a shear, read back
read : (a : ℤ) → nat_abs a ≤ 4096 → to_z w32 (of_z w32 a) ≡ a
read a h = to_z-of_z {w = w32} (sfits-nat_abs a h (lit< tt))

pub sweep-requires-2-clause-slices_within : goal.sweep-requires-2-clause-slices_within
sweep-requires-2-clause-slices_within c =
    let s = c.args.s in
    let t = c.args.setting in
    let f = c.requires.workable in
    let first = rw (read t.a f.setting.shears.0) at c.sweep.ensures in
    rw c.transposed.ensures
    (second_range t.border c.unwrap-kernel.result (shear t.a t.cy) (shear t.b t.cx) s c.args.list.now c.sweep.new.list f.columns.0 f.rows.0 first f.setting.background c.requires.slices_within)

pub sweep-requires-3-clause-slices_within : goal.sweep-requires-3-clause-slices_within
sweep-requires-3-clause-slices_within c =
    let s = c.args.s in
    let t = c.args.setting in
    let f = c.requires.workable in
    let first = rw (read t.a f.setting.shears.0) at c.sweep.ensures in
    let second =
    subst (λ (b : ℤ). Swept t.border c.unwrap-kernel.result (λ i. shear b t.cx) (transposed s) c.sweep.new.list c.sweep-2.new.list) (read t.b f.setting.shears.1)
    (rw c.transposed.ensures at c.sweep-2.ensures) in
    third_range t.border c.unwrap-kernel.result (shear t.a t.cy) (shear t.b t.cx) s c.args.list.now c.sweep.new.list f.columns.0 f.rows.0 first c.sweep-2.new.list second f.setting.background c.requires.slices_within

pub returns : goal.returns
returns c =
    let s = c.args.s in
    let t = c.args.setting in
    let f = c.requires.workable in
    let first = rw (read t.a f.setting.shears.0) at c.sweep.ensures in
    let second =
    subst (λ (b : ℤ). Swept t.border c.unwrap-kernel.result (λ i. shear b t.cx) (transposed s) c.sweep.new.list c.sweep-2.new.list) (read t.b f.setting.shears.1)
    (rw c.transposed.ensures at c.sweep-2.ensures) in
    let known : c.unwrap-kernel.result ≡ kernel_of t.kernel = cc (kernel_known t.kernel f.setting.kernel) in
    subst (λ (κ : Kernel). Treated (λ (i : ℕ). straightened t.border κ s.columns s.rows (shear t.a t.cy) (shear t.b t.cx)) s c.args.list.now c.sweep-3.new.list) known
    (three_passes t.border c.unwrap-kernel.result (shear t.a t.cy) (shear t.b t.cx) s c.args.list.now c.sweep.new.list f.columns.0 f.rows.0 first c.sweep-2.new.list second c.sweep-3.new.list (rw (read t.a f.setting.shears.0) at c.sweep-3.ensures))
