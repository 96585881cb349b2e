-- `figures_of` tells the three figures. Assumes nothing.
use mathlib.Core.Path.{◌≡◌, refl}
use native.Mathlib.Omega.{arith}
use mir.Facts.{to_z_pos}
use mir.Syntax.{w32}
use Rattle.kernels.specs.Kernel.{kernel_of}
use Rattle.kernels.proofs.Numbers.{kernel_known}
use Rattle.forecasts.proofs.figures_of.Goals as goal

pub returns : goal.returns
returns c =
    let s = c.args.setting in
    let known : c.unwrap-kernel.result ≡ kernel_of s.kernel = cc (kernel_known s.kernel c.requires.3.kernel) in
    let bound = c.bound_of-bound in
    rw (c.room.ensures, c.count_of.ensures.0, to_z_pos w32 {n = bound.result} (omega (arith, bound.ensures.1)), bound.ensures.0, c.largest_in-size.ensures, known) refl
