-- The number of a kernel that there is. Assumes nothing.
use Prim.Native.Nat.{ℕ, zero, suc, ◌≤◌}
use mathlib.Core.Path.{◌≡◌, refl}
use native.Mathlib.Omega.{arith}
use Rattle.std.specs.Prelude.{Ok}
use Rattle.kernels.specs.Kernel.{kernel_at, kernel_of}

pub kernel_known : (n : ℕ) → n ≤ 2 → kernel_at n ≡ Ok (kernel_of n)
kernel_known zero h = refl
kernel_known (suc zero) h = refl
kernel_known (suc (suc zero)) h = refl
kernel_known (suc (suc (suc n))) h = absurd (omega arith)
