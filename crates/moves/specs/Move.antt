-- A line of N samples moved by d/4,096 samples. Output k is the weighted sum of the source places k+q-1 to k+q+2, their indices modulo N,
-- divided and rounded once. Assumes nothing.
use Rattle.std.specs.Prelude.{List, ℕ, ◌+◌, ℤ, pos, ◌-ℤ◌, length}
use Rattle.arith.specs.Whole.{remainder, round}
use Rattle.arith.specs.Move.{fraction, whole}
use Rattle.lists.specs.Tab.{tab}
use Rattle.lists.specs.Line.{Line, wrap, line}
use Rattle.kernels.specs.declared.Kernel.{Kernel}
use Rattle.kernels.specs.declared.Kernel.TheVariants.{Linear, Keys, Spline}
use Rattle.kernels.specs.Kernel.{weigh}
use Rattle.spline.specs.Coefficients.{coefficient}

-- q - 1 modulo N, the first source place of output 0
unfoldable pub first : ℕ → ℤ → ℕ
first N d = remainder (whole d -ℤ pos 1) N

-- the weighted sum for output k, of a sequence x with period N
unfoldable pub mixed : Kernel → ℕ → ℤ → Line → Line
mixed κ N d x k = weigh κ (pos (fraction d)) (λ i. x (first N d + k + i))

-- kernels 0 and 1 weigh the samples, kernel 2 the coefficients
unfoldable pub source : Kernel → ℕ → Line → Line
source Linear N s = s
source Keys N s = s
source Spline N s = coefficient N s

-- what the weighted sum is divided by: n·D³, and 16·6·D³ for kernel 2
abbrev pub divisor : Kernel → ℕ
divisor Linear = 68719476736
divisor Keys = 137438953472
divisor Spline = 6597069766656

unfoldable pub moved : Kernel → ℕ → ℤ → Line → Line
moved κ N d s k = round (mixed κ N d (wrap N (source κ N s)) k) (divisor κ)

-- the same of a list
unfoldable pub move : Kernel → ℤ → List ℤ → List ℤ
move κ d s = tab (moved κ (length s) d (line s)) (length s)
