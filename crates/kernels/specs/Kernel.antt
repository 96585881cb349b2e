-- The kernels: four rows of four whole numbers each, and the weight that a row gives at f. Assumes nothing.
use Rattle.std.specs.Prelude.{Result, Ok, Err, List, [], ◌∷◌, ℕ, zero, suc, ℤ, pos, negsuc, ◌+ℤ◌, ◌*ℤ◌, get_or}
use Rattle.arith.specs.Sum.{Σ}
use Rattle.refusals.specs.declared.Refusal.{Refusal}
use Rattle.refusals.specs.declared.Refusal.TheVariants.{BadKernel}
use Rattle.kernels.specs.declared.Kernel.{Kernel}
use Rattle.kernels.specs.declared.Kernel.TheVariants.{Linear, Keys, Spline}

-- a caller's number for a kernel: 0 linear, 1 Keys, 2 cubic spline, and number 5 for every other
abbrev pub kernel_at : ℕ → Result Kernel Refusal
kernel_at zero = Ok Linear
kernel_at (suc zero) = Ok Keys
kernel_at (suc (suc zero)) = Ok Spline
kernel_at (suc (suc (suc n))) = Err BadKernel

-- the kernel of a number that is not refused
abbrev pub kernel_of : ℕ → Kernel
kernel_of zero = Linear
kernel_of (suc zero) = Keys
kernel_of (suc (suc n)) = Spline

-- D³, for D = 4,096
abbrev pub D³ : ℕ
D³ = 68719476736

-- the rows of a kernel, for the source places k+q-1, k+q, k+q+1 and k+q+2
abbrev pub rows : Kernel → List (List ℤ)
rows Linear =
    (pos 0 ∷ pos 0 ∷ pos 0 ∷ pos 0 ∷ [])
    ∷ (pos 1 ∷ negsuc 0 ∷ pos 0 ∷ pos 0 ∷ [])
    ∷ (pos 0 ∷ pos 1 ∷ pos 0 ∷ pos 0 ∷ [])
    ∷ (pos 0 ∷ pos 0 ∷ pos 0 ∷ pos 0 ∷ [])
    ∷ []
rows Keys =
    (pos 0 ∷ negsuc 0 ∷ pos 2 ∷ negsuc 0 ∷ [])
    ∷ (pos 2 ∷ pos 0 ∷ negsuc 4 ∷ pos 3 ∷ [])
    ∷ (pos 0 ∷ pos 1 ∷ pos 4 ∷ negsuc 2 ∷ [])
    ∷ (pos 0 ∷ pos 0 ∷ negsuc 0 ∷ pos 1 ∷ [])
    ∷ []
rows Spline =
    (pos 1 ∷ negsuc 2 ∷ pos 3 ∷ negsuc 0 ∷ [])
    ∷ (pos 4 ∷ pos 0 ∷ negsuc 5 ∷ pos 3 ∷ [])
    ∷ (pos 1 ∷ pos 3 ∷ pos 3 ∷ negsuc 2 ∷ [])
    ∷ (pos 0 ∷ pos 0 ∷ pos 0 ∷ pos 1 ∷ [])
    ∷ []

-- document 01's n: a kernel's weights sum to n·D³
abbrev pub norm : Kernel → ℕ
norm Linear = 1
norm Keys = 2
norm Spline = 6

-- row (a, b, c, e) at f: a·D³ + b·f·D² + c·f²·D + e·f³
abbrev pub evaluate : List ℤ → ℤ → ℤ
evaluate r f = get_or r 0 (pos 0) *ℤ pos 68719476736 +ℤ get_or r 1 (pos 0) *ℤ f *ℤ pos 16777216 +ℤ get_or r 2 (pos 0) *ℤ f *ℤ f *ℤ pos 4096 +ℤ get_or r 3 (pos 0) *ℤ f *ℤ f *ℤ f

-- the weight of source place k+q-1+i at f
abbrev pub weight : Kernel → ℤ → ℕ → ℤ
weight κ f i = evaluate (get_or (rows κ) i []) f

-- the weighted sum of the four places that x begins with
unfoldable pub weigh : Kernel → ℤ → (ℕ → ℤ) → ℤ
weigh κ f x = Σ (λ i. weight κ f i *ℤ x i) 4
