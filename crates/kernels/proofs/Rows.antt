-- The kernels' rows: every number of them is at most 6 in size. Assumes nothing.
use mathlib.Core.Bool.{Bool, true, ◌&&◌}
use mathlib.Core.List.{List, [], ◌∷◌}
use Prim.Native.Nat.{ℕ, zero, suc, ◌≤◌}
use lib.Dec.{T, leb, leb→le}
use lib.IntN.{ℤ, pos, nat_abs}
use lib.Ieee.Fits.{and_l, and_r}
use lib.ListN.{get_or}
use Rattle.kernels.specs.declared.Kernel.{Kernel}
use Rattle.kernels.specs.declared.Kernel.TheVariants.{Linear, Keys, Spline}
use Rattle.kernels.specs.Kernel.{rows}

abbrev all : {A : Type 0} → (A → Bool) → List A → Bool
all t [] = true
all t (x ∷ xs) = t x && all t xs

all_at : {A : Type 0} (t : A → Bool) (xs : List A) (z : A) → T (all t xs) → T (t z) → (i : ℕ) → T (t (get_or xs i z))
all_at t [] z h k i = k
all_at t (x ∷ xs) z h k zero = and_l (t x) (all t xs) h
all_at t (x ∷ xs) z h k (suc i) = all_at t xs z (and_r (t x) (all t xs) h) k i

abbrev small : ℤ → Bool
small z = leb (nat_abs z) 6

all_small : (κ : Kernel) → T (all (all small) (rows κ))
all_small Linear = tt
all_small Keys = tt
all_small Spline = tt

pub entry_size : (κ : Kernel) (i j : ℕ) → nat_abs (get_or (get_or (rows κ) i []) j (pos 0)) ≤ 6
entry_size κ i j =
    leb→le (nat_abs (get_or (get_or (rows κ) i []) j (pos 0))) 6
    (all_at small (get_or (rows κ) i []) (pos 0) (all_at (all small) (rows κ) [] (all_small κ) tt i) tt j)
