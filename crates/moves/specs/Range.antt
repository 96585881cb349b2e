-- What document 02 says of the linear kernel's range, and of one number added to all samples (Q-12). Assumes nothing.
use Rattle.std.specs.Prelude.{◌≡◌, List, ℕ, ◌≤◌, ◌<◌, ℤ, nat_abs, ◌+ℤ◌, ◌-ℤ◌, length, ◌≤ℤ◌}
use Rattle.arith.specs.Whole.{min_ℤ, max_ℤ}
use Rattle.lists.specs.Line.{line}
use Rattle.lists.specs.Ends.{smallest, largest}
use Rattle.settings.specs.declared.Border.{Border}
use Rattle.settings.specs.declared.Border.TheVariants.{Wrapped, Background}
use Rattle.kernels.specs.declared.Kernel.{Kernel}
use Rattle.moves.specs.Border.{move_in}

-- the smallest and the largest of the first n samples of a list, with the background among them where that border is set
abbrev pub lowest : Border → ℕ → List ℤ → ℤ
lowest Wrapped n s = smallest (line s) n
lowest (Background b) n s = min_ℤ (smallest (line s) n) b

abbrev pub highest : Border → ℕ → List ℤ → ℤ
highest Wrapped n s = largest (line s) n
highest (Background b) n s = max_ℤ (largest (line s) n) b

abbrev pub Between : ℤ → ℤ → ℤ → Type 0
Between low high v = (low ≤ℤ v) × (v ≤ℤ high)

-- each of the first n samples of t lies between the smallest and the largest of the first n of s and the background
abbrev pub InRange : Border → ℕ → List ℤ → List ℤ → Type 0
InRange β n s t = (k : ℕ) → k < n → Between (lowest β n s) (highest β n s) (line t k)

-- c added to the background, and to each of the first n samples
abbrev pub raised : ℤ → Border → Border
raised c Wrapped = Wrapped
raised c (Background b) = Background (b +ℤ c)

abbrev pub Raised : ℤ → ℕ → List ℤ → List ℤ → Type 0
Raised c n s t = (k : ℕ) → k < n → line t k ≡ line s k +ℤ c

-- the same to within m units, which is said of the spline; document 02 has no such sentence
abbrev pub RaisedWithin : ℕ → ℤ → ℕ → List ℤ → List ℤ → Type 0
RaisedWithin m c n s t = (k : ℕ) → k < n → nat_abs (line t k -ℤ (line s k +ℤ c)) ≤ m

-- ---- what a kernel may keep, of every line under either border
-- no moved sample leaves the range of the samples and the background
abbrev pub KeepsRange : Kernel → Type 0
KeepsRange κ = (β : Border) (d : ℤ) (s : List ℤ) → InRange β (length s) s (move_in β κ d s)

-- what is added to every sample and to the background is added to every moved sample
abbrev pub Adds : Kernel → Type 0
Adds κ = (c : ℤ) (β : Border) (d : ℤ) (s t : List ℤ) → length t ≡ length s → Raised c (length s) s t
    → Raised c (length s) (move_in β κ d s) (move_in (raised c β) κ d t)
