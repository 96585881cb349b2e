-- How a line is moved in place: it is prepared (kernel 2: the coefficients take the samples' places), each place is weighed where it stands,
-- and the line is turned by its whole samples as it is stored. `moved_in_place` in proofs/ says that this is document 01's move.
-- Assumes nothing.
use Rattle.std.specs.Prelude.{◌≡◌, List, ℕ, ◌+◌, ◌-◌, ℤ, pos, ◌+ℤ◌, ◌*ℤ◌, length, ◌≤ℤ◌, ◌<ℤ◌}
use Rattle.arith.specs.Whole.{remainder, round}
use Rattle.arith.specs.Move.{whole}
use Rattle.lists.specs.Tab.{tab}
use Rattle.lists.specs.Line.{Line, wrap, line, rolled}
use Rattle.kernels.specs.declared.Kernel.{Kernel}
use Rattle.kernels.specs.declared.Kernel.TheVariants.{Linear, Keys, Spline}
use Rattle.kernels.specs.Kernel.{weight, weigh}
use Rattle.moves.specs.declared.TwoWeights.{TwoWeights}
use Rattle.moves.specs.Move.{source, divisor}

-- a fraction of a sample, in 4,096ths
abbrev pub Fraction : ℤ → Type 0
Fraction f = (pos 0 ≤ℤ f) × (f <ℤ pos 4096)

-- the samples, or for kernel 2 their coefficients
unfoldable pub prepared : Kernel → List ℤ → List ℤ
prepared κ s = tab (source κ (length s) (line s)) (length s)

-- how large the samples or coefficients are that a kernel weighs, for samples within ±294,912
abbrev pub weighed_size : Kernel → ℕ
weighed_size Linear = 294912
weighed_size Keys = 294912
weighed_size Spline = 14155779

-- linear's two middle weights at f are D² times these; its outer two are 0
pub record Middle (f : ℤ) (w : TwoWeights) : Type 0 where
  pub first : weight Linear f 1 ≡ pos 16777216 *ℤ w.here
  pub second : weight Linear f 2 ≡ pos 16777216 *ℤ w.next

-- two weights that share 4,096
pub record Shares (w : TwoWeights) : Type 0 where
  pub here_low : pos 0 ≤ℤ w.here
  pub next_low : pos 0 ≤ℤ w.next
  pub whole : w.here +ℤ w.next ≡ pos 4096

-- place j - 1 + i of a line, cyclically: 0 to 3 are the four places that place j is weighed from
unfoldable pub near : List ℤ → ℕ → Line
near s j i = wrap (length s) (line s) (j + (length s - 1) + i)

-- place j of a prepared line weighed at f
unfoldable pub weighed_at : Kernel → ℤ → List ℤ → ℕ → ℤ
weighed_at κ f s j = round (weigh κ f (near s j)) (divisor κ)

-- the line with every place weighed where it stands
unfoldable pub weighed : Kernel → ℤ → List ℤ → List ℤ
weighed κ f s = tab (weighed_at κ f s) (length s)

-- q modulo N: how far a line of N places is turned
unfoldable pub turn : ℕ → ℤ → ℕ
turn N d = remainder (whole d) N

-- place k gets place k + r
unfoldable pub turned_by : ℕ → List ℤ → List ℤ
turned_by r s = tab (rolled r s) (length s)
