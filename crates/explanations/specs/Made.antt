-- "The four source places, the four weights, the four samples or coefficients weighed, the divisor and the rounded quotient": the parts of output k of a
-- wrapped line of N samples that moves by d. Assumes nothing.
use Rattle.std.specs.Prelude.{List, ℕ, ◌≤◌, ◌<◌, ℤ, pos, nat_abs, ◌+ℤ◌, ◌-ℤ◌, ◌*ℤ◌, length}
use Rattle.arith.specs.Whole.{remainder, round}
use Rattle.arith.specs.Move.{fraction, whole}
use Rattle.lists.specs.Tab.{tab}
use Rattle.lists.specs.Line.{Line}
use Rattle.refusals.specs.Tests.{AllWithin}
use Rattle.kernels.specs.declared.Kernel.{Kernel}
use Rattle.kernels.specs.Kernel.{weight, weigh}
use Rattle.kernels.specs.Four.{largest}
use Rattle.moves.specs.Move.{divisor}
use Rattle.explanations.specs.declared.Term.{Term}
use Rattle.explanations.specs.declared.Parts.{Parts}

-- source place i of output k: k+q-1+i, taken modulo N
unfoldable pub place_of : ℕ → ℤ → ℕ → ℕ → ℕ
place_of N d k i = remainder (pos k +ℤ whole d -ℤ pos 1 +ℤ pos i) N

-- what stands there, of the samples or coefficients x that the kernel weighs
abbrev pub value_of : ℕ → ℤ → ℕ → Line → Line
value_of N d k x i = x (place_of N d k i)

-- a place with its weight and the value that stands there: one term of the weighted sum
abbrev pub term_by : ℕ → ℤ → ℤ → Term
term_by place weight value = record { place = place; weight = weight; value = value; product = weight *ℤ value }

-- the parts of output k by the four values
unfoldable pub parts_by : Kernel → ℕ → ℤ → ℕ → Line → Parts
parts_by κ N d k v =
    let f = pos (fraction d) in
    record {
      terms = tab (λ i. term_by (place_of N d k i) (weight κ f i) (v i)) 4;
      sum = weigh κ f v;
      divisor = pos (divisor κ);
      quotient = round (weigh κ f v) (divisor κ);
    }

-- and by the samples or coefficients x that the kernel weighs
abbrev pub parts_of : Kernel → ℕ → ℤ → ℕ → Line → Parts
parts_of κ N d k x = parts_by κ N d k (value_of N d k x)

-- a refused call's: every figure is 0
abbrev pub no_term : Term
no_term = record { place = 0; weight = pos 0; value = pos 0; product = pos 0 }

unfoldable pub no_parts : Parts
no_parts = record { terms = tab (λ i. no_term) 4; sum = pos 0; divisor = pos 0; quotient = pos 0 }

-- a line as its kernel weighs it, with output k on it, that moves by d: what the parts are taken from
pub record Weighed (d : ℤ) (k : ℕ) (s : List ℤ) : Type 0 where
  pub few : length s ≤ 1024
  pub inside : k < length s
  pub near : nat_abs d ≤ 4194304
  pub small : AllWithin largest (length s) s
