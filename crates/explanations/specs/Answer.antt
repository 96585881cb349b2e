-- What the call answers, accepted or refused, and what it leaves in its work. Assumes nothing.
use Rattle.std.specs.Prelude.{◌≡◌, Result, Ok, Err, List, ◌++◌, ℕ, ◌*◌, ◌≤◌, ◌<◌, leb, ℤ, pos, nat_abs, ◌*ℤ◌, length, get_or, take, drop, replicate}
use Rattle.arith.specs.Whole.{round}
use Rattle.arith.specs.Sum.{Σ}
use Rattle.lists.specs.Line.{Line, wrap, line}
use Rattle.refusals.specs.declared.Refusal.{Refusal}
use Rattle.refusals.specs.declared.Refusal.TheVariants.{Outside}
use Rattle.refusals.specs.Judging.{Verdict, accepted, refused_if, answer_by, when_accepted, number_of}
use Rattle.settings.specs.declared.Border.TheVariants.{Wrapped}
use Rattle.kernels.specs.declared.Kernel.{Kernel}
use Rattle.kernels.specs.Kernel.{kernel_of, norm, D³}
use Rattle.spline.specs.Coefficients.{coefficient}
use Rattle.moves.specs.Move.{mixed, source, divisor}
use Rattle.moves.specs.Border.{move_in}
use Rattle.lines.specs.Answer.{judged_by, Passed}
use Rattle.explanations.specs.declared.Term.{Term}
use Rattle.explanations.specs.declared.Parts.{Parts}
use Rattle.explanations.specs.Made.{parts_of, no_term, no_parts}

-- the numbers of a line, 1, 2, 4, 5 and 6, with 7 ahead of 6: a place beyond the line. No result is lent, so of the buffers that hold a line there is the
-- line alone
unfoldable pub judged : ℕ → ℕ → ℤ → ℕ → List ℤ → ℕ → Verdict
judged n kernel d k s work = judged_by n kernel d (refused_if (leb n k) Outside accepted) s (length s) work

-- what an accepted call has passed, but that its kernel is known
pub record Explainable (n : ℕ) (d : ℤ) (k : ℕ) (s : List ℤ) (work : ℕ) : Type 0 where
  pub passed : Passed n d s (length s) work
  pub inside : k < n

-- what a kernel weighs of the first n places: the samples, or for the spline their coefficients
abbrev pub weighed_of : Kernel → ℕ → List ℤ → Line
weighed_of κ n s = source κ n (line (take n s))

abbrev pub source_of : ℕ → ℕ → List ℤ → Line
source_of n kernel s = weighed_of (kernel_of kernel) n s

-- the full answer
unfoldable pub explanation_of : ℕ → ℕ → ℤ → ℕ → List ℤ → ℕ → Result Parts Refusal
explanation_of n kernel d k s work = answer_by (judged n kernel d k s work) (parts_of (kernel_of kernel) n d k (source_of n kernel s))

-- the parts that an answer tells: refused, every figure is 0
abbrev pub parts_of_answer : Result Parts Refusal → Parts
parts_of_answer (Ok p) = p
parts_of_answer (Err refusal) = no_parts

-- term i of those that are shown
abbrev pub term : Parts → ℕ → Term
term p i = get_or p.terms i no_term

-- what is shown, by its own figures: samples of the line, or for kernel 2 coefficients, by their places; the products and their sum; the divisor, and the
-- quotient by it; and the weights, which sum to n·D³ with document 01's n
pub record Shown (n kernel : ℕ) (s : List ℤ) (p : Parts) : Type 0 where
  pub inside : (i : ℕ) → i < 4 → (term p i).place < n
  pub sample : kernel ≤ 1 → (i : ℕ) → i < 4 → (term p i).value ≡ line s (term p i).place
  pub weighed : kernel ≡ 2 → (i : ℕ) → i < 4 → (term p i).value ≡ coefficient n (line (take n s)) (term p i).place
  pub product : (i : ℕ) → i < 4 → (term p i).product ≡ (term p i).weight *ℤ (term p i).value
  pub sum : p.sum ≡ Σ (λ i. (term p i).product) 4
  pub over : p.divisor ≡ pos (divisor (kernel_of kernel))
  pub quotient : p.quotient ≡ round p.sum (nat_abs p.divisor)
  pub weights : Σ (λ i. (term p i).weight) 4 ≡ pos (norm (kernel_of kernel) * D³)

-- the call: its answer, what its work holds afterwards, and of an accepted one, number 0, that what it shows adds up, that its sum is document 01's for output k, and
-- that its quotient is the sample at k of the moved line
pub record Explained (n kernel : ℕ) (d : ℤ) (k : ℕ) (s work₀ work₁ : List ℤ) (r : Result Parts Refusal) : Type 0 where
  pub answer : r ≡ explanation_of n kernel d k s (length work₀)
  pub work : work₁ ≡ when_accepted (judged n kernel d k s (length work₀)) (replicate (6 * n) (pos 0) ++ drop (6 * n) work₀) work₀
  pub shown : number_of r ≡ 0 → Shown n kernel s (parts_of_answer r)
  pub mixed_sum : number_of r ≡ 0 → (parts_of_answer r).sum ≡ mixed (kernel_of kernel) n d (wrap n (source_of n kernel s)) k
  pub moved : number_of r ≡ 0 → (parts_of_answer r).quotient ≡ line (move_in Wrapped (kernel_of kernel) d (take n s)) k
