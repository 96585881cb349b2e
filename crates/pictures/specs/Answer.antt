-- What the three-pass call answers, and what it leaves in the result and in work. Assumes nothing.
use Rattle.std.specs.Prelude.{ℕ, ◌+◌, ◌*◌, ◌-◌, ◌≤◌, max, ◌≡◌, Bool, false, List, ◌++◌, ℤ, pos, length, take, drop, replicate, ◌≤ℤ◌, Result, Ok, Err}
use Rattle.lists.specs.Ends.{extremes_of, smallest_in_rows, largest_in_rows}
use Rattle.refusals.specs.declared.Refusal.{Refusal}
use Rattle.refusals.specs.Tests.{AllWithin}
use Rattle.refusals.specs.Judging.{Verdict, accepted, answer_by, number_of, row_of, column_of, when_accepted}
use Rattle.settings.specs.declared.Setting.{Setting}
use Rattle.kernels.specs.declared.Kernel.{Kernel}
use Rattle.kernels.specs.Kernel.{kernel_of}
use Rattle.moves.specs.Range.{lowest, highest, InRange}
use Rattle.lists.specs.Picture.{Picture, picture}
use Rattle.passes.specs.Picture.{shear, straightened, straighten}
use Rattle.passes.specs.Count.{count}
use Rattle.exact.specs.Limits.{Demand3}
use Rattle.acceptance.specs.Judge.{judged_on, judged}
use Rattle.pictures.specs.declared.Straightened.{Straightened}

-- what a call comes to: straightened, or refused
abbrev pub Outcome : Type 0
Outcome = Result Straightened Refusal

-- the lines interpolated, and the smallest and the largest sample of the result (Q-6): all three 0 where refused
abbrev pub count_of : Outcome → ℕ
count_of (Ok told) = told.lines
count_of (Err refusal) = 0

abbrev pub smallest_of : Outcome → ℤ
smallest_of (Ok told) = told.extremes.smallest
smallest_of (Err refusal) = pos 0

abbrev pub largest_of : Outcome → ℤ
largest_of (Ok told) = told.extremes.largest
largest_of (Err refusal) = pos 0

-- a setting's kernel, and how far it moves each row and each column
abbrev pub kernel_in : Setting → Kernel
kernel_in s = kernel_of s.kernel

abbrev pub row_moves : Setting → ℕ → ℤ
row_moves s = shear s.a s.cy

abbrev pub column_moves : Setting → ℕ → ℤ
column_moves s = shear s.b s.cx

-- the rows that pass 3 leaves, of the samples of a list
abbrev pub third_rows : ℕ → ℕ → Setting → List ℤ → Picture
third_rows W H s samples = straightened s.border (kernel_in s) W H (row_moves s) (column_moves s) (picture W samples)

-- what the tests say of a call
abbrev pub verdict_of : ℕ → ℕ → Setting → List ℤ → List ℤ → List ℤ → Verdict
verdict_of W H s picture result work = judged W H s picture (length result) (length work)

-- the outcome of a call with the verdict v that leaves `result'`: its extremes are those of the first W·H samples there
abbrev pub outcome_of : Verdict → ℕ → ℕ → Setting → List ℤ → Outcome
outcome_of v W H s result' = answer_by v (record { lines = count s.border W H (row_moves s) (column_moves s); extremes = extremes_of (W * H) result' })

-- The full answer of a call with the verdict v that lends `picture`, `result` and `work` as they are at entry: r is its outcome, and result' and
-- work' are the buffers at exit. Refused, it says its number, row and column, every other figure is 0, and both buffers stay as they were.
-- Accepted, it counts the lines interpolated, at most 2(H-1) + (W-1), and says the smallest and the largest of the samples written, which are those
-- over the rows of pass 3; the first W·H places of the result hold the three passes of the picture, within the ±1,048,576 that every reading
-- takes; the first 12·max(W, H) places of work hold 0; and the result keeps demand 3, worked out from the picture and the setting as they were
-- handed in. Under linear, kernel 0, every sample of the result lies in the range of the picture's samples and the background (Q-12), and so do the
-- smallest and the largest that are told.
pub record Answered (v : Verdict) (W H : ℕ) (s : Setting) (picture result work : List ℤ) (r : Outcome) (result' work' : List ℤ) : Type 0 where
  pub outcome : r ≡ outcome_of v W H s result'
  pub number : number_of r ≡ number_of v
  pub row : row_of r ≡ row_of v
  pub column : column_of r ≡ column_of v
  pub count : count_of r ≡ when_accepted v (count s.border W H (row_moves s) (column_moves s)) 0
  pub smallest : smallest_of r ≡ when_accepted v (smallest_in_rows W H (third_rows W H s picture)) (pos 0)
  pub largest : largest_of r ≡ when_accepted v (largest_in_rows W H (third_rows W H s picture)) (pos 0)
  pub few : count_of r ≤ 2 * (H - 1) + (W - 1)
  pub written : result'
      ≡ when_accepted v (straighten s.border (kernel_in s) W H (row_moves s) (column_moves s) (take (W * H) picture) ++ drop (W * H) result) result
  pub readable : v ≡ accepted → AllWithin 1048576 (W * H) result'
  pub cleared : work' ≡ when_accepted v (replicate (12 * max W H) (pos 0) ++ drop (12 * max W H) work) work
  pub demand3 : v ≡ accepted → Demand3 s.border (kernel_in s) W H (row_moves s) (column_moves s) picture (take (W * H) result')
  pub no_overshoot : v ≡ accepted → s.kernel ≡ 0 → InRange s.border (W * H) picture result'
  pub told_in_range : v ≡ accepted → s.kernel ≡ 0
      → (lowest s.border (W * H) picture ≤ℤ smallest_of r) × (largest_of r ≤ℤ highest s.border (W * H) picture)

-- a call whose verdict is that of the tests, on a ticket of another size or not (Q-7)
abbrev pub AnswerOn : Bool → ℕ → ℕ → Setting → List ℤ → List ℤ → List ℤ → Outcome → List ℤ → List ℤ → Type 0
AnswerOn other W H s picture result work = Answered (judged_on other W H s picture (length result) (length work)) W H s picture result work

-- the single call, which is on no ticket
abbrev pub Answer : ℕ → ℕ → Setting → List ℤ → List ℤ → List ℤ → Outcome → List ℤ → List ℤ → Type 0
Answer = AnswerOn false
