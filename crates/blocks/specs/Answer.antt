-- What the block call answers, and what it leaves in the result and in work. Assumes nothing.
use Rattle.std.specs.Prelude.{ℕ, ◌*◌, ◌/◌, ◌%◌, ◌<◌, ◌≡◌, cond, List, ◌++◌, eqb, ℤ, pos, length, drop, replicate, Result, Ok, Err}
use Rattle.lists.specs.declared.Extremes.{Extremes}
use Rattle.lists.specs.Ends.{smallest, largest, extremes_of, smallest_in_rows, largest_in_rows}
use Rattle.refusals.specs.declared.Refusal.{Refusal}
use Rattle.refusals.specs.declared.Refusal.TheVariants.{BadSample, BelowThreshold}
use Rattle.refusals.specs.Tests.{AllWithin}
use Rattle.refusals.specs.Judging as verdict
use Rattle.refusals.specs.Judging.{Verdict, accepted, when_accepted}
use Rattle.settings.specs.declared.Setting.{Setting}
use Rattle.lists.specs.Picture.{Picture}
use Rattle.passes.specs.Count.{count}
use Rattle.planes.specs.declared.Slices.{Slices}
use Rattle.planes.specs.Slices.{slice_of}
use Rattle.pictures.specs.declared.Straightened.{Straightened}
use Rattle.pictures.specs.Answer as single
use Rattle.pictures.specs.Answer.{row_moves, column_moves, third_rows}
use Rattle.blocks.specs.declared.BlockRefusal.{BlockRefusal}
use Rattle.blocks.specs.Block.{slices_of, straighten_block}
use Rattle.blocks.specs.Judge.{room_of, judged}

-- what a call comes to: straightened, or refused
abbrev pub Outcome : Type 0
Outcome = Result Straightened BlockRefusal

-- document 02's number, depth, row, column and count of each outcome
abbrev pub number_of : Outcome → ℕ
number_of (Ok told) = 0
number_of (Err refused) = verdict.number refused.refusal

abbrev pub depth_of : Outcome → ℕ
depth_of (Ok told) = 0
depth_of (Err refused) = refused.depth

abbrev pub row_of : Outcome → ℕ
row_of (Ok told) = 0
row_of (Err refused) = (verdict.place refused.refusal).row

abbrev pub column_of : Outcome → ℕ
column_of (Ok told) = 0
column_of (Err refused) = (verdict.place refused.refusal).column

abbrev pub count_of : Outcome → ℕ
count_of (Ok told) = told.lines
count_of (Err refused) = 0

-- the smallest and the largest sample of the result, 0 where refused
abbrev pub smallest_of : Outcome → ℤ
smallest_of (Ok told) = told.extremes.smallest
smallest_of (Err refused) = pos 0

abbrev pub largest_of : Outcome → ℤ
largest_of (Ok told) = told.extremes.largest
largest_of (Err refused) = pos 0

-- a figure that 6 alone tells: 0 under every other number
abbrev pub only_six : ℕ → ℕ → ℕ
only_six number figure = cond (eqb number 6) figure 0

-- a refusal by depth, row and column, told under 6 alone: row r of all pictures, one below the other, is row r modulo H at the depth r / H
abbrev pub refused_at : ℕ → Refusal → BlockRefusal
refused_at H (BadSample p) = record { refusal = BadSample (record { row = p.row % H; column = p.column }); depth = p.row / H }
refused_at H (BelowThreshold p) = record { refusal = BelowThreshold (record { row = 0; column = 0 }); depth = 0 }
refused_at H refusal = record { refusal = refusal; depth = 0 }

-- the outcome of a verdict, with the lines interpolated and the extremes of the result when accepted
abbrev pub outcome_by : ℕ → Verdict → ℕ → Extremes → Outcome
outcome_by H (Ok u) lines extremes = Ok (record { lines = lines; extremes = extremes })
outcome_by H (Err refusal) lines extremes = Err (refused_at H refusal)

-- the lines interpolated in one slice, and in all of them
abbrev pub count_in : Slices → Setting → ℕ
count_in s set = count set.border s.columns s.rows (row_moves set) (column_moves set)

abbrev pub count_over : Slices → Setting → ℕ
count_over s set = s.slices * count_in s set

-- the rows that pass 3 leaves of slice i
abbrev pub slice_rows : Slices → Setting → List ℤ → ℕ → Picture
slice_rows s set block i = third_rows s.columns s.rows set (slice_of s block i)

-- the smallest and the largest of them over all slices
abbrev pub smallest_over : Slices → Setting → List ℤ → ℤ
smallest_over s set block = smallest (λ i. smallest_in_rows s.columns s.rows (slice_rows s set block i)) s.slices

abbrev pub largest_over : Slices → Setting → List ℤ → ℤ
largest_over s set block = largest (λ i. largest_in_rows s.columns s.rows (slice_rows s set block i)) s.slices

-- the outcome of the single call on a slice that was left so
abbrev pub slice_outcome : Slices → Setting → List ℤ → single.Outcome
slice_outcome s set left = Ok (record { lines = count_in s set; extremes = extremes_of (s.columns * s.rows) left })

-- what the tests say of a call
abbrev pub verdict_of : ℕ → ℕ → ℕ → ℕ → Setting → List ℤ → List ℤ → List ℤ → Verdict
verdict_of W H D plane set block result work = judged W H D plane set block (length result) (length work)

-- The full answer of a call with the verdict v and the slices s that lends `block`, `result` and `work` as they are at entry: r is its outcome, and
-- result' and work' are the buffers at exit. Refused, it says its number, and under 6 the depth, the row and the column of a sample; every other figure
-- is 0, and both buffers stay as they were. Accepted, it counts the lines interpolated over all slices, and says the smallest and the largest of the
-- samples written, which are those over the rows of pass 3 of all slices; the first W·H·D places of the result hold the block straightened, within the
-- ±1,048,576 that every reading takes; the work places of one slice hold 0; and every slice keeps the whole contract of the single call on that slice of
-- the block as it was handed in: sample for sample, demand 3, linear's range, its count and its extremes.
pub record Answered (v : Verdict) (W H D plane : ℕ) (s : Slices) (set : Setting) (block result work : List ℤ) (r : Outcome) (result' work' : List ℤ) : Type 0 where
  pub outcome : r ≡ outcome_by H v (count_over s set) (extremes_of (W * H * D) result')
  pub number : number_of r ≡ verdict.number_of v
  pub depth : depth_of r ≡ only_six (verdict.number_of v) (verdict.row_of v / H)
  pub row : row_of r ≡ only_six (verdict.number_of v) (verdict.row_of v % H)
  pub column : column_of r ≡ only_six (verdict.number_of v) (verdict.column_of v)
  pub count : count_of r ≡ when_accepted v (count_over s set) 0
  pub smallest : smallest_of r ≡ when_accepted v (smallest_over s set block) (pos 0)
  pub largest : largest_of r ≡ when_accepted v (largest_over s set block) (pos 0)
  pub written : result' ≡ when_accepted v (straighten_block W H D plane set block ++ drop (W * H * D) result) result
  pub readable : v ≡ accepted → AllWithin 1048576 (W * H * D) result'
  pub cleared : work' ≡ when_accepted v (replicate (room_of s) (pos 0) ++ drop (room_of s) work) work
  pub single : v ≡ accepted → (i : ℕ) → i < s.slices
      → single.Answer s.columns s.rows set (slice_of s block i) (slice_of s result i) work (slice_outcome s set (slice_of s result' i)) (slice_of s result' i) work'

-- the answer of a call with the verdict of the tests
abbrev pub Answer : ℕ → ℕ → ℕ → ℕ → Setting → List ℤ → List ℤ → List ℤ → Outcome → List ℤ → List ℤ → Type 0
Answer W H D plane set block result work =
    Answered (verdict_of W H D plane set block result work) W H D plane (slices_of W H D plane) set block result work
