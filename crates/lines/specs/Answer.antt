-- What the call that moves one line answers, accepted or refused, and what it leaves in the lent buffers. Assumes nothing.
use Rattle.std.specs.Prelude.{◌≡◌, Bool, ◌||◌, cond, Result, Ok, Err, List, ◌++◌, ℕ, ◌*◌, ◌≤◌, min, ltb, ℤ, pos, nat_abs, length, take, drop, replicate, ◌≤ℤ◌}
use Rattle.lists.specs.Ends.{extremes_of}
use Rattle.refusals.specs.declared.Refusal.{Refusal}
use Rattle.refusals.specs.declared.Refusal.TheVariants.{BadSize, TooShort, TooFar, BadKernel, BadSample, BadBackground}
use Rattle.refusals.specs.Tests.{bad_side, short, bad_kernel, beyond_of, first_bad, AllWithin}
use Rattle.refusals.specs.Judging.{Verdict, accepted, refused_if, of_found, and_then, answer_by, when_accepted, number_of, row_of, column_of}
use Rattle.settings.specs.declared.Border.{Border}
use Rattle.kernels.specs.Kernel.{kernel_of}
use Rattle.moves.specs.Border.{move_in, fraction_in, bad_background, grey}
use Rattle.moves.specs.Range.{lowest, highest, InRange}
use Rattle.lines.specs.declared.Moved.{Moved}

-- the farthest move, in 4,096ths of a sample, and the range of samples
abbrev pub farthest : ℕ
farthest = 4194304

abbrev pub range : ℕ
range = 294912

-- the work places that a line of n samples takes, 0 for a length that number 1 refuses
unfoldable pub work_places : ℕ → ℕ
work_places n = cond (bad_side n) 0 (6 * n)

-- 2: the shortest of the buffers that hold a line under n places, or the work under 6n
unfoldable pub too_short : ℕ → ℕ → ℕ → Bool
too_short n held work = short held n || short work (6 * n)

-- the numbers of every call on a line that is lent: 1, 2, 4, 5, what the call's own test says, and 6. `held` are the places of the shortest buffer that
-- holds a line, `work` those of the work. The call's own refusals may be of any type, E, which has each shared one as `told` says
abbrev pub judged_as : {E : Type 0} → (Refusal → E) → ℕ → ℕ → ℤ → Result Unit E → List ℤ → ℕ → ℕ → Result Unit E
judged_as told n kernel d own line held work =
    refused_if (bad_side n) (told BadSize)
    (refused_if (too_short n held work) (told TooShort)
    (refused_if (beyond_of farthest d) (told TooFar)
    (refused_if (bad_kernel kernel) (told BadKernel)
    (and_then own
    (of_found (λ p. told (BadSample p)) (first_bad range n 1 line))))))

-- the same of a call whose own refusals are among the shared ones
unfoldable pub judged_by : ℕ → ℕ → ℤ → Verdict → List ℤ → ℕ → ℕ → Verdict
judged_by n kernel d own line held work = judged_as (λ refusal. refusal) n kernel d own line held work

-- what a call that is accepted has passed, but that its kernel is known
pub record Passed (n : ℕ) (d : ℤ) (line : List ℤ) (held work : ℕ) : Type 0 where
  pub some : 1 ≤ n
  pub few : n ≤ 1024
  pub held_room : n ≤ held
  pub work_room : 6 * n ≤ work
  pub near : nat_abs d ≤ farthest
  pub samples : AllWithin range n line

-- a move's own is 12: it is judged after 5 and before 6
unfoldable pub judged : ℕ → ℕ → ℤ → Border → List ℤ → ℕ → ℕ → Verdict
judged n kernel d β line result work = judged_by n kernel d (refused_if (bad_background β) BadBackground accepted) line (min (length line) result) work

-- the same of a move
pub record Movable (n : ℕ) (d : ℤ) (β : Border) (line : List ℤ) (result work : ℕ) : Type 0 where
  pub some : 1 ≤ n
  pub few : n ≤ 1024
  pub line_room : n ≤ length line
  pub result_room : n ≤ result
  pub work_room : 6 * n ≤ work
  pub near : nat_abs d ≤ farthest
  pub plain : nat_abs (grey β) ≤ 32767
  pub samples : AllWithin range n line

-- a line is interpolated where f is not 0, unless it becomes all background
unfoldable pub is_interpolated : Border → ℕ → ℤ → Bool
is_interpolated β n d = ltb 0 (fraction_in β n d)

-- the outcome of a call that leaves `result₁`: its extremes are those of the first n samples there
unfoldable pub outcome_of : ℕ → ℕ → ℤ → Border → List ℤ → ℕ → ℕ → List ℤ → Result Moved Refusal
outcome_of n kernel d β line result work result₁ =
    answer_by (judged n kernel d β line result work) (record { interpolated = is_interpolated β n d; extremes = extremes_of n result₁ })

-- an interpolated line counts 1
abbrev pub count_of : Result Moved Refusal → ℕ
count_of (Ok m) = cond m.interpolated 1 0
count_of (Err refusal) = 0

-- the smallest and the largest output sample (Q-6), 0 where refused
abbrev pub smallest_of : Result Moved Refusal → ℤ
smallest_of (Ok m) = m.extremes.smallest
smallest_of (Err refusal) = pos 0

abbrev pub largest_of : Result Moved Refusal → ℤ
largest_of (Ok m) = m.extremes.largest
largest_of (Err refusal) = pos 0

-- the call: its outcome, and what the result and the work hold afterwards, from `result₀` and `work₀`
pub record LineMoved (n kernel : ℕ) (d : ℤ) (β : Border) (line result₀ work₀ result₁ work₁ : List ℤ) (r : Result Moved Refusal) : Type 0 where
  pub outcome : r ≡ outcome_of n kernel d β line (length result₀) (length work₀) result₁
  -- the figures are the verdict's, and refused the count is 0
  pub number : number_of r ≡ number_of (judged n kernel d β line (length result₀) (length work₀))
  pub row : row_of r ≡ row_of (judged n kernel d β line (length result₀) (length work₀))
  pub column : column_of r ≡ column_of (judged n kernel d β line (length result₀) (length work₀))
  pub count : count_of r ≡ when_accepted (judged n kernel d β line (length result₀) (length work₀)) (cond (is_interpolated β n d) 1 0) 0
  -- accepted, the extremes are those of the moved line; refused, both are 0
  pub smallest : smallest_of r
      ≡ when_accepted (judged n kernel d β line (length result₀) (length work₀)) (extremes_of n (move_in β (kernel_of kernel) d (take n line))).smallest (pos 0)
  pub largest : largest_of r
      ≡ when_accepted (judged n kernel d β line (length result₀) (length work₀)) (extremes_of n (move_in β (kernel_of kernel) d (take n line))).largest (pos 0)
  -- accepted, the first n places hold the moved line
  pub result :
      result₁ ≡ when_accepted (judged n kernel d β line (length result₀) (length work₀)) (move_in β (kernel_of kernel) d (take n line) ++ drop n result₀) result₀
  -- accepted, the first 6n places hold 0
  pub work :
      work₁ ≡ when_accepted (judged n kernel d β line (length result₀) (length work₀)) (replicate (6 * n) (pos 0) ++ drop (6 * n) work₀) work₀
  -- accepted under linear, kernel 0, every sample lies in the range of the line's samples and the background, and so do the extremes that are told
  pub no_overshoot : judged n kernel d β line (length result₀) (length work₀) ≡ accepted → kernel ≡ 0 → InRange β n line result₁
  pub told_in_range : judged n kernel d β line (length result₀) (length work₀) ≡ accepted → kernel ≡ 0
      → (lowest β n line ≤ℤ smallest_of r) × (largest_of r ≤ℤ highest β n line)
