-- What answering a line leaves in the buffers that are lent for it, and what the call for one line answers. Assumes nothing.
use Rattle.std.specs.Prelude.{ℕ, ◌*◌, ◌≤◌, max, ◌≡◌, cond, Result, Ok, Err, List, ◌++◌, leb, ltb, ℤ, pos, length, drop, replicate}
use Rattle.refusals.specs.Tests.{bad_size, bad_kernel}
use Rattle.refusals.specs.Judging as judging
use Rattle.refusals.specs.Judging.{refused_if, when_accepted}
use Rattle.refusals.specs.declared.Refusal.{Refusal}
use Rattle.refusals.specs.declared.Refusal.TheVariants.{BadSize, BadCentre, TooFar, BadKernel}
use Rattle.settings.specs.declared.Setting.{Setting}
use Rattle.steps.specs.Step.{beyond}
use Rattle.acceptance.specs.Judge.{bad_centre}
use Rattle.format.specs.Answer.{unchanged_in, number_of, is_accepted, count_of, straightened_of, answer_of}
use Rattle.format.specs.Line.{step_in, width_in, height_in, size_in, samples_in}
use Rattle.format.specs.Room.{fitted, fitted_length, Fitted, written_of}

-- numbers 1, 3, 4 and 5 of a picture of W by H and a change of s by step, as `number_of` judges a line's
unfoldable pub lowest : ℕ → ℕ → Setting → Result Setting Refusal → ℕ
lowest W H s change =
    cond (bad_size W H) 1
    (cond (bad_centre W H s) 3
    (cond (ltb 0 (judging.number_of change)) 4
    (cond (bad_kernel s.kernel) 5 0)))

-- the refusal of that number, of a change of s by step t; x where none applies
unfoldable pub judged : {A : Type 0} → ℕ → ℕ → Setting → ℤ → A → Result A Refusal
judged W H s t x =
    refused_if (bad_size W H) BadSize
    (refused_if (bad_centre W H s) BadCentre
    (refused_if (beyond t) TooFar
    (refused_if (bad_kernel s.kernel) BadKernel (Ok x))))

-- the same of a well-formed line
abbrev pub judged_in : {A : Type 0} → List ℕ → A → Result A Refusal
judged_in line x = judged (width_in line) (height_in line) (unchanged_in line) (step_in line) x

-- how many work places the picture of a line takes
abbrev pub work_in : List ℕ → ℕ
work_in line = 12 * max (width_in line) (height_in line)

-- places enough for a line: for its samples, for those of its result, and for work where no number applies to it
abbrev pub Roomy : List ℕ → ℕ → ℕ → ℕ → Type 0
Roomy line picture result work = (size_in line ≤ picture) × (size_in line ≤ result) × (number_of line ≡ 0 → work_in line ≤ work)

-- a well-formed line in just as many places as it has samples: r tells the lines interpolated, or the refusal. Accepted, they hold the samples and the
-- picture straightened, and work is cleared; refused, each is as it was
pub record Straightened (line : List ℕ) (picture result work picture' result' work' : List ℤ) (r : Result ℕ Refusal) : Type 0 where
  pub told : r ≡ judged_in line (count_of line)
  pub samples : picture' ≡ when_accepted r (samples_in line) picture
  pub straightened : result' ≡ when_accepted r (straightened_of line) result
  pub cleared : work' ≡ when_accepted r (replicate (work_in line) (pos 0) ++ drop (work_in line) work) work

-- any line answered: its answer stands in out where it fits, and r bytes of it were written. Accepted, the front of each array holds the samples, the
-- picture straightened and 0; refused, each is as it was
pub record Answered (line out : List ℕ) (picture result work : List ℤ) (out' : List ℕ) (picture' result' work' : List ℤ) (r : ℕ) : Type 0 where
  pub text : Fitted (answer_of line) out out' r
  pub samples : picture' ≡ cond (is_accepted line) (samples_in line ++ drop (size_in line) picture) picture
  pub straightened : result' ≡ cond (is_accepted line) (straightened_of line ++ drop (size_in line) result) result
  pub cleared : work' ≡ cond (is_accepted line) (replicate (work_in line) (pos 0) ++ drop (work_in line) work) work

-- ---- the call for one line
-- the bytes of each case
abbrev pub written_bytes : Result ℕ Refusal → ℕ
written_bytes (Ok n) = n
written_bytes (Err refusal) = 0

-- the answer to a line stands at the front of out', with its line feed
pub record LineAnswered (line out out' : List ℕ) (r : Result ℕ Refusal) : Type 0 where
  pub answer : r ≡ written_of (answer_of line) out
  pub text : out' ≡ fitted (answer_of line) out
  pub number : judging.number_of r ≡ cond (leb (length (answer_of line)) (length out)) 0 2
  pub bytes : written_bytes r ≡ fitted_length (answer_of line) out
