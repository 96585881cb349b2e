-- What C and Rust are told by a forecast of every straightening with its size and setting (Q-9), by structs of numbers. Assumes nothing.
use Rattle.std.specs.Prelude.{ℕ, ◌*◌, ◌≤◌, ◌<◌, ◌≡◌, Bool, false, List, ℤ, length}
use Rattle.refusals.specs.Tests.{AllWithin}
use Rattle.forecasts.specs.TwoCalls.{Bounded, AllBounded}
use Rattle.flat.specs.declared.ForecastAnswer.{ForecastAnswer}
use Rattle.flat.specs.declared.Answer.{Answer}

-- a forecast f of number 0 from samples within M, and a straightening with its size and setting that answers r: its count is the one that f tells; where its
-- samples are within M, none that it leaves or tells lies beyond the bound; with fewer work places it is refused under 2; with as many it is accepted
pub record ToldAhead (other : Bool) (W H M : ℕ) (f : ForecastAnswer) (picture result work : List ℤ) (r : Answer) (result' work' : List ℤ) : Type 0 where
  pub count : r.number ≡ 0 → r.count ≡ f.count
  pub bound : r.number ≡ 0 → AllWithin M (W * H) picture → AllBounded f.bound (W * H) result'
  pub extremes : r.number ≡ 0 → AllWithin M (W * H) picture → Bounded f.bound r.smallest × Bounded f.bound r.largest
  pub short : length work < f.work → (r.number ≡ 2) × (result' ≡ result) × (work' ≡ work)
  pub enough : other ≡ false → W * H ≤ length picture → W * H ≤ length result → f.work ≤ length work → AllWithin M (W * H) picture → r.number ≡ 0
