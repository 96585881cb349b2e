-- What a forecast promises of every straightening with its size and setting. Assumes nothing.
use Rattle.std.specs.Prelude.{ℕ, ◌*◌, ◌≤◌, ◌<◌, ◌≡◌, Bool, false, List, ltb, ℤ, neg_ℤ, length, Ok, Err}
use Rattle.lists.specs.Line.{line}
use Rattle.refusals.specs.declared.Refusal.TheVariants.{TooShort, TooLarge}
use Rattle.refusals.specs.Tests.{AllWithin}
use Rattle.refusals.specs.Judging.{refused_if, number_of}
use Rattle.settings.specs.declared.Setting.{Setting}
use Rattle.moves.specs.Range.{Between}
use Rattle.acceptance.specs.Judge.{range}
use Rattle.pictures.specs.Answer.{Outcome, count_of, smallest_of, largest_of, AnswerOn}
use Rattle.forecasts.specs.Figures.{Foretold, figures_in, forecast_of}

-- a forecast, and a straightening of that size and setting, by the single call or by a commit, of whatever picture
pub record TwoCalls (other : Bool) (W H : ℕ) (s : Setting) (M : ℕ) (f : Foretold) (picture result work : List ℤ) (r : Outcome) (result' work' : List ℤ) : Type 0 where
  pub forecast : f ≡ forecast_of W H s M
  pub straightening : AnswerOn other W H s picture result work r result' work'

-- a sample that lies from -bound to bound, and a list whose first n samples do
abbrev pub Bounded : ℤ → ℤ → Type 0
Bounded bound v = Between (neg_ℤ bound) bound v

abbrev pub AllBounded : ℤ → ℕ → List ℤ → Type 0
AllBounded bound n s = (i : ℕ) → i < n → Bounded bound (line s i)

-- a forecast that is accepted holds of it: an accepted one counts just the lines that were forecast, and one of samples within M leaves none beyond the bound,
-- nor tells one; with fewer work places than were forecast it is refused under 2, and with as many it is accepted
pub record Holds (other : Bool) (W H M : ℕ) (f : Foretold) (picture result work : List ℤ) (r : Outcome) (result' work' : List ℤ) : Type 0 where
  pub count : number_of r ≡ 0 → count_of r ≡ (figures_in f).count
  pub bound : number_of r ≡ 0 → AllWithin M (W * H) picture → AllBounded (figures_in f).bound (W * H) result'
  pub extremes : number_of r ≡ 0 → AllWithin M (W * H) picture → Bounded (figures_in f).bound (smallest_of r) × Bounded (figures_in f).bound (largest_of r)
  pub short : length work < (figures_in f).work → (r ≡ Err TooShort) × (result' ≡ result) × (work' ≡ work)
  pub enough : other ≡ false → W * H ≤ length picture → W * H ≤ length result → (figures_in f).work ≤ length work → AllWithin M (W * H) picture → number_of r ≡ 0

-- and no straightening that is accepted is left out: its forecast is refused only under 6, where M is over 32,767
pub record Kept (other : Bool) (W H M : ℕ) (f : Foretold) (picture result work : List ℤ) (r : Outcome) (result' work' : List ℤ) : Type 0 where
  pub holds : number_of f ≡ 0 → Holds other W H M f picture result work r result' work'
  pub none_left_out : number_of r ≡ 0 → f ≡ refused_if (ltb range M) TooLarge (Ok (figures_in f))
