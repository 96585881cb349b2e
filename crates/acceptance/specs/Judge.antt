-- Which calls are straightened: the work places that one takes, and the tests of numbers 1, 2, 14, 3, 4, 5, 12 and 6, in their order. Assumes nothing.
use Rattle.std.specs.Prelude.{ℕ, ◌*◌, ◌≤◌, ◌<◌, max, Bool, false, ◌||◌, cond, List, leb, ℤ, nat_abs, length}
use Rattle.refusals.specs.declared.Refusal.TheVariants.{BadSize, TooShort, BadCentre, TooFar, BadKernel, BadSample, BadBackground, OtherSize}
use Rattle.refusals.specs.Tests.{bad_size, short, bad_kernel, beyond_of, AllWithin, first_bad}
use Rattle.refusals.specs.Judging.{Verdict, accepted, refused_if, of_found, and_then}
use Rattle.settings.specs.declared.Setting.{Setting}
use Rattle.moves.specs.Border.{bad_background, grey}

-- the samples of a picture that is straightened are within ±32,767
abbrev pub range : ℕ
range = 32767

-- the work places that a picture of this size takes, 0 for a size that number 1 refuses
unfoldable pub work_places : ℕ → ℕ → ℕ
work_places W H = cond (bad_size W H) 0 (12 * max W H)

-- 2: under W·H places for the picture or the result, or under 12·max(W, H) for work
unfoldable pub too_short : ℕ → ℕ → ℕ → ℕ → ℕ → Bool
too_short W H picture result work = short picture (W * H) || (short result (W * H) || short work (12 * max W H))

-- 3: the centre outside the picture
unfoldable pub bad_centre : ℕ → ℕ → Setting → Bool
bad_centre W H s = leb W s.cx || leb H s.cy

-- 4: A or B beyond ±4,096
unfoldable pub bad_shears : Setting → Bool
bad_shears s = beyond_of 4096 s.a || beyond_of 4096 s.b

-- what a setting is refused under, on a picture of that size: 12 is judged after 5
abbrev pub judged_setting : ℕ → ℕ → Setting → Verdict
judged_setting W H s =
    refused_if (bad_centre W H s) BadCentre
    (refused_if (bad_shears s) TooFar
    (refused_if (bad_kernel s.kernel) BadKernel
    (refused_if (bad_background s.border) BadBackground accepted)))

-- none applies, in plain bounds
pub record FitSetting (W H : ℕ) (s : Setting) : Type 0 where
  pub centre : (s.cx < W) × (s.cy < H)
  pub shears : (nat_abs s.a ≤ 4096) × (nat_abs s.b ≤ 4096)
  pub kernel : s.kernel ≤ 2
  pub background : nat_abs (grey s.border) ≤ 32767

-- what a call with a result and work of so many places is refused under, 14 judged after 2 and before the setting; 6 with the first sample
-- beyond its range, in row order. `other` says that the call is made on a ticket of another size (Q-7)
unfoldable pub judged_on : Bool → ℕ → ℕ → Setting → List ℤ → ℕ → ℕ → Verdict
judged_on other W H s picture result work =
    refused_if (bad_size W H) BadSize
    (refused_if (too_short W H (length picture) result work) TooShort
    (refused_if other OtherSize
    (and_then (judged_setting W H s) (of_found BadSample (first_bad range W H picture)))))

-- the same of a call on no ticket, which 14 does not refuse
abbrev pub judged : ℕ → ℕ → Setting → List ℤ → ℕ → ℕ → Verdict
judged = judged_on false

-- no number applies: what an accepted call is, in plain bounds. `accepted_fit` and `fit_accepted` in proofs/ say that it is the same
pub record Fit (W H : ℕ) (s : Setting) (picture : List ℤ) (result work : ℕ) : Type 0 where
  pub width : (1 ≤ W) × (W ≤ 1024)
  pub height : (1 ≤ H) × (H ≤ 1024)
  pub picture_places : W * H ≤ length picture
  pub result_places : W * H ≤ result
  pub work_places_lent : 12 * max W H ≤ work
  pub setting : FitSetting W H s
  pub samples : AllWithin range (W * H) picture
