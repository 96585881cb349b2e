-- Which blocks are straightened: the work places that one takes, and the tests of numbers 1, 17, 2, 3, 4, 5, 12 and 6, in their order. Assumes nothing.
use Rattle.std.specs.Prelude.{ℕ, ◌*◌, ◌≤◌, max, Bool, ◌||◌, cond, List, ltb, ℤ, length}
use Rattle.refusals.specs.declared.Refusal.TheVariants.{BadSize, BadPlane, TooShort, BadSample}
use Rattle.refusals.specs.Tests.{side_beyond, short, AllWithin, first_bad}
use Rattle.refusals.specs.Judging.{Verdict, refused_if, of_found, and_then}
use Rattle.settings.specs.declared.Setting.{Setting}
use Rattle.acceptance.specs.Judge.{range, judged_setting, FitSetting}
use Rattle.planes.specs.declared.Slices.{Slices}
use Rattle.blocks.specs.Block.{slices_of}

-- 1: a side of 0 or over 128
unfoldable pub bad_sides : ℕ → ℕ → ℕ → Bool
bad_sides W H D = side_beyond 128 W || (side_beyond 128 H || side_beyond 128 D)

-- 17: a plane other than the three
unfoldable pub bad_plane : ℕ → Bool
bad_plane plane = ltb 2 plane

-- the work places of a picture of the plane's two sides
abbrev pub room_of : Slices → ℕ
room_of s = 12 * max s.columns s.rows

-- what a caller is told of them: 0 for a block that number 1 or 17 refuses
unfoldable pub work_places : ℕ → ℕ → ℕ → ℕ → ℕ
work_places W H D plane = cond (bad_sides W H D || bad_plane plane) 0 (room_of (slices_of W H D plane))

-- 2: under `places` places for the block or the result, or under `room` for work
unfoldable pub too_short : ℕ → ℕ → ℕ → ℕ → ℕ → Bool
too_short places room block result work = short block places || (short result places || short work room)

-- what a call with a result and work of so many places is refused under. The setting is judged by the sides of the plane; 6 names the first
-- sample beyond its range in the order of storage, whatever the plane, by its column and its row of all pictures, one below the other
unfoldable pub judged : ℕ → ℕ → ℕ → ℕ → Setting → List ℤ → ℕ → ℕ → Verdict
judged W H D plane set block result work =
    refused_if (bad_sides W H D) BadSize
    (refused_if (bad_plane plane) BadPlane
    (refused_if (too_short (W * H * D) (room_of (slices_of W H D plane)) (length block) result work) TooShort
    (and_then (judged_setting (slices_of W H D plane).columns (slices_of W H D plane).rows set) (of_found BadSample (first_bad range W (D * H) block)))))

-- no number applies: what an accepted call is, in plain bounds. `accepted_fit` and `fit_accepted` in proofs/ say that it is the same
pub record Fit (W H D plane : ℕ) (set : Setting) (block : List ℤ) (result work : ℕ) : Type 0 where
  pub width : (1 ≤ W) × (W ≤ 128)
  pub height : (1 ≤ H) × (H ≤ 128)
  pub depth : (1 ≤ D) × (D ≤ 128)
  pub known : plane ≤ 2
  pub block_places : W * H * D ≤ length block
  pub result_places : W * H * D ≤ result
  pub work_places_lent : room_of (slices_of W H D plane) ≤ work
  pub setting : FitSetting (slices_of W H D plane).columns (slices_of W H D plane).rows set
  pub samples : AllWithin range (W * H * D) block
