-- "Levelling takes two points on one graticule line, coordinates 0 to 1,023, with dx = x2 - x1 and dy = y2 - y1. It answers the step, from
-- -1,697 to 1,697, with the smallest |8,192·t·dx + (4,096² - t²)·dy|; of two equal, the lower t." Assumes nothing.
use Rattle.std.specs.Prelude.{ℕ, zero, suc, ◌*◌, ◌≤◌, ◌<◌, ◌≡◌, Bool, cond, ◌||◌, ltb, Result, Ok, Err, ℤ, pos, nat_abs, ◌+ℤ◌, ◌-ℤ◌, ◌*ℤ◌, ◌<ℤ◌}
use Rattle.std.specs.Int.Signed.{le_z, lt_z}
use Rattle.refusals.specs.Judging.{refused_if, number_of}
use Rattle.refusals.specs.declared.Refusal.{Refusal}
use Rattle.refusals.specs.declared.Refusal.TheVariants.{Outside, TooSteep}

-- 8,192·t·dx + (4,096² - t²)·dy: by how much step t misses the line's direction
unfoldable pub miss : ℤ → ℤ → ℤ → ℤ
miss dx dy t = pos 8192 *ℤ t *ℤ dx +ℤ (pos (4096 * 4096) -ℤ t *ℤ t) *ℤ dy

-- t is the step, from -1,697 to 1,697, with the smallest |miss|; of two equal, the lower
pub record Levels (dx dy t : ℤ) : Type 0 where
  pub step : nat_abs t ≤ 1697
  pub smallest : (u : ℤ) → nat_abs u ≤ 1697 → nat_abs (miss dx dy t) ≤ nat_abs (miss dx dy u)
  pub lower : (u : ℤ) → nat_abs u ≤ 1697 → u <ℤ t → nat_abs (miss dx dy t) < nat_abs (miss dx dy u)

-- ---- that step, found by going through all of them
-- the first of 0 to n at which f is smallest
unfoldable pub first_smallest : (ℕ → ℕ) → ℕ → ℕ
first_smallest f zero = zero
first_smallest f (suc n) = cond (ltb (f (suc n)) (f (first_smallest f n))) (suc n) (first_smallest f n)

-- the steps in order: place u, from 0 to 3,394, is step u - 1,697
unfoldable pub step_at : ℕ → ℤ
step_at u = pos u -ℤ pos 1697

-- |miss| there
unfoldable pub miss_at : ℤ → ℤ → ℕ → ℕ
miss_at dx dy u = nat_abs (miss dx dy (step_at u))

-- the levelling step
unfoldable pub levelling : ℤ → ℤ → ℤ
levelling dx dy = step_at (first_smallest (miss_at dx dy) 3394)

-- ---- refusals, and the answer
-- the largest side of a picture: coordinates 0 to 1,023
abbrev pub largest_side : ℕ
largest_side = 1024

-- number 7: a coordinate that no place along a side has, and one of two points outside width and height
unfoldable pub outside : ℕ → ℤ → Bool
outside side c = lt_z c (pos 0) || le_z (pos side) c

unfoldable pub any_outside : ℕ → ℕ → ℤ → ℤ → ℤ → ℤ → Bool
any_outside width height x1 y1 x2 y2 = outside width x1 || outside height y1 || outside width x2 || outside height y2

-- number 8: dx below 1, or |dy| above dx
unfoldable pub steep : ℤ → ℤ → Bool
steep dx dy = lt_z dx (pos 1) || lt_z dx (pos (nat_abs dy))

-- the step of an answer, 0 where it is refused
abbrev pub level_step : Result ℤ Refusal → ℤ
level_step (Ok t) = t
level_step (Err refusal) = pos 0

-- the answer from the differences, and from two points: those of the plain call lie within the largest side, those of a picture within its width and height
unfoldable pub direction_of : ℤ → ℤ → Result ℤ Refusal
direction_of dx dy = refused_if (steep dx dy) TooSteep (Ok (levelling dx dy))

unfoldable pub level_of : ℕ → ℕ → ℤ → ℤ → ℤ → ℤ → Result ℤ Refusal
level_of width height x1 y1 x2 y2 = refused_if (any_outside width height x1 y1 x2 y2) Outside (direction_of (x2 -ℤ x1) (y2 -ℤ y1))

-- what r, the answer for the points (x1, y1) and (x2, y2), is: its case, its number, and its step where none is refused
pub record LevelAnswer (width height : ℕ) (x1 y1 x2 y2 : ℤ) (r : Result ℤ Refusal) : Type 0 where
  pub answer : r ≡ level_of width height x1 y1 x2 y2
  pub number : number_of r ≡ cond (any_outside width height x1 y1 x2 y2) 7 (cond (steep (x2 -ℤ x1) (y2 -ℤ y1)) 8 0)
  pub step : number_of r ≡ 0 → Levels (x2 -ℤ x1) (y2 -ℤ y1) (level_step r)
