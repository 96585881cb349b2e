-- What the search for the levelling step keeps, for the contracts of its functions. Assumes nothing.
use Rattle.std.specs.Prelude.{ℕ, ◌≤◌, ◌<◌, ◌≡◌, ℤ, pos, nat_abs, ◌+ℤ◌, ◌≤ℤ◌}
use Rattle.levelling.specs.Level.{miss, step_at}

-- what the tests leave: dx from 1 to 1,023, and |dy| at most dx
pub record Flat (dx dy : ℤ) : Type 0 where
  pub some : pos 1 ≤ℤ dx
  pub wide : dx ≤ℤ pos 1023
  pub down : dy ≤ℤ dx
  pub up : pos 0 ≤ℤ (dx +ℤ dy)

-- the sign of the miss changes between the places lo and hi
pub record Between (dx dy : ℤ) (lo hi : ℕ) : Type 0 where
  pub order : lo < hi
  pub top : hi ≤ 3394
  pub below : miss dx dy (step_at lo) ≤ℤ pos 0
  pub above : pos 0 ≤ℤ miss dx dy (step_at hi)

-- r is the miss of step t, and far inside 64 bits
pub record Missed (dx dy t r : ℤ) : Type 0 where
  pub is : r ≡ miss dx dy t
  pub size : nat_abs r ≤ 100000000000
