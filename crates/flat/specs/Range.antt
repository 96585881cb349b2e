-- What C and Rust are told of linear's range, and of a number that is added to all samples (Q-12), by structs of numbers. Assumes nothing.
use Rattle.std.specs.Prelude.{ℕ, ◌≤◌, ◌≡◌, List, ℤ, ◌+ℤ◌, ◌≤ℤ◌}
use Rattle.settings.specs.declared.Border.{Border}
use Rattle.moves.specs.Range.{lowest, highest, InRange, Raised, RaisedWithin}
use Rattle.flat.specs.declared.FlatSetting.{FlatSetting}
use Rattle.flat.specs.declared.Answer.{Answer}

-- the result, and the smallest and the largest sample that an answer tells, lie in the range of n samples and the background
pub record ToldInRange (β : Border) (n : ℕ) (samples result' : List ℤ) (r : Answer) : Type 0 where
  pub each : InRange β n samples result'
  pub smallest : lowest β n samples ≤ℤ r.smallest
  pub largest : r.largest ≤ℤ highest β n samples

-- c added to the background of a setting, whatever number its border has
abbrev pub raised_as : ℤ → FlatSetting → FlatSetting
raised_as c s = record { kernel = s.kernel; cx = s.cx; cy = s.cy; a = s.a; b = s.b; border = s.border; background = s.background +ℤ c }

-- of two calls under one kernel the second has c added to each of n samples of the result and to the extremes, under the spline to each sample to within
-- m units, and tells the same count
pub record ToldRaised (kernel m : ℕ) (c : ℤ) (n : ℕ) (result' : List ℤ) (r : Answer) (result₂' : List ℤ) (r₂ : Answer) : Type 0 where
  pub each : kernel ≤ 1 → Raised c n result' result₂'
  pub smallest : kernel ≤ 1 → r₂.smallest ≡ r.smallest +ℤ c
  pub largest : kernel ≤ 1 → r₂.largest ≡ r.largest +ℤ c
  pub nearly : kernel ≡ 2 → RaisedWithin m c n result' result₂'
  pub count : r₂.count ≡ r.count
