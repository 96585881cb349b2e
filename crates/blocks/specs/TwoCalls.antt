-- A block call, and the single call on one of its slices: what the two promise together. Assumes nothing.
use Rattle.std.specs.Prelude.{ℕ, ◌*◌, ◌≤◌, ◌<◌, ◌≡◌, List, ℤ, length, take, ◌≤ℤ◌}
use Rattle.lists.specs.Line.{line}
use Rattle.lists.specs.Ends.{smallest, largest}
use Rattle.settings.specs.declared.Setting.{Setting}
use Rattle.planes.specs.declared.Slices.{Slices}
use Rattle.planes.specs.Slices.{slice_of}
use Rattle.refusals.specs.Judging.{number_of}
use Rattle.pictures.specs.Answer as single
use Rattle.blocks.specs.Judge.{room_of}
use Rattle.blocks.specs.Answer.{Outcome, count_of, smallest_of, largest_of}

-- a single call on a picture that slice i of the block was copied into, with the setting of the block call and whatever buffers are long enough
pub record Copied (s : Slices) (set : Setting) (block : List ℤ) (i : ℕ) (picture result work : List ℤ) (q : single.Outcome) (result' work' : List ℤ) : Type 0 where
  pub some_slice : i < s.slices
  pub copied : take (s.columns * s.rows) picture ≡ slice_of s block i
  pub result_places : s.columns * s.rows ≤ length result
  pub work_places_lent : room_of s ≤ length work
  pub answer : single.Answer s.columns s.rows set picture result work q result' work'

-- what an accepted block call and such a call promise together: the single call is accepted too, the samples that it leaves are slice i of the block's
-- result, the block's count is its own for every slice, and its smallest and largest are that slice's, within the block's
pub record Kept (s : Slices) (r : Outcome) (result' : List ℤ) (i : ℕ) (q : single.Outcome) (own' : List ℤ) : Type 0 where
  pub accepted : number_of q ≡ 0
  pub samples : take (s.columns * s.rows) own' ≡ slice_of s result' i
  pub count : count_of r ≡ s.slices * single.count_of q
  pub smallest : single.smallest_of q ≡ smallest (line (slice_of s result' i)) (s.columns * s.rows)
  pub largest : single.largest_of q ≡ largest (line (slice_of s result' i)) (s.columns * s.rows)
  pub within : (smallest_of r ≤ℤ single.smallest_of q) × (single.largest_of q ≤ℤ largest_of r)
