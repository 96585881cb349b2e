-- What C and Rust are told by the call on a block of the single call on one of its slices (Q-13), by structs of numbers. Assumes nothing.
use Rattle.std.specs.Prelude.{ℕ, ◌*◌, ◌≤◌, ◌<◌, ◌≡◌, List, ℤ, length, take, ◌≤ℤ◌}
use Rattle.planes.specs.declared.Slices.{Slices}
use Rattle.planes.specs.Slices.{slice_of}
use Rattle.pictures.specs.Answer.{Answer as PictureStraightened}
use Rattle.blocks.specs.Answer.{Answer as BlockStraightened}
use Rattle.blocks.specs.Block.{slices_of}
use Rattle.blocks.specs.Judge.{work_places}
use Rattle.flat.specs.declared.FlatSetting.{FlatSetting}
use Rattle.flat.specs.declared.BlockAnswer.{BlockAnswer}
use Rattle.flat.specs.declared.Answer.{Answer}
use Rattle.flat.specs.Exported.{Exported, setting_of, of_outcome, of_block}

-- a call on a block that answers number 0, and a single call with the same setting on a picture that slice i of the block was copied into, with buffers
-- that are long enough
pub record BothCalls (W H D plane : ℕ) (s : FlatSetting) (block result work : List ℤ) (r : BlockAnswer) (result' work' : List ℤ)
    (i : ℕ) (picture own own-work : List ℤ) (q : Answer) (own' own-work' : List ℤ) : Type 0 where
  pub all : Exported of_block (λ o. BlockStraightened W H D plane (setting_of s) block result work o result' work') r
  pub accepted : r.number ≡ 0
  pub some_slice : i < (slices_of W H D plane).slices
  pub copied : take ((slices_of W H D plane).columns * (slices_of W H D plane).rows) picture ≡ slice_of (slices_of W H D plane) block i
  pub result_places : (slices_of W H D plane).columns * (slices_of W H D plane).rows ≤ length own
  pub work_places_lent : work_places W H D plane ≤ length own-work
  pub one : Exported of_outcome (λ o. PictureStraightened (slices_of W H D plane).columns (slices_of W H D plane).rows (setting_of s) picture own own-work o own' own-work') q

-- then the single call answers number 0 too, what it leaves is slice i of the block's result, the block's count is so many times its own, and its samples
-- are among those whose extremes the block tells
pub record ToldSlice (s : Slices) (r : BlockAnswer) (result' : List ℤ) (i : ℕ) (q : Answer) (own' : List ℤ) : Type 0 where
  pub accepted : q.number ≡ 0
  pub samples : take (s.columns * s.rows) own' ≡ slice_of s result' i
  pub count : r.count ≡ s.slices * q.count
  pub within : (r.smallest ≤ℤ q.smallest) × (q.largest ≤ℤ r.largest)
