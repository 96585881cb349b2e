-- `turns::load_block` fills the block row by row. The loop: its first j rows are filled. Assumes nothing.
use Prim.Native.Nat.{ℕ, ◌+◌, ◌*◌, ◌≤◌, ◌<◌}
use mathlib.Core.Path.{◌≡◌, sym, ◌∙◌, subst}
use mathlib.Core.Bool.{false}
use native.Mathlib.Omega.{arith}
use lib.ListN.{length}
use Rattle.arrangements.proofs.Facing.{facing_below}
use Rattle.arrangements.proofs.Patches.{patch_row}
use Rattle.turns.specs.Block.{loaded}
use Rattle.turns.proofs.Runs.{run_in, band_in, faced_length, faced_at, loaded_at}
use Rattle.turns.proofs.load_block.Goals as goal
use Rattle.turns.proofs.load_block.Goals.{After-face}

-- the run that is read lies inside the picture
module _ (t : After-face) where
  low : t.face.result < t.args.view.height
  low =
      subst (λ (i : ℕ). i < t.args.view.height) (sym t.face.ensures)
      (facing_below t.args.view.below t.args.view.height (t.args.tile.x + t.loop-j.j) (omega arith))

  read : t.face.result * t.args.view.width + t.face-first.result + t.args.tile.rows ≤ length t.args.picture.now
  read =
      let v = t.args.view in
      run_in v.width v.height t.face.result t.face-first.result t.args.tile.rows _ low
      (omega (arith, t.face-first.ensures, band_in v.right v.width t.args.tile.y t.args.tile.rows t.requires.1.some t.requires.1.rows_inside)) t.requires.0

pub overflow_mul-from : goal.overflow_mul-from
overflow_mul-from c = omega (arith, read (goal.at.overflow_mul-from c).After-face)

pub overflow_add-from : goal.overflow_add-from
overflow_add-from c = omega (arith, read (goal.at.overflow_add-from c).After-face)

pub overflow_add-from-in-loop-j : goal.overflow_add-from-in-loop-j
overflow_add-from-in-loop-j c = omega (arith, read (goal.at.overflow_add-from-in-loop-j c).After-face)

pub offset_bounds-picture-from : goal.offset_bounds-picture-from
offset_bounds-picture-from c = omega (arith, read (goal.at.offset_bounds-picture-from c).After-face)

pub slice_bounds-copy-end : goal.slice_bounds-copy-end
slice_bounds-copy-end c = omega (arith, read (goal.at.slice_bounds-copy-end c).After-face)

pub loop-j-preserved : goal.loop-j-preserved
loop-j-preserved c =
    let inside = read (goal.at.loop-j-preserved c).After-face in
    let a = c.args in
    let v = a.view in
    let n = a.tile.rows in
    let j = c.loop-j.j in
    let from = c.face.result * v.width + c.face-first.result in
    let s = a.picture.now in
    let e = c.copy.ensures in
    let room : j * 68 + n ≤ length a.block.now = omega arith in
    rw (← c.face-first.ensures)
    (patch_row 68 0 n 0 j (j * 68) (loaded v a.tile.x c.face-first.result s) a.block.now c.loop-j.block c.copy.new.res
    (omega arith) (omega arith) room (faced_length from n s inside false _ e)
    (λ k m. faced_at from n s inside false _ e k m ∙ loaded_at v a.tile.x c.face-first.result j c.face.result k s c.face.ensures)
    (rw (← c.face-first.ensures) at c.loop-j.invariant))

pub returns : goal.returns
returns c = let e : c.loop-j.j ≡ c.args.tile.columns = omega arith in rw e at c.loop-j.invariant
