-- `turns::write_band` writes some rows of the result block after block. The loop: their columns before column x are written. Assumes nothing.
use Prim.Native.Nat.{◌+◌, ◌-◌}
use mathlib.Core.Path.{◌≡◌, refl}
use native.Mathlib.Omega.{arith}
use Rattle.lists.specs.Picture.{Picture}
use Rattle.arrangements.specs.Views.{facing}
use Rattle.arrangements.specs.Patches.{Patch}
use Rattle.arrangements.proofs.Patches.{patch_cong, patch_columns}
use Rattle.turns.specs.Block.{seen}
use Rattle.turns.proofs.Runs.{block_seen}
use Rattle.turns.proofs.write_band.Goals as goal
use Rattle.turns.proofs.write_band.Goals.{After-store_block}

-- with the block's columns, of which the last block may have fewer
more : (t : After-store_block)
    → let a = t.args in
    let v = a.view in
    Patch v.height 0 (t.loop-x.x + t.min-columns.result) a.y a.rows (λ i k. seen v a.picture.now (a.y + i) k) a.res.now t.store_block.new.res
more t =
    let a = t.args in
    let v = a.view in
    let x = t.loop-x.x in
    let p : Picture = λ i k. seen v a.picture.now (a.y + i) k in
    patch_columns v.height x t.min-columns.result a.y a.rows p a.res.now t.loop-x.res _ (omega (arith, t.min-columns.ensures)) t.loop-x.invariant.written
    (patch_cong v.height _ (λ i k. p i (x + k))
    (block_seen v x t.min-columns.result (facing v.right (v.width - a.rows + 1) a.y) a.y a.rows a.picture.now _ _ t.requires.3 refl t.load_block.ensures)
    t.store_block.ensures)

pub loop-x-preserved : goal.loop-x-preserved
loop-x-preserved c =
    let e : c.min-columns.result ≡ 64 = omega (arith, c.min-columns.ensures) in record {
      inside = omega arith;
      written = rw e at (more (goal.at.loop-x-preserved c).After-store_block);
    }

pub returns : goal.returns
returns c =
    let e : c.loop-x.x ≡ c.args.view.height = omega arith in
    rw e at c.loop-x.invariant.written

-- the last block reaches the result's right edge
pub returns-2 : goal.returns-2
returns-2 c =
    let e : c.loop-x.x + c.min-columns.result ≡ c.args.view.height = omega (arith, c.min-columns.ensures) in
    rw e at (more (goal.at.returns-2 c).After-store_block)
