-- `turns::store_block` writes the block's columns as rows of the result. The loop: the first i of them are written. Assumes nothing.
use Prim.Native.Nat.{ℕ, ◌+◌, ◌*◌, ◌≤◌}
use mathlib.Core.Path.{◌≡◌, refl, ap, ◌∙◌}
use native.Mathlib.Nat.{mul_comm}
use native.Mathlib.Omega.{arith}
use lib.ListN.{length}
use Rattle.lists.specs.Line.{line}
use Rattle.arrangements.specs.Views.{facing}
use Rattle.arrangements.proofs.Patches.{patch_row}
use Rattle.turns.proofs.Runs.{run_in, part_length, read_length, read_at}
use Rattle.turns.proofs.store_block.Goals as goal
use Rattle.turns.proofs.store_block.Goals.{After-face-from}

-- a row's run has room in the result
room : (c : After-face-from)
    → let t = c.args.tile in
    (t.y + c.loop-i.i) * c.args.view.height + t.x + t.columns ≤ length c.args.res.now
room c =
    let v = c.args.view in
    let t = c.args.tile in
    omega (arith, run_in v.height v.width (t.y + c.loop-i.i) t.x t.columns (length c.args.res.now) (omega arith) c.requires.1.columns_inside (omega (arith, c.requires.0, mul_comm v.width v.height)))

pub slice_bounds-load_line-end-in-loop-i : goal.slice_bounds-load_line-end-in-loop-i
slice_bounds-load_line-end-in-loop-i c = omega (arith, room (goal.at.slice_bounds-load_line-end-in-loop-i c).After-face-from, c.loop-i.invariant.long)

pub loop-i-preserved : goal.loop-i-preserved
loop-i-preserved c =
    let fits = room (goal.at.loop-i-preserved c).After-face-from in
    let v = c.args.view in
    let t = c.args.tile in
    let i = c.loop-i.i in
    let s = c.args.block.now in
    let at = (t.y + i) * v.height + t.x in
    let e = c.load_line.ensures in
    let own = part_length at t.columns c.loop-i.res (omega (arith, fits, c.loop-i.invariant.long)) in
    patch_row v.height t.x t.columns t.y i at (λ i j. line s (facing v.right t.rows i + j * 68)) c.args.res.now c.loop-i.res c.load_line.new.samples
    c.requires.1.columns_inside refl fits (read_length _ 68 t.columns _ s _ own e)
    (λ k m. read_at _ 68 t.columns _ s _ own e k m ∙ ap (λ (f : ℕ). line s (f + k * 68)) c.face-from.ensures)
    c.loop-i.invariant

pub returns : goal.returns
returns c = let e : c.loop-i.i ≡ c.args.tile.rows = omega arith in rw e at c.loop-i.invariant
