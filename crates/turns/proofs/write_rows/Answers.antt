-- `turns::write_rows` writes row after row. The loop: the first y rows are written. Assumes nothing.
use Prim.Native.Nat.{ℕ, ◌+◌, ◌*◌, ◌≤◌, ◌<◌}
use mathlib.Core.Path.{◌≡◌, sym, ◌∙◌, subst}
use mathlib.Core.Bool.{false}
use native.Mathlib.Omega.{arith}
use lib.ListN.{length}
use Rattle.lists.proofs.Rows.{row_in}
use Rattle.arrangements.specs.Moves.{screen}
use Rattle.arrangements.specs.Views.{viewed}
use Rattle.arrangements.proofs.Facing.{facing_below}
use Rattle.arrangements.proofs.Patches.{patch_row, patch_whole}
use Rattle.turns.proofs.Runs.{faced_length, faced_at, faced_row}
use Rattle.turns.proofs.write_rows.Goals as goal

pub loop-y-preserved : goal.loop-y-preserved
loop-y-preserved c =
    let v = c.args.view in
    let W = v.width in
    let y = c.loop-y.y in
    let from = c.face.result in
    let s = c.args.picture.now in
    let e = c.copy_facing.ensures in
    let low : from < v.height = subst (λ (i : ℕ). i < v.height) (sym c.face.ensures) (facing_below v.below v.height y (omega arith)) in
    let read : from * W + W ≤ length s = omega (arith, row_in W v.height from low, c.requires.picture_places) in
    let written : y * W + W ≤ length c.args.res.now = omega (arith, row_in W v.height y (omega arith), c.requires.result_places) in
    patch_row W 0 W 0 y (y * W) (viewed false v.right v.below (screen W v.height s)).at c.args.res.now c.loop-y.res c.copy_facing.new.res
    (omega arith) (omega arith) written (faced_length (from * W) W s read v.right _ e)
    (λ k m. faced_at (from * W) W s read v.right _ e k m ∙ faced_row W v.height v.right v.below y from k s c.face.ensures)
    c.loop-y.invariant

pub returns : goal.returns
returns c =
    let v = c.args.view in
    let e : c.loop-y.y ≡ v.height = omega arith in
    patch_whole v.width v.height (viewed false v.right v.below (screen v.width v.height c.args.picture.now)).at c.args.res.now c.loop-y.res
    c.requires.wide c.requires.result_places (rw e at c.loop-y.invariant)
