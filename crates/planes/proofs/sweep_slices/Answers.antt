-- `sweep_slices` goes from slice to slice, and lends the part of the list that begins with each to a pass. Assumes nothing.
use Prim.Native.Nat.{ℕ, ◌<◌}
use mathlib.Core.Path.{sym, subst}
use native.Mathlib.Omega.{arith}
use lib.ListN.{length}
use Rattle.passes.specs.Picture.{rows_moved}
use Rattle.planes.specs.Slices.{Apart}
use Rattle.planes.specs.Sweep.{move_at}
use Rattle.planes.proofs.Treated.{begins, lent_place, to_come, lent_apart, treated_back, treated_more}
use Rattle.planes.proofs.Places.{rows_local}
use Rattle.planes.proofs.Three.{passed_treated}
use Rattle.planes.proofs.sweep_slices.Goals as goal

pub slice_bounds-pass-count : goal.slice_bounds-pass-count
slice_bounds-pass-count c =
    let f = c.requires.sweepable in
    omega (arith, begins c.args.s c.loop-i.i c.args.list.now f.lie f.columns.0 f.rows.0 (omega arith), c.loop-i.auto.list)

pub slice_bounds-pass-start : goal.slice_bounds-pass-start
slice_bounds-pass-start c =
    let f = c.requires.sweepable in
    omega (arith, begins c.args.s c.loop-i.i c.args.list.now f.lie f.columns.0 f.rows.0 (omega arith), c.loop-i.auto.list)

pub pass-requires-clause-lines_within : goal.pass-requires-clause-lines_within
pass-requires-clause-lines_within c =
    let s = c.args.s in
    let f = c.requires.sweepable in
    let i = c.loop-i.i in
    let l : i < s.slices = omega arith in
    let lie = subst (Apart s) (sym c.loop-i.auto.list) f.lie in
    λ (y k : ℕ) (hy : y < s.rows) (hk : k < s.columns).
    rw (lent_place s i c.loop-i.list lie f.columns.0 f.rows.0 l y k hy hk, to_come _ s i _ _ _ f.lie l c.loop-i.invariant y k hy hk) (c.requires.slices_within i y k l hy hk)

pub loop-i-preserved : goal.loop-i-preserved
loop-i-preserved c =
    let s = c.args.s in
    let h = c.args.shear in
    let f = c.requires.sweepable in
    let i = c.loop-i.i in
    let l : i < s.slices = c.loop-i-test.true in
    let move = move_at h.moves c.args.alike in
    let lie = subst (Apart s) (sym c.loop-i.auto.list) f.lie in
    let local = rows_local h.border h.kernel s.columns s.rows (move i) f.columns.0 in
    treated_more (λ i. rows_moved h.border h.kernel s.columns (move i)) s i (length c.args.list.now) c.args.list.now c.loop-i.list f.lie l c.loop-i.invariant _ local
    (treated_back s i c.loop-i.list lie f.columns.0 f.rows.0 l (rows_moved h.border h.kernel s.columns (move i)) c.pass.new.picture c.pass.auto.picture local
    (passed_treated h.border h.kernel (move i) s _ c.pass.new.picture f.columns.0 (lent_apart s i c.loop-i.list lie f.columns.0 f.rows.0 l)
    (rw c.moves_at-moves.ensures.0 at c.pass.ensures)))
