-- `turns::write_columns` writes band after band. The loop: the rows before row y are written. Assumes nothing.
use Prim.Native.Nat.{ℕ, ◌+◌, ◌*◌}
use mathlib.Core.Path.{◌≡◌, ap, ◌∙◌}
use mathlib.Core.List.{List, ◌++◌}
use native.Mathlib.Nat.{mul_comm}
use native.Mathlib.Omega.{arith}
use lib.IntN.{ℤ}
use lib.ListN.{drop}
use Rattle.lists.specs.Picture.{pictured}
use Rattle.arrangements.specs.Patches.{Patch}
use Rattle.arrangements.proofs.Patches.{patch_rows, patch_whole}
use Rattle.turns.specs.Block.{seen}
use Rattle.turns.proofs.write_columns.Goals as goal
use Rattle.turns.proofs.write_columns.Goals.{Start, After-write_band}

-- with the band's rows, of which the last band may have fewer
more : (t : After-write_band)
    → let v = t.args.view in
    Patch v.height 0 v.height 0 (t.loop-y.y + t.min-rows.result) (seen v t.args.picture.now) t.args.res.now t.write_band.new.res
more t =
    let v = t.args.view in
    patch_rows v.height 0 v.height t.loop-y.y t.min-rows.result (seen v t.args.picture.now) t.args.res.now t.loop-y.res _
    (omega arith) t.loop-y.invariant.written t.write_band.ensures

-- all rows
whole : (t : Start) (new : List ℤ)
    → let v = t.args.view in
    Patch v.height 0 v.height 0 v.width (seen v t.args.picture.now) t.args.res.now new
    → new ≡ pictured v.height v.width (seen v t.args.picture.now) ++ drop (v.width * v.height) t.args.res.now
whole t new written =
    let v = t.args.view in
    let p = seen v t.args.picture.now in
    patch_whole v.height v.width p t.args.res.now new t.requires.tall (omega (arith, t.requires.result_places, mul_comm v.height v.width)) written
    ∙ ap (λ (n : ℕ). pictured v.height v.width p ++ drop n t.args.res.now) (mul_comm v.height v.width)

pub loop-y-preserved : goal.loop-y-preserved
loop-y-preserved c =
    let e : c.min-rows.result ≡ 64 = omega (arith, c.min-rows.ensures) in record {
      inside = omega arith;
      written = rw e at (more (goal.at.loop-y-preserved c).After-write_band);
    }

pub returns : goal.returns
returns c =
    let e : c.loop-y.y ≡ c.args.view.width = omega arith in
    whole (goal.at.returns c).Start _ (rw e at c.loop-y.invariant.written)

-- the last band reaches the result's last row
pub returns-2 : goal.returns-2
returns-2 c =
    let e : c.loop-y.y + c.min-rows.result ≡ c.args.view.width = omega (arith, c.min-rows.ensures) in
    whole (goal.at.returns-2 c).Start _ (rw e at (more (goal.at.returns-2 c).After-write_band))
