-- `straighten_together` lends the copy of the block and the work places of one slice to what straightens slices where they lie. Assumes nothing.
use Prim.Native.Nat.{ℕ, ◌*◌, ◌≤◌}
use mathlib.Core.Path.{◌≡◌, sym, ap, ap₂, ◌∙◌, subst}
use mathlib.Core.List.{List, ◌++◌}
use native.Mathlib.Omega.{arith}
use lib.IntN.{ℤ}
use lib.ListN.{length, take, drop, length-append}
use lib.Seq.{length-take-le, take_at, drop_at}
use Rattle.lists.proofs.Ends.{extremes_take}
use Rattle.planes.specs.declared.Slices.{Slices}
use Rattle.planes.specs.Sweep.{Straightened}
use Rattle.blocks.specs.Block.{slices_of}
use Rattle.blocks.specs.Judge.{room_of}
use Rattle.blocks.proofs.Straight.{straightened_block}
use Rattle.blocks.proofs.Call.{sides, some_places, fit_workable, copy_within}
use Rattle.blocks.proofs.straighten_together.Goals as goal

-- a list whose first n places hold a copy of the block's, and the others what they held
module _ (n : ℕ) (block res copy : List ℤ) (room : n ≤ length block) (copied : copy ≡ take n block) where
  whole : length (take n block) ≡ n
  whole = length-take-le n block room

  front : take n (copy ++ drop n res) ≡ take n block
  front = rw copied (take_at (take n block) (drop n res) n whole)

  front_long : length (take n (copy ++ drop n res)) ≡ n
  front_long = ap length front ∙ whole

  rest : drop n (copy ++ drop n res) ≡ drop n res
  rest = rw copied (drop_at (take n block) (drop n res) n whole)

pub straighten_slices-requires : goal.straighten_slices-requires
straighten_slices-requires c =
    let a = c.args in
    let b = a.sides in
    let n = b.width * b.height * b.depth in
    let f = c.requires in
    let copy = c.copy.new.res in
    let copied = c.copy.ensures in
    let lie = slices_of b.width b.height b.depth a.plane in
    let r = c.room_of-room.result in
    let rooms : r ≡ room_of lie = c.room_of-room.ensures ∙ ap room_of c.slices-s.ensures in
    let lent : length (take r a.work.now) ≡ r = length-take-le r a.work.now (subst (λ (m : ℕ). m ≤ length a.work.now) (sym rooms) f.work_places_lent) in
    rw c.slices-s.ensures record {
      workable = fit_workable f _ _ (front_long n a.block.now a.res.now copy f.block_places copied) (subst (λ (m : ℕ). room_of lie ≤ m) (sym (lent ∙ rooms)) (omega arith));
      slices_within = copy_within f _ (front n a.block.now a.res.now copy f.block_places copied);
    }

pub returns-clause-res_after : goal.returns-clause-res_after
returns-clause-res_after c =
    let a = c.args in
    let b = a.sides in
    let n = b.width * b.height * b.depth in
    let f = c.requires in
    let copy = c.copy.new.res in
    let copied = c.copy.ensures in
    let lie = slices_of b.width b.height b.depth a.plane in
    let d = sides f in
    let t = c.straighten_slices in
    let straight : Straightened lie a.setting (take n a.block.now) t.new.list =
    subst (λ (s : Slices). Straightened s a.setting (take n a.block.now) t.new.list) c.slices-s.ensures
    (subst (λ (l : List ℤ). Straightened c.slices-s.result a.setting l t.new.list) (front n a.block.now a.res.now copy f.block_places copied) t.ensures) in
    ap₂ ◌++◌
    (straightened_block b.width b.height b.depth a.plane a.setting a.block.now f.width.0 f.height.0 d.0.0 d.1.0 t.new.list
    (t.auto.list ∙ front_long n a.block.now a.res.now copy f.block_places copied) straight)
    (rest n a.block.now a.res.now copy f.block_places copied)

pub returns-clause-value : goal.returns-clause-value
returns-clause-value c =
    let a = c.args in
    let b = a.sides in
    let n = b.width * b.height * b.depth in
    let f = c.requires in
    let t = c.straighten_slices in
    let long = t.auto.list ∙ front_long n a.block.now a.res.now c.copy.new.res f.block_places c.copy.ensures in
    c.extremes_of.ensures ∙ extremes_take n _ (some_places f) (simp length-append (omega (arith, long)))
