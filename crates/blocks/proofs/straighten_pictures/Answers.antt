-- `straighten_pictures` has straightened the first z pictures, and none of those to come. Assumes nothing.
use Prim.Native.Nat.{ℕ, ◌*◌, ◌-◌, ◌<◌, max}
use mathlib.Core.Path.{◌≡◌, refl, sym, ap, ap₂, ◌∙◌, subst}
use mathlib.Core.List.{List, ◌++◌}
use native.Mathlib.Nat.{zero-mul}
use native.Mathlib.Omega.{arith}
use borrow.Rule.Slice.PartMut.{put_mid, same_len_mid}
use lib.IntN.{ℤ, pos}
use lib.ListN.{length, drop, replicate, length-replicate}
use lib.Seq.{drop_at}
use Rattle.lists.specs.Ends.{joined_of}
use Rattle.blocks.proofs.Straight.{straight}
use Rattle.blocks.proofs.Pictures.{Placed, placed_none, next_placed, picture_extremes, joined_up, joined_none, joined_more, all-joined, all_placed}
use Rattle.blocks.proofs.straighten_pictures.Goals as goal

pub loop-z-init : goal.loop-z-init
loop-z-init c =
    let a = c.args in
    let b = a.sides in (
      refl,
      refl,
      subst (λ (n : ℕ). Placed (straight b.width b.height b.depth 0 a.setting a.block.now) n a.res.now a.res.now) (sym (zero-mul (b.width * b.height)))
          (placed_none _ a.res.now),
      refl,
      λ l. absurd (omega arith),
      joined_none b.width b.height b.depth a.setting a.block.now,
    )

pub loop-z-preserved : goal.loop-z-preserved
loop-z-preserved c =
    let a = c.args in
    let b = a.sides in
    let f = c.requires in
    let z = c.loop-z.z in
    let inv = c.loop-z.invariant in
    let v = c.straighten_accepted in
    let at = z * (b.width * b.height) in
    let now = c.loop-z.res in
    let next = put_mid at (length now - at) now v.new.res in
    let room = 12 * max b.width b.height in
    let more : z < b.depth = c.loop-z-test.true in
    let same : length next ≡ length a.res.now = same_len_mid at (length now - at) now v.new.res v.auto.res ∙ inv.0 in
    let placed =
    next_placed b.width b.height b.depth a.setting a.block.now f.width.0 f.height.0 f.block_places z more a.res.now now v.new.res inv.0 f.result_places inv.2 v.ensures.res_after in
    let cleared = v.ensures.work_after ∙ ap (λ (w : List ℤ). replicate room (pos 0) ++ w) inv.3 in (
      same,
      v.auto.work ∙ inv.1,
      placed,
      ap (drop room) cleared ∙ drop_at (replicate room (pos 0)) (drop room a.work.now) room (length-replicate room (pos 0)),
      λ some. cleared,
      c.joined-extremes.ensures
          ∙ ap₂ joined_of inv.5
          (c.extremes_of-own.ensures
          ∙ picture_extremes b.width b.height b.depth a.setting a.block.now f.width.0 f.height.0 f.block_places z more a.res.now next (omega (arith, same, f.result_places)) placed)
          ∙ joined_more b.width b.height b.depth a.setting a.block.now z,
    )

pub returns : goal.returns
returns c =
    let a = c.args in
    let b = a.sides in
    let f = c.requires in
    let inv = c.loop-z.invariant in
    let e : c.loop-z.z ≡ b.depth = omega arith in
    let done =
    all_placed b.width b.height b.depth a.setting a.block.now a.res.now c.loop-z.res inv.0 f.result_places
    (subst (λ (z : ℕ). Placed (straight b.width b.height b.depth 0 a.setting a.block.now) (z * (b.width * b.height)) a.res.now c.loop-z.res) e inv.2) in
    record {
      res_after = done;
      work_after = inv.4 (omega (arith, e, f.depth.0));
      value = inv.5 ∙ ap (joined_up b.width b.height b.depth a.setting a.block.now) e ∙ all-joined f a.res.now c.loop-z.res done;
    }
