-- `straighten_pictures` has straightened the first z pictures, and none of those to come. Assumes nothing.
use Prim.Native.Nat.{◌*◌, ◌≤◌, max}
use mathlib.Core.Path.{◌≡◌}
use mathlib.Core.List.{◌++◌}
use lib.IntN.{pos}
use lib.ListN.{length, drop, replicate}
use Rattle.blocks.proofs.Straight.{straight}
use Rattle.blocks.proofs.Pictures.{Placed, joined_up}
use Rattle.blocks.proofs.straighten_pictures.Given as goal

abbrev pub invariant-loop-z : goal.invariant-loop-z
invariant-loop-z l =
    (length l.res ≡ length l.initial.res) × (length l.work ≡ length l.initial.work)
    × Placed (straight l.sides.width l.sides.height l.sides.depth 0 l.setting l.block) (l.z * (l.sides.width * l.sides.height)) l.initial.res l.res
    × (drop (12 * max l.sides.width l.sides.height) l.work ≡ drop (12 * max l.sides.width l.sides.height) l.initial.work)
    × (1 ≤ l.z → l.work ≡ replicate (12 * max l.sides.width l.sides.height) (pos 0) ++ drop (12 * max l.sides.width l.sides.height) l.initial.work)
    × (l.extremes ≡ joined_up l.sides.width l.sides.height l.sides.depth l.setting l.block l.z)
