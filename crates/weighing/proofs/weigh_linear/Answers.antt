-- `weighing::weigh_linear` weighs each place from itself and the next; the last takes the first sample, which was saved. Assumes nothing.
use mathlib.Core.Path.{◌≡◌, refl, sym, ◌∙◌}
use mathlib.Core.List.{List}
use Prim.Native.Nat.{ℕ, ◌+◌, ◌-◌, ◌^◌, ◌≤◌, ◌<◌}
use native.Mathlib.Omega.{arith}
use lib.IntN.{ℤ, pos, ◌+ℤ◌, ◌*ℤ◌}
use lib.Dec.{lit<}
use lib.ListN.{length, set, get_or}
use lib.Signed.{mag}
use mir.Syntax.{w32}
use mir.Val.{to_z, of_z, hbits}
use mir.Facts.{to_z-of_z}
use Rattle.arith.specs.Whole.{round}
use Rattle.arith.proofs.Machine.{read_back, sfits-nat_abs}
use Rattle.lists.proofs.Tab.{Filled, fill_start, fill_step, fill_ahead}
use Rattle.kernels.specs.declared.Kernel.TheVariants.{Linear}
use Rattle.moves.specs.declared.TwoWeights.{TwoWeights}
use Rattle.moves.specs.InPlace.{Middle, near, weighed_at}
use Rattle.moves.proofs.Window.{near_is, weighed_linear, weighed_end}
use Rattle.weighing.proofs.weigh_linear.Goals as goal
use Rattle.weighing.proofs.weigh_linear.Goals.{At-loop-j}

-- t₀ is the line as it was given
module _ (l : At-loop-j) where
  abbrev t₀ : List ℤ
  t₀ = l.args.line.now

  abbrev w : TwoWeights
  w = l.two_weights-w.result

  middle : Middle l.args.f w
  middle = rw (to_z-of_z l.ranges.f) at l.two_weights-w.ensures.0

  -- a sample, as it is read
  sample : (k : ℕ) → k < length t₀ → to_z w32 (of_z w32 (get_or t₀ k (pos 0))) ≡ get_or t₀ k (pos 0)
  sample k m = to_z-of_z {w = w32} (sfits-nat_abs (get_or t₀ k (pos 0)) (l.requires.all_within k m) (lit< tt))

  -- place j is weighed next
  module _ (j : ℕ) (next : j ≡ l.loop-j.j) where
    filled : Filled (weighed_at Linear l.args.f t₀) t₀ j l.loop-j.line
    filled = rw next (rw (to_z-of_z l.ranges.f) at l.loop-j.invariant)

    -- a place that is not yet weighed, as it is read
    ahead : (k : ℕ) → j ≤ k → k < length t₀ → to_z w32 (of_z w32 (get_or l.loop-j.line k (pos 0))) ≡ get_or t₀ k (pos 0)
    ahead k h m = rw (fill_ahead _ t₀ j l.loop-j.line k (pos 0) filled h) (sample k m)

    -- place j weighed
    step : (a b r : ℤ) → mag r < 2 ^ hbits w32 → j < length t₀ → a ≡ get_or t₀ j (pos 0) → b ≡ near t₀ j 2
        → r ≡ round (a *ℤ w.here +ℤ b *ℤ w.next) 4096
        → Filled (weighed_at Linear l.args.f t₀) t₀ (j + 1) (set l.loop-j.line j (to_z w32 (of_z w32 r)))
    step a b r g h ea eb e =
        fill_step _ t₀ j l.loop-j.line _ filled h
        (read_back w32 r g
        ∙ weighed_linear l.args.f t₀ j a b r w middle (ea ∙ sym (near_is t₀ j 1 j 1 (omega arith) h)) eb e)

pub loop-j-init : goal.loop-j-init
loop-j-init c = fill_start _ _

pub between-requires : goal.between-requires
between-requires c =
    let l = (goal.at.between-requires c).At-loop-j in
    let j = c.loop-j.j in
    rw (ahead l j refl j (omega arith) (omega arith), ahead l j refl (j + 1) (omega arith) (omega arith))
    (l.requires.all_within j (omega arith), l.requires.all_within (j + 1) (omega arith), l.two_weights-w.ensures.1)

pub loop-j-preserved : goal.loop-j-preserved
loop-j-preserved c =
    let l = (goal.at.loop-j-preserved c).At-loop-j in
    let j = c.loop-j.j in
    rw (to_z-of_z c.ranges.f)
    (step l j refl _ _ c.between.result c.between.type_inv (omega arith) (ahead l j refl j (omega arith) (omega arith))
    (ahead l j refl (j + 1) (omega arith) (omega arith) ∙ sym (near_is (t₀ l) j 2 (j + 1) 1 (omega arith) (omega arith)))
    c.between.ensures)

pub between-requires-2 : goal.between-requires-2
between-requires-2 c =
    let l = (goal.at.between-requires-2 c).At-loop-j in
    let last = length c.args.line.now - 1 in
    rw (ahead l last (omega arith) last (omega arith) (omega arith), sample l 0 (omega arith))
    (l.requires.all_within last (omega arith), l.requires.all_within 0 (omega arith), l.two_weights-w.ensures.1)

pub returns : goal.returns
returns c =
    let l = (goal.at.returns c).At-loop-j in
    let last = length c.args.line.now - 1 in
    weighed_end Linear l.args.f (t₀ l) _ (last + 1)
    (step l last (omega arith) _ _ c.between-2.result c.between-2.type_inv (omega arith) (ahead l last (omega arith) last (omega arith) (omega arith))
    (sample l 0 (omega arith) ∙ sym (near_is (t₀ l) last 2 0 2 (omega arith) (omega arith)))
    c.between-2.ensures)
    (omega arith)
