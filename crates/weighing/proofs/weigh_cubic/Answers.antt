-- `weighing::weigh_cubic` weighs each place from the four that the window has there; past the end the first two places come again.
-- Assumes nothing.
use mathlib.Core.Path.{◌≡◌, refl, sym, ap, ◌∙◌}
use mathlib.Core.List.{List}
use Prim.Native.Nat.{ℕ, ◌+◌, ◌-◌, ◌^◌, ◌≤◌, ◌<◌}
use native.Mathlib.Omega.{arith}
use lib.Dec.{lit<}
use lib.IntN.{ℤ, pos, nat_abs}
use lib.ListN.{length, set, get_or}
use lib.Signed.{mag}
use mir.Syntax.{w32, w64}
use mir.Val.{to_z, of_z, hbits}
use mir.Facts.{to_z-of_z}
use Rattle.arith.specs.Whole.{round}
use Rattle.arith.proofs.Laws.{≤ℤ_of_<ℤ}
use Rattle.arith.proofs.Machine.{read_back, sfits-nat_abs}
use Rattle.lists.proofs.Tab.{Filled, fill_start, fill_step, fill_ahead}
use Rattle.kernels.specs.declared.FourWeights.{FourWeights}
use Rattle.kernels.specs.declared.Kernel.{Kernel}
use Rattle.kernels.specs.Four.{four_weights, weighted_sum, Modest, Weighable}
use Rattle.kernels.proofs.Four.{weights_modest}
use Rattle.moves.specs.Move.{divisor}
use Rattle.moves.specs.InPlace.{near, weighed_at}
use Rattle.moves.proofs.Window.{near_is, near_size, Window, window_start, window_one, window_next, weighed_four, weighed_end}
use Rattle.weighing.proofs.weigh_cubic.Goals as goal
use Rattle.weighing.proofs.weigh_cubic.Goals.{After-four_weights-w, After-from, After-from-e, At-loop-j, Start}

-- a sample that was widened, read back
widened : (x r : ℤ) → mag r < 2 ^ hbits w64 → nat_abs x ≤ 14155779 → r ≡ to_z w32 (of_z w32 x) → to_z w64 (of_z w64 r) ≡ x
widened x r g h e = read_back w64 r g ∙ e ∙ to_z-of_z {w = w32} (sfits-nat_abs x h (lit< tt))

-- once f is widened
f_is : (c : After-from) → to_z w64 (of_z w64 c.from.result) ≡ c.args.f
f_is c = read_back w64 c.from.result c.from.type_inv ∙ c.from.ensures ∙ to_z-of_z c.ranges.f

-- once the weights are there
weights : (p : After-four_weights-w) → p.four_weights-w.result ≡ four_weights p.args.kernel p.args.f
weights p = p.four_weights-w.ensures ∙ ap (four_weights p.args.kernel) (f_is p.before)

-- t₀ is the line as it was given, and v its weights
module _ (s : Start) where
  abbrev t₀ : List ℤ
  t₀ = s.args.line.now

  abbrev κ : Kernel
  κ = s.args.kernel

  abbrev target : ℕ → ℤ
  target = weighed_at κ s.args.f t₀

  size : (j i : ℕ) → nat_abs (near t₀ j i) ≤ 14155779
  size = near_size 14155779 t₀ s.requires.in_bounds.0 s.requires.all_within

  weighable : (j : ℕ) (a b c e : ℤ) → Window t₀ j a b c → e ≡ near t₀ j 3 → Weighable a b c e
  weighable j a b c e w x = record { first = rw w.back (size j 0); second = rw w.here (size j 1); third = rw w.next (size j 2); fourth = rw x (size j 3) }

  module _ (v : FourWeights) (is : v ≡ four_weights κ s.args.f) where
    modest : Modest v
    modest = rw is (weights_modest κ s.args.f s.requires.in_bounds.1.0 (≤ℤ_of_<ℤ s.requires.in_bounds.1.1))

    -- place j weighed
    step : (j : ℕ) (t : List ℤ) (a b c e r : ℤ) → mag r < 2 ^ hbits w32 → j < length t₀ → Filled target t₀ j t → Window t₀ j a b c → e ≡ near t₀ j 3
        → r ≡ round (weighted_sum v a b c e) (divisor κ) → Filled target t₀ (j + 1) (set t j (to_z w32 (of_z w32 r)))
    step j t a b c e r g h k w x q =
        fill_step target t₀ j t _ k h
        (read_back w32 r g
        ∙ weighed_four κ s.args.f t₀ j a b c e r w x (q ∙ ap (λ v. round (weighted_sum v a b c e) (divisor κ)) is))

-- at the loop's head place j is weighed next
module _ (l : At-loop-j) (j : ℕ) (next : j ≡ l.loop-j.j) where
  abbrev line₀ : List ℤ
  line₀ = l.args.line.now

  filled : Filled (weighed_at l.args.kernel l.args.f line₀) line₀ j l.loop-j.line
  filled = rw next (rw (to_z-of_z l.ranges.f) at l.loop-j.invariant.0)

  window : Window line₀ j (to_z w64 l.loop-j.a-bits) (to_z w64 l.loop-j.b-bits) (to_z w64 l.loop-j.c-bits)
  window = rw next l.loop-j.invariant.1

  -- past the end the first two places come again
  past_first : j + 2 ≡ length line₀ → to_z w64 (of_z w64 l.from-first.result) ≡ near line₀ j 3
  past_first e =
      widened (get_or line₀ 0 (pos 0)) l.from-first.result l.from-first.type_inv (l.requires.all_within 0 (omega arith)) l.from-first.ensures
      ∙ sym (near_is line₀ j 3 0 2 (omega arith) (omega arith))

  past_second : j + 2 ≡ length line₀ → to_z w64 (of_z w64 l.from-second.result) ≡ near line₀ (j + 1) 3
  past_second e =
      widened (get_or line₀ 1 (pos 0)) l.from-second.result l.from-second.type_inv (l.requires.all_within 1 (omega arith)) l.from-second.ensures
      ∙ sym (near_is line₀ (j + 1) 3 1 2 (omega arith) (omega arith))

  -- and before it a place that is not yet weighed
  read_ahead : j + 2 < length line₀ → get_or l.loop-j.line (j + 2) (pos 0) ≡ near line₀ j 3
  read_ahead h =
      fill_ahead _ line₀ j l.loop-j.line (j + 2) (pos 0) filled (omega arith)
      ∙ sym (near_is line₀ j 3 (j + 2) 1 (omega arith) h)

-- what the loop reads ahead
ahead : (c : After-from-e) → c.loop-j.j + 2 < length c.args.line.now → to_z w64 (of_z w64 c.from-e.result) ≡ near c.args.line.now c.loop-j.j 3
ahead c h =
    let e = read_ahead c.before.before.before c.loop-j.j refl h in
    widened (near c.args.line.now c.loop-j.j 3) c.from-e.result c.from-e.type_inv
    (near_size 14155779 c.args.line.now c.requires.in_bounds.0 c.requires.all_within c.loop-j.j 3)
    (rw e at c.from-e.ensures)

pub weighed_place-requires : goal.weighed_place-requires
weighed_place-requires c =
    let s = (goal.at.weighed_place-requires c).Start in
    let w = weights (goal.at.weighed_place-requires c).After-four_weights-w in
    let e = widened (get_or (t₀ s) 0 (pos 0)) c.from-first.result c.from-first.type_inv (c.requires.all_within 0 (omega arith)) c.from-first.ensures in
    (modest s _ w, weighable s 0 _ _ _ _ (window_one (t₀ s) _ c.if-n-eq1.true e) (e ∙ sym (near_is (t₀ s) 0 3 0 3 (omega arith) (omega arith))))

pub returns-then-n-eq1 : goal.returns-then-n-eq1
returns-then-n-eq1 c =
    let s = (goal.at.returns-then-n-eq1 c).Start in
    let w = weights (goal.at.returns-then-n-eq1 c).After-four_weights-w in
    let e = widened (get_or (t₀ s) 0 (pos 0)) c.from-first.result c.from-first.type_inv (c.requires.all_within 0 (omega arith)) c.from-first.ensures in
    let r = c.weighed_place in
    weighed_end (κ s) c.args.f (t₀ s) _ (0 + 1)
    (step s _ w 0 (t₀ s) _ _ _ _ r.result r.type_inv c.requires.in_bounds.0 (fill_start (target s) (t₀ s))
    (window_one (t₀ s) _ c.if-n-eq1.true e) (e ∙ sym (near_is (t₀ s) 0 3 0 3 (omega arith) (omega arith))) r.ensures)
    (omega arith)

pub loop-j-init : goal.loop-j-init
loop-j-init c =
    let t = c.args.line.now in
    let small = c.requires.all_within in (
      fill_start _ t,
      window_start t _ _ _ (omega arith)
          (widened (get_or t (length t - 1) (pos 0)) c.from-a.result c.from-a.type_inv (small (length t - 1) (omega arith)) c.from-a.ensures)
          (widened (get_or t 0 (pos 0)) c.from-first.result c.from-first.type_inv (small 0 (omega arith)) c.from-first.ensures)
          (widened (get_or t 1 (pos 0)) c.from-second.result c.from-second.type_inv (small 1 (omega arith)) c.from-second.ensures),
    )

pub weighed_place-requires-in-loop-j : goal.weighed_place-requires-in-loop-j
weighed_place-requires-in-loop-j c =
    let s = (goal.at.weighed_place-requires-in-loop-j c).Start in
    let w = weights (goal.at.weighed_place-requires-in-loop-j c).After-four_weights-w in
    let x = ahead (goal.at.weighed_place-requires-in-loop-j c).After-from-e (omega arith) in
    (modest s _ w, weighable s c.loop-j.j _ _ _ _ c.loop-j.invariant.1 x)

pub loop-j-preserved : goal.loop-j-preserved
loop-j-preserved c =
    let s = (goal.at.loop-j-preserved c).Start in
    let w = weights (goal.at.loop-j-preserved c).After-four_weights-w in
    let l = (goal.at.loop-j-preserved c).At-loop-j in
    let x = ahead (goal.at.loop-j-preserved c).After-from-e (omega arith) in
    let j = c.loop-j.j in
    let r = c.weighed_place-in-loop-j in (
      rw (to_z-of_z c.ranges.f)
          (step s _ w j c.loop-j.line _ _ _ _ r.result r.type_inv (omega arith) (filled l j refl) c.loop-j.invariant.1 x r.ensures),
      window_next (t₀ s) j _ _ _ _ c.loop-j.invariant.1 x,
    )

pub weighed_place-requires-2 : goal.weighed_place-requires-2
weighed_place-requires-2 c =
    let s = (goal.at.weighed_place-requires-2 c).Start in
    let w = weights (goal.at.weighed_place-requires-2 c).After-four_weights-w in
    let l = (goal.at.weighed_place-requires-2 c).At-loop-j in
    let j = length c.args.line.now - 2 in
    let next : j ≡ c.loop-j.j = omega arith in
    (modest s _ w, weighable s j _ _ _ _ (window l j next) (past_first l j next (omega arith)))

pub weighed_place-requires-3 : goal.weighed_place-requires-3
weighed_place-requires-3 c =
    let s = (goal.at.weighed_place-requires-3 c).Start in
    let w = weights (goal.at.weighed_place-requires-3 c).After-four_weights-w in
    let l = (goal.at.weighed_place-requires-3 c).At-loop-j in
    let j = length c.args.line.now - 2 in
    let next : j ≡ c.loop-j.j = omega arith in
    (modest s _ w, weighable s (j + 1) _ _ _ _ (window_next (t₀ s) j _ _ _ _ (window l j next) (past_first l j next (omega arith))) (past_second l j next (omega arith)))

pub returns : goal.returns
returns c =
    let s = (goal.at.returns c).Start in
    let w = weights (goal.at.returns c).After-four_weights-w in
    let l = (goal.at.returns c).At-loop-j in
    let j = length c.args.line.now - 2 in
    let next : j ≡ c.loop-j.j = omega arith in
    let x = c.weighed_place-2 in
    let y = c.weighed_place-3 in
    weighed_end (κ s) c.args.f (t₀ s) _ (j + 1 + 1)
    (step s _ w (j + 1) _ _ _ _ _ y.result y.type_inv (omega arith)
    (step s _ w j c.loop-j.line _ _ _ _ x.result x.type_inv (omega arith) (filled l j next) (window l j next) (past_first l j next (omega arith)) x.ensures)
    (window_next (t₀ s) j _ _ _ _ (window l j next) (past_first l j next (omega arith))) (past_second l j next (omega arith)) y.ensures)
    (omega arith)
