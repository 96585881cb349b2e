-- `explanations::parts_of` meets its contract: the four terms one by one, and their sum, which fits since the weights' sizes together are at most 6·D³.
-- Assumes nothing.
use mathlib.Core.Path.{◌≡◌, refl, sym, ap, ap₂, ◌∙◌}
use Prim.Native.Nat.{ℕ, ◌≤◌, ◌<◌}
use native.Mathlib.Omega.{arith}
use lib.Dec.{lit<}
use lib.IntN.{ℤ, pos, nat_abs, ◌+ℤ◌, ◌*ℤ◌}
use lib.ListN.{length}
use lib.Signed.{◌≤ℤ◌, le_z_yes}
use mir.Syntax.{w32, w64}
use mir.Val.{SFits, to_z, of_z}
use mir.Facts.{to_z-of_z}
use Rattle.arith.specs.Whole.{round}
use Rattle.arith.specs.Move.{fraction}
use Rattle.arith.proofs.Bridge.{all1}
use Rattle.arith.proofs.Divide.{division}
use Rattle.arith.proofs.Machine.{read_back, sfits-nat_abs}
use Rattle.arith.proofs.Move.{fraction_low, fraction_high}
use Rattle.arith.proofs.Compute.{Code, arg, ◌+ᵐ◌, plain, run, Ranges, need, value}
use Rattle.lists.specs.Line.{Line, line}
use Rattle.kernels.specs.declared.FourWeights.{FourWeights}
use Rattle.kernels.specs.declared.Kernel.{Kernel}
use Rattle.kernels.specs.declared.Kernel.TheVariants.{Linear, Keys, Spline}
use Rattle.kernels.specs.Kernel.{weight}
use Rattle.kernels.specs.Four.{four_weights, weighted_sum, Modest}
use Rattle.kernels.proofs.Four.{weights_modest, weigh_four, Fitting, products_fit}
use Rattle.moves.specs.Move.{divisor}
use Rattle.explanations.specs.declared.Term.{Term}
use Rattle.explanations.specs.Made.{place_of, value_of, term_by, Weighed}
use Rattle.explanations.proofs.Made.{place_inside, sum_of, parts_are}
use Rattle.explanations.proofs.parts_of.Goals as goal
use Rattle.explanations.proofs.parts_of.Goals.{After-divisor_of-divisor, After-rounded, After-term_of-e, After-weights_at-w, Start}

-- ---- the weights
module _ (c : After-weights_at-w) where
  abbrev s : Start
  s = c.before

  abbrev κ : Kernel
  κ = s.args.kernel

  abbrev f : ℤ
  f = pos (fraction s.args.d)

  weights_are : c.weights_at-w.result ≡ four_weights κ f
  weights_are = rw (to_z-of_z s.ranges.d) at c.weights_at-w.ensures

  modest : Modest (four_weights κ f)
  modest = weights_modest κ f (fraction_low s.args.d) (fraction_high s.args.d)

  -- a weight as it is lent to its term
  lent : (of : FourWeights → ℤ) → nat_abs (of (four_weights κ f)) ≤ 412316860416 → to_z w64 (of_z w64 (of c.weights_at-w.result)) ≡ of (four_weights κ f)
  lent of h = ap (λ (w : FourWeights). to_z w64 (of_z w64 (of w))) weights_are ∙ to_z-of_z (sfits-nat_abs {w = w64} (of (four_weights κ f)) h (lit< tt))

  -- what a term asks, and the term
  asks : (i : ℕ) (of : FourWeights → ℤ) → i < 4 → nat_abs (of (four_weights κ f)) ≤ 412316860416
      → Weighed (to_z w32 (of_z w32 s.args.d)) s.args.k s.args.weighed.now × (i < 4) × (nat_abs (to_z w64 (of_z w64 (of c.weights_at-w.result))) ≤ 412316860416)
  asks i of l h = rw (to_z-of_z s.ranges.d, lent of h) (s.requires, l, h)

  abbrev term_at : ℤ → ℤ → ℕ → Term
  term_at d w i = let n = length s.args.weighed.now in term_by (place_of n d s.args.k i) w (value_of n d s.args.k (line s.args.weighed.now) i)

  term_is : (i : ℕ) (of : FourWeights → ℤ) {r : Term} → nat_abs (of (four_weights κ f)) ≤ 412316860416
      → r ≡ term_at (to_z w32 (of_z w32 s.args.d)) (to_z w64 (of_z w64 (of c.weights_at-w.result))) i → r ≡ term_at s.args.d (of (four_weights κ f)) i
  term_is i of h e = e ∙ ap₂ (λ (d w : ℤ). term_at d w i) (to_z-of_z s.ranges.d) (lent of h)

-- ---- the terms and their sum
-- four products that fit are added up
by_products : {p p' q q' r r' e e' : ℤ} → p ≡ p' → q ≡ q' → r ≡ r' → e ≡ e' → Fitting p' q' r' e'
    → Ranges {w = w64} (arg p +ᵐ arg q +ᵐ arg r +ᵐ arg e) × (p +ℤ q +ℤ r +ℤ e ≡ p' +ℤ q' +ℤ r' +ℤ e')
by_products ep eq er ee g = rw (ep, eq, er, ee) ((g.first, (g.second, (g.two, (g.third, (g.three, (g.fourth, (g.four, tt))))))), refl)

module _ (t : After-term_of-e) where
  abbrev w : After-weights_at-w
  w = t.before.before.before.before.before.before.before.before

  abbrev a : Start
  a = w.before

  abbrev x : Line
  x = line a.args.weighed.now

  abbrev at : ℕ → ℤ
  at = value_of (length a.args.weighed.now) a.args.d a.args.k x

  first : t.term_of-a.result ≡ term_at w a.args.d (weight (κ w) (f w) 0) 0
  first = term_is w 0 (λ y. y.w0) (omega (arith, modest w)) t.term_of-a.ensures

  second : t.term_of-b.result ≡ term_at w a.args.d (weight (κ w) (f w) 1) 1
  second = term_is w 1 (λ y. y.w1) (omega (arith, modest w)) t.term_of-b.ensures

  third : t.term_of-c.result ≡ term_at w a.args.d (weight (κ w) (f w) 2) 2
  third = term_is w 2 (λ y. y.w2) (omega (arith, modest w)) t.term_of-c.ensures

  fourth : t.term_of-e.result ≡ term_at w a.args.d (weight (κ w) (f w) 3) 3
  fourth = term_is w 3 (λ y. y.w3) (omega (arith, modest w)) t.term_of-e.ensures

  abbrev p : ℤ
  p = t.term_of-a.result.product

  abbrev q : ℤ
  q = t.term_of-b.result.product

  abbrev r : ℤ
  r = t.term_of-c.result.product

  abbrev e : ℤ
  e = t.term_of-e.result.product

  value_small : (i : ℕ) → nat_abs (at i) ≤ 14155779
  value_small i = a.requires.small _ (place_inside (length a.args.weighed.now) a.args.d a.args.k i (omega (arith, a.requires.inside)))

  products : Fitting (weight (κ w) (f w) 0 *ℤ at 0) (weight (κ w) (f w) 1 *ℤ at 1) (weight (κ w) (f w) 2 *ℤ at 2) (weight (κ w) (f w) 3 *ℤ at 3)
  products =
      products_fit (four_weights (κ w) (f w)) (at 0) (at 1) (at 2) (at 3) (modest w)
      (record { first = value_small 0; second = value_small 1; third = value_small 2; fourth = value_small 3 })

  abbrev sum : Code w64
  sum = arg p +ᵐ arg q +ᵐ arg r +ᵐ arg e

  added : Ranges sum × (plain sum ≡ weighted_sum (four_weights (κ w) (f w)) (at 0) (at 1) (at 2) (at 3))
  unfolding weighted_sum
  added =
      by_products (ap (λ (y : Term). y.product) first) (ap (λ (y : Term). y.product) second) (ap (λ (y : Term). y.product) third)
      (ap (λ (y : Term). y.product) fourth) products

  sum_is : to_z w64 (run sum) ≡ sum_of (κ w) (length a.args.weighed.now) a.args.d a.args.k x
  sum_is = value sum added.0 ∙ added.1 ∙ sym (weigh_four (κ w) (f w) at)

  sum_size : nat_abs (sum_of (κ w) (length a.args.weighed.now) a.args.d a.args.k x) ≤ 5836666354022744064
  unfolding weighted_sum
  sum_size = rw (weigh_four (κ w) (f w) at) products.size

-- ---- the divisor and the quotient
abbrev terms : After-divisor_of-divisor → After-term_of-e
terms c = c.before.before.before.before.before.before.before.before.before

divisor_range : (κ : Kernel) → (pos 1 ≤ℤ pos (divisor κ)) × (pos (divisor κ) ≤ℤ pos 576460752303423488)
divisor_range Linear = (le_z_yes tt, le_z_yes tt)
divisor_range Keys = (le_z_yes tt, le_z_yes tt)
divisor_range Spline = (le_z_yes tt, le_z_yes tt)

quotient_fits : (κ : Kernel) (p : ℤ) → nat_abs p ≤ 5836666354022744064 → SFits w32 (round p (divisor κ))
quotient_fits Linear = all1 _ (simp division (omega arith))
quotient_fits Keys = all1 _ (simp division (omega arith))
quotient_fits Spline = all1 _ (simp division (omega arith))

over_is : (c : After-divisor_of-divisor) → to_z w64 (of_z w64 c.divisor_of-divisor.result) ≡ pos (divisor (κ (w (terms c))))
over_is c = read_back w64 _ c.divisor_of-divisor.type_inv ∙ c.divisor_of-divisor.ensures

module _ (c : After-rounded) where
  abbrev made : After-term_of-e
  made = terms c.before

  abbrev total : ℤ
  total = sum_of (κ (w made)) (length (a made).args.weighed.now) (a made).args.d (a made).args.k (x made)

  quotient_is : to_z w64 (of_z w64 c.rounded.result) ≡ round total (divisor (κ (w made)))
  quotient_is = read_back w64 _ c.rounded.type_inv ∙ c.rounded.ensures ∙ ap₂ (λ (z o : ℤ). round z (nat_abs o)) (sum_is made) (over_is c.before)

pub term_of-a-requires : goal.term_of-a-requires
term_of-a-requires c = let w = (goal.at.term_of-a-requires c).After-weights_at-w in asks w 0 (λ y. y.w0) (omega arith) (omega (arith, modest w))

pub term_of-b-requires : goal.term_of-b-requires
term_of-b-requires c = let w = (goal.at.term_of-b-requires c).After-weights_at-w in asks w 1 (λ y. y.w1) (omega arith) (omega (arith, modest w))

pub term_of-c-requires : goal.term_of-c-requires
term_of-c-requires c = let w = (goal.at.term_of-c-requires c).After-weights_at-w in asks w 2 (λ y. y.w2) (omega arith) (omega (arith, modest w))

pub term_of-e-requires : goal.term_of-e-requires
term_of-e-requires c = let w = (goal.at.term_of-e-requires c).After-weights_at-w in asks w 3 (λ y. y.w3) (omega arith) (omega (arith, modest w))

pub overflow_add-sum : goal.overflow_add-sum
overflow_add-sum c = let t = (goal.at.overflow_add-sum c).After-term_of-e in need 0 (sum t) (added t).0

pub overflow_add-sum-2 : goal.overflow_add-sum-2
overflow_add-sum-2 c = let t = (goal.at.overflow_add-sum-2 c).After-term_of-e in need 1 (sum t) (added t).0

pub overflow_add-sum-3 : goal.overflow_add-sum-3
overflow_add-sum-3 c = let t = (goal.at.overflow_add-sum-3 c).After-term_of-e in need 2 (sum t) (added t).0

pub rounded-requires : goal.rounded-requires
rounded-requires c =
    let t = terms c in
    rw (sum_is t, over_is c) (omega (arith, sum_size t), (divisor_range (κ (w t))).0, (divisor_range (κ (w t))).1)

pub overflow_cast-result : goal.overflow_cast-result
overflow_cast-result c = rw (quotient_is c) (quotient_fits (κ (w (made c))) (total c) (sum_size (made c)))

pub returns : goal.returns
returns c =
    let t = made c in
    let n = (a t).args in
    let fits = quotient_fits (κ (w t)) (total c) (sum_size t) in
    parts_are (κ (w t)) (length n.weighed.now) n.d n.k (x t) (first t) (second t) (third t) (fourth t) (sum_is t) (over_is c.before)
    (ap (λ z. to_z w32 (of_z w32 z)) (quotient_is c) ∙ to_z-of_z fits)
