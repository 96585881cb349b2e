-- The steps that the code takes are document 01's move: prepared, weighed where it stands, and turned by its whole samples.
-- Assumes nothing.
use mathlib.Core.Path.{◌≡◌, refl, sym, ap, ◌∙◌, fun_ext}
use mathlib.Core.List.{List}
use Prim.Native.Nat.{ℕ, zero, suc, ◌+◌, ◌*◌, ◌-◌, ◌/◌, ◌%◌, ◌≤◌, ◌<◌}
use native.Mathlib.Nat.{mod-lt, div-add-mod, mod-add-mod, not-suc-le-zero, le_of_suc-le-suc}
use native.Mathlib.Omega.{arith}
use lib.Dec.{lit<}
use lib.IntN.{ℤ, pos, nat_abs, ◌+ℤ◌, ◌-ℤ◌, ◌*ℤ◌}
use lib.ListN.{length, get_or}
use Rattle.arith.specs.Whole.{floor, remainder, round}
use Rattle.arith.specs.Move.{fraction, whole}
use Rattle.arith.proofs.Bridge.{bridge, all2}
use Rattle.arith.proofs.Ring.{ring, reify, vars4}
use Rattle.arith.proofs.Within.{within_size, size_within}
use Rattle.arith.proofs.Round.{remainder_is, division_only, round_exact}
use Rattle.lists.specs.Tab.{tab}
use Rattle.lists.specs.Line.{Line, wrap, line, rolled}
use Rattle.lists.proofs.Tab.{tab-length, tab_at, tab_ext, tab_only}
use Rattle.lists.proofs.Cyclic.{wrap-tab}
use Rattle.kernels.specs.declared.Kernel.{Kernel}
use Rattle.kernels.specs.declared.Kernel.TheVariants.{Linear, Keys, Spline}
use Rattle.kernels.specs.Kernel.{kernel_of, weigh}
use Rattle.kernels.specs.Four.{four_weights, weighted_sum}
use Rattle.kernels.proofs.Four.{weigh_four}
use Rattle.spline.specs.Coefficients.{coefficient, coefficients}
use Rattle.spline.proofs.Sizes.{coefficient_size}
use Rattle.moves.specs.Move.{first, mixed, source, divisor, moved, move}
use Rattle.moves.specs.InPlace.{weighed_size, prepared, near, weighed_at, weighed, turn, turned_by}
use Rattle.moves.proofs.Window.{near_is}

pub move-length : (κ : Kernel) (d : ℤ) (s : List ℤ) → length (move κ d s) ≡ length s
unfolding move
move-length κ d s = tab-length (moved κ (length s) d (line s)) (length s)

pub prepared-length : (κ : Kernel) (s : List ℤ) → length (prepared κ s) ≡ length s
unfolding prepared
prepared-length κ s = tab-length (source κ (length s) (line s)) (length s)

pub weighed-length : (κ : Kernel) (f : ℤ) (s : List ℤ) → length (weighed κ f s) ≡ length s
unfolding weighed
weighed-length κ f s = tab-length (weighed_at κ f s) (length s)

-- kernels 0 and 1 weigh the samples as they are
pub prepared_samples : (kernel : ℕ) (s : List ℤ) → kernel < 2 → s ≡ prepared (kernel_of kernel) s
unfolding prepared source
prepared_samples zero s h = tab_only (line s) s (pos 0) (λ k l. refl)
prepared_samples (suc zero) s h = tab_only (line s) s (pos 0) (λ k l. refl)
prepared_samples (suc (suc k)) s h = absurd (not-suc-le-zero (le_of_suc-le-suc (le_of_suc-le-suc h)))

-- kernel 2 weighs the coefficients
pub prepared-coefficients : (s : List ℤ) → coefficients s ≡ prepared Spline s
unfolding coefficients prepared source
prepared-coefficients s = refl

-- how large they come, from samples within ±294,912
module _ (s : List ℤ) (some : 0 < length s) (small : (k : ℕ) → k < length s → nat_abs (get_or s k (pos 0)) ≤ 294912) where
  source_size : (κ : Kernel) (k : ℕ) → k < length s → nat_abs (source κ (length s) (line s) k) ≤ weighed_size κ
  unfolding source
  source_size Linear k l = small k l
  source_size Keys k l = small k l
  source_size Spline k l = within_size (coefficient (length s) (line s) k) 14155779 (coefficient_size some (λ i m. size_within (line s i) 294912 (small i m)) k l)

  pub prepared_size : (κ : Kernel) (k : ℕ) → k < length (prepared κ s) → nat_abs (get_or (prepared κ s) k (pos 0)) ≤ weighed_size κ
  unfolding prepared
  prepared_size κ k l =
      let h : k < length s = omega (arith, tab-length (source κ (length s) (line s)) (length s)) in
      rw (tab_at (source κ (length s) (line s)) (length s) k (pos 0) h) (source_size κ k h)

-- ---- at f = 0 the weight of place j itself is the divisor, and the others are 0
here_alone : (kernel : ℕ) (x a b y : ℤ) → kernel < 2 → weighted_sum (four_weights (kernel_of kernel) (pos 0)) x a b y ≡ pos (divisor (kernel_of kernel)) *ℤ a
unfolding weighted_sum
here_alone zero x a b y h = linear x a b y
  where
    linear : (x a b y : ℤ) → weighted_sum (four_weights Linear (pos 0)) x a b y ≡ pos 68719476736 *ℤ a
    linear = vars4 _ (simp reify (λ ρ. ring tt))
here_alone (suc zero) x a b y h = keys x a b y
  where
    keys : (x a b y : ℤ) → weighted_sum (four_weights Keys (pos 0)) x a b y ≡ pos 137438953472 *ℤ a
    keys = vars4 _ (simp reify (λ ρ. ring tt))
here_alone (suc (suc k)) x a b y h = absurd (not-suc-le-zero (le_of_suc-le-suc (le_of_suc-le-suc h)))

divisor_nonzero : (κ : Kernel) → 0 < divisor κ
divisor_nonzero Linear = lit< tt
divisor_nonzero Keys = lit< tt
divisor_nonzero Spline = lit< tt

-- so kernels 0 and 1 leave a line as it is
pub weighed-whole : (kernel : ℕ) (s : List ℤ) → kernel < 2 → s ≡ weighed (kernel_of kernel) (pos 0) s
unfolding weighed weighed_at
weighed-whole kernel s h =
    tab_only (weighed_at κ (pos 0) s) s (pos 0)
    (λ k l. sym
    (ap (λ p. round p (divisor κ)) (weigh_four κ (pos 0) (near s k) ∙ here_alone kernel (near s k 0) (near s k 1) (near s k 2) (near s k 3) h)
    ∙ round_exact (near s k 1) (divisor κ) (divisor_nonzero κ)
    ∙ near_is s k 1 k 1 (omega arith) l))
  where
    κ : Kernel
    κ = kernel_of kernel

-- ---- the whole samples
-- q - 1 modulo N is N - 1 places on from q modulo N
first-turn : (N : ℕ) (d : ℤ) → 0 < N → first N d ≡ (turn N d + (N - 1)) % N
unfolding first turn
first-turn N d h =
    (division_only (whole d -ℤ pos 1) (floor (whole d) N -ℤ pos 1 +ℤ pos (j / N)) N (j % N) (mod-lt j h)
    (one_less (whole d) (floor (whole d) N) N (remainder (whole d) N) (j / N) (j % N) h (remainder_is (whole d) N h).0 (div-add-mod j N))).1
  where
    j : ℕ
    j = remainder (whole d) N + (N - 1)

    one_less : (w q : ℤ) (N r m s : ℕ) → 0 < N → w ≡ pos N *ℤ q +ℤ pos r → N * m + s ≡ r + (N - 1)
        → w -ℤ pos 1 ≡ pos N *ℤ (q -ℤ pos 1 +ℤ pos m) +ℤ pos s
    one_less = all2 _ (simp bridge (omega arith))

-- so the four source places of output k are those that place k + q is weighed from
places_are : (N : ℕ) (d : ℤ) (k i : ℕ) → 0 < N → (first N d + k + i) % N ≡ ((k + turn N d) % N + (N - 1) + i) % N
places_are N d k i h =
    ap (λ a. (a + k + i) % N) (first-turn N d h)
    ∙ ap (λ a. a % N) (left ((turn N d + (N - 1)) % N) k i)
    ∙ mod-add-mod (turn N d + (N - 1)) N (k + i)
    ∙ ap (λ a. a % N) (swap (turn N d) (N - 1) k i)
    ∙ sym (mod-add-mod (k + turn N d) N (N - 1 + i))
    ∙ ap (λ a. a % N) (sym (left ((k + turn N d) % N) (N - 1) i))
  where
    left : (a b c : ℕ) → a + b + c ≡ a + (b + c)
    left a b c = omega arith

    swap : (t m k i : ℕ) → t + m + (k + i) ≡ k + t + (m + i)
    swap t m k i = omega arith

module _ (κ : Kernel) (d : ℤ) (s : List ℤ) (some : 0 < length s) where
  abbrev N : ℕ
  N = length s

  abbrev weighed-places : Line
  weighed-places = weighed_at κ (pos (fraction d)) (prepared κ s)

  near-prepared : (j i : ℕ) → near (prepared κ s) j i ≡ wrap N (source κ N (line s)) (j + (N - 1) + i)
  unfolding near prepared
  near-prepared j i = rw (tab-length (source κ N (line s)) N) (wrap-tab N (source κ N (line s)) (j + (N - 1) + i) some)

  -- output k is place k + q of the line weighed in place
  moved_at : (k : ℕ) → moved κ N d (line s) k ≡ weighed-places ((k + turn N d) % N)
  unfolding moved mixed weighed_at
  moved_at k =
      ap (λ x. round (weigh κ (pos (fraction d)) x) (divisor κ))
      (fun_ext (λ i. same i ∙ sym (near-prepared ((k + turn N d) % N) i)))
    where
      same : (i : ℕ) → wrap N (source κ N (line s)) (first N d + k + i) ≡ wrap N (source κ N (line s)) ((k + turn N d) % N + (N - 1) + i)
      same i = unfold wrap in ap (source κ N (line s)) (places_are N d k i some)

  turned_at : (k : ℕ) → wrap N (line (tab weighed-places N)) (k + turn N d) ≡ weighed-places ((k + turn N d) % N)
  unfolding wrap
  turned_at k = wrap-tab N weighed-places (k + turn N d) some

  pub moved_in_place : move κ d s ≡ turned_by (turn N d) (weighed κ (pos (fraction d)) (prepared κ s))
  unfolding move turned_by weighed
  moved_in_place =
      tab_ext (moved κ N d (line s)) (rolled (turn N d) (tab weighed-places N)) N (λ k l. moved_at k ∙ sym (rw (tab-length weighed-places N) (turned_at k)))
      ∙ rw (prepared-length κ s, tab-length weighed-places N) refl
