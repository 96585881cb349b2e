-- Q-12 of one line, under both borders: linear leaves no range that holds the samples and the background (`bordered-between`), and under linear and
-- Keys a number added to both is added to every moved sample (`bordered-raised`). Of lists these are `linear_keeps_range` and `linear_keys_add`.
-- And where a range lies (`range_within`). Assumes nothing.
use mathlib.Core.Path.{◌≡◌, refl, sym, ap, ◌∙◌, subst}
use mathlib.Core.Bool.{Bool, true, false, cond}
use mathlib.Core.List.{List}
use Prim.Native.Nat.{ℕ, zero, suc, ◌+◌, ◌*◌, ◌≤◌, ◌<◌}
use native.Mathlib.Omega.{arith}
use lib.IntN.{ℤ, pos, nat_abs, neg_ℤ, ◌+ℤ◌, ◌*ℤ◌, *ℤ_comm}
use lib.ListN.{length}
use lib.Signed.{◌≤ℤ◌}
use Rattle.arith.specs.Whole.{round, min_ℤ, max_ℤ}
use Rattle.arith.specs.Sum.{Σ}
use Rattle.arith.specs.Move.{fraction}
use Rattle.arith.proofs.Bridge.{bridge, all3}
use Rattle.arith.proofs.Laws.{≤ℤ_trans}
use Rattle.arith.proofs.Within.{size_within}
use Rattle.arith.proofs.Round.{round-between, round_shift}
use Rattle.arith.proofs.Sums.{Σ_mean_upper, Σ_mean_lower}
use Rattle.arith.proofs.Move.{fraction_low, fraction_high}
use Rattle.lists.specs.Line.{Line, wrap, line}
use Rattle.lists.specs.Ends.{smallest, largest}
use Rattle.lists.proofs.Cyclic.{wrap_every}
use Rattle.lists.proofs.Ends.{min_left, min_right, max_left, max_right, smallest_is, largest_is, extreme_has}
use Rattle.refusals.specs.Tests.{AllWithin}
use Rattle.settings.specs.declared.Border.{Border}
use Rattle.settings.specs.declared.Border.TheVariants.{Wrapped, Background}
use Rattle.kernels.specs.declared.Kernel.{Kernel}
use Rattle.kernels.specs.declared.Kernel.TheVariants.{Linear, Keys, Spline}
use Rattle.kernels.specs.Kernel.{kernel_of, norm, D³, weight, weigh}
use Rattle.kernels.proofs.Weights.{sign, weight_non_neg, weights_sum, norm_nonzero}
use Rattle.moves.specs.Move.{first, mixed, source, moved}
use Rattle.moves.specs.Border.{framed, far, bordered, move_in, gone, fraction_in, grey}
use Rattle.moves.specs.Range.{lowest, highest, Between, InRange, raised, KeepsRange, Adds}
use Rattle.moves.proofs.Rules.{moved_local}
use Rattle.moves.proofs.Mixed.{mixed_plus}
use Rattle.moves.proofs.Border.{framed_both, framed_every, move_in_at}

-- what is said of the background, where there is one
abbrev pub OnBackground : (ℤ → Type 0) → Border → Type 0
OnBackground P Wrapped = Unit {0}
OnBackground P (Background b) = P b

-- ---- the range of the samples and the background
module _ (n : ℕ) (s : List ℤ) (some : 1 ≤ n) where
  pub background_between : (β : Border) → OnBackground (Between (lowest β n s) (highest β n s)) β
  background_between Wrapped = tt
  background_between (Background b) = (min_right (smallest (line s) n) b, max_right (largest (line s) n) b)

  pub samples_between : (β : Border) (k : ℕ) → k < n → Between (lowest β n s) (highest β n s) (line s k)
  samples_between Wrapped k l = ((smallest_is (line s) n some).each k l, (largest_is (line s) n some).each k l)
  samples_between (Background b) k l =
      (≤ℤ_trans (min_left (smallest (line s) n) b) ((smallest_is (line s) n some).each k l), ≤ℤ_trans ((largest_is (line s) n some).each k l) (max_left (largest (line s) n) b))

-- samples that lie in a range have their extremes there
pub extremes_in_range : (β : Border) (n : ℕ) (s t : List ℤ) → 1 ≤ n → InRange β n s t → (lowest β n s ≤ℤ smallest (line t) n) × (largest (line t) n ≤ℤ highest β n s)
extremes_in_range β n s t some within = (
  extreme_has _ (λ v. lowest β n s ≤ℤ v) (line t) n _ (smallest_is (line t) n some) (λ k l. (within k l).0),
  extreme_has _ (λ v. v ≤ℤ highest β n s) (line t) n _ (largest_is (line t) n some) (λ k l. (within k l).1),
)

-- and samples and a background within ±M have their range there
pub range_within : (β : Border) (n : ℕ) (s : List ℤ) (M : ℕ) → 1 ≤ n → AllWithin M n s → nat_abs (grey β) ≤ M
    → (neg_ℤ (pos M) ≤ℤ lowest β n s) × (highest β n s ≤ℤ pos M)
range_within β n s M some each plain = by β plain
  where
    smallest_within : neg_ℤ (pos M) ≤ℤ smallest (line s) n
    smallest_within = extreme_has _ (λ v. neg_ℤ (pos M) ≤ℤ v) (line s) n _ (smallest_is (line s) n some) (λ k l. (size_within (line s k) M (each k l)).0)

    largest_within : largest (line s) n ≤ℤ pos M
    largest_within = extreme_has _ (λ v. v ≤ℤ pos M) (line s) n _ (largest_is (line s) n some) (λ k l. (size_within (line s k) M (each k l)).1)

    lower : (low x y : ℤ) → low ≤ℤ x → low ≤ℤ y → low ≤ℤ min_ℤ x y
    lower = all3 _ (simp bridge (omega arith))

    higher : (x y high : ℤ) → x ≤ℤ high → y ≤ℤ high → max_ℤ x y ≤ℤ high
    higher = all3 _ (simp bridge (omega arith))

    by : (β : Border) → nat_abs (grey β) ≤ M → (neg_ℤ (pos M) ≤ℤ lowest β n s) × (highest β n s ≤ℤ pos M)
    by Wrapped plain = (smallest_within, largest_within)
    by (Background b) plain =
        let outer = size_within b M plain in
        (lower (neg_ℤ (pos M)) (smallest (line s) n) b smallest_within outer.0, higher (largest (line s) n) b (pos M) largest_within outer.1)

-- ---- linear's weights are not negative and sum to D³, so a weighted sum lies where its four places lie, and so does its rounding
module _ {N : ℕ} {x : Line} (low high : ℤ) (h : 0 < N) (each : (k : ℕ) → k < N → Between low high (x k)) where
  pub moved-between : (d : ℤ) (k : ℕ) → Between low high (moved Linear N d x k)
  unfolding moved source mixed weigh
  moved-between d k = round-between (Σ (λ i. w i *ℤ y i) 4) D³ (omega arith) below above
    where
      w : Line
      w = weight Linear (pos (fraction d))

      y : Line
      y i = wrap N x (first N d + k + i)

      non_neg : (i : ℕ) → i < 4 → pos 0 ≤ℤ w i
      non_neg i l = weight_non_neg Linear (pos (fraction d)) (fraction_low d) (fraction_high d) i l (unfold sign in refl)

      there : (i : ℕ) → Between low high (y i)
      there i = wrap_every (Between low high) h each (first N d + k + i)

      total : (B : ℤ) → B *ℤ Σ w 4 ≡ pos D³ *ℤ B
      total B = ap (λ t. B *ℤ t) (weights_sum Linear (pos (fraction d))) ∙ *ℤ_comm B (pos D³)

      below : (pos D³ *ℤ low) ≤ℤ Σ (λ i. w i *ℤ y i) 4
      below = subst (λ t. t ≤ℤ Σ (λ i. w i *ℤ y i) 4) (total low) (Σ_mean_lower w y low 4 non_neg (λ i l. (there i).0))

      above : Σ (λ i. w i *ℤ y i) 4 ≤ℤ (pos D³ *ℤ high)
      above = subst (λ t. Σ (λ i. w i *ℤ y i) 4 ≤ℤ t) (total high) (Σ_mean_upper w y high 4 non_neg (λ i l. (there i).1))

pub bordered-between : (β : Border) {N : ℕ} {x : Line} (low high : ℤ) → 0 < N → OnBackground (Between low high) β
    → ((k : ℕ) → k < N → Between low high (x k)) → (d : ℤ) (k : ℕ) → Between low high (bordered β Linear N d x k)
unfolding bordered
bordered-between Wrapped low high h outer each d k = moved-between low high h each d k
bordered-between (Background b) {N} {x} low high h outer each d k = by (far N d)
  where
    by : (p : Bool) → Between low high (cond p b (moved Linear (3 * N) d (framed N b x) (N + k)))
    by true = outer
    by false = moved-between {x = framed N b x} low high (omega arith) (λ i l. framed_every (Between low high) {x = x} outer each i) d (N + k)

-- of a list, in any range that holds its samples and the background, and so in their own
pub move_in-between : (β : Border) (low high : ℤ) (d : ℤ) (s : List ℤ) → OnBackground (Between low high) β → ((k : ℕ) → k < length s → Between low high (line s k))
    → (k : ℕ) → k < length s → Between low high (line (move_in β Linear d s) k)
move_in-between β low high d s outer each k l = subst (Between low high) (sym (move_in_at β Linear d s k l)) (bordered-between β low high (omega arith) outer each d k)

pub linear_keeps_range : KeepsRange Linear
linear_keeps_range β d s k l = move_in-between β _ _ d s (background_between (length s) s (omega arith) β) (samples_between (length s) s (omega arith) β) k l

-- ---- a number added: weighed, it counts n·D³ times, which is what linear and Keys divide by; the spline weighs rounded coefficients
module _ (N : ℕ) (x y : Line) (c : ℤ) (h : 0 < N) (each : (k : ℕ) → k < N → y k ≡ x k +ℤ c) where
  rounded : (κ : Kernel) (d : ℤ) (k : ℕ) → round (mixed κ N d (λ i. wrap N x i +ℤ c) k) (norm κ * D³) ≡ round (mixed κ N d (wrap N x) k) (norm κ * D³) +ℤ c
  rounded κ d k = ap (λ p. round p (norm κ * D³)) (mixed_plus κ N d c (wrap N x) k) ∙ round_shift (mixed κ N d (wrap N x) k) c (norm κ * D³) (norm_nonzero κ)

  pub moved-raised : (κ : Kernel) → (κ ≡ Spline → ⊥) → (d : ℤ) (k : ℕ) → moved κ N d y k ≡ moved κ N d x k +ℤ c
  unfolding moved source wrap
  moved-raised Linear not-spline d k = ap (λ (r : Line). r k) (moved_local {x = y} {y = λ i. x i +ℤ c} h each Linear d) ∙ rounded Linear d k
  moved-raised Keys not-spline d k = ap (λ (r : Line). r k) (moved_local {x = y} {y = λ i. x i +ℤ c} h each Keys d) ∙ rounded Keys d k
  moved-raised Spline not-spline d k = absurd (not-spline refl)

pub bordered-raised : (β : Border) (N : ℕ) (x y : Line) (c : ℤ) → 0 < N → ((k : ℕ) → k < N → y k ≡ x k +ℤ c) → (κ : Kernel) → (κ ≡ Spline → ⊥) → (d : ℤ) (k : ℕ)
    → bordered (raised c β) κ N d y k ≡ bordered β κ N d x k +ℤ c
unfolding bordered
bordered-raised Wrapped N x y c h each κ not-spline d k = moved-raised N x y c h each κ not-spline d k
bordered-raised (Background b) N x y c h each κ not-spline d k = by (far N d)
  where
    by : (p : Bool) → cond p (b +ℤ c) (moved κ (3 * N) d (framed N (b +ℤ c) y) (N + k)) ≡ cond p b (moved κ (3 * N) d (framed N b x) (N + k)) +ℤ c
    by true = refl
    by false =
        moved-raised (3 * N) (framed N b x) (framed N (b +ℤ c) y) c (omega arith)
        (λ i l. framed_both (λ v w. v ≡ w +ℤ c) {N = N} {b = b +ℤ c} {b' = b} {x = y} {y = x} refl each i) κ not-spline d (N + k)

pub linear_keys_add : (κ : Kernel) → (κ ≡ Spline → ⊥) → Adds κ
linear_keys_add κ not-spline c β d s t e each k l =
    move_in_at (raised c β) κ d t k (omega arith)
    ∙ ap (λ (n : ℕ). bordered (raised c β) κ n d (line t) k) e
    ∙ bordered-raised β (length s) (line s) (line t) c (omega arith) each κ not-spline d k
    ∙ ap (λ v. v +ℤ c) (sym (move_in_at β κ d s k l))

-- it makes no line interpolated that was not
pub fraction-raised : (c : ℤ) (β : Border) (N : ℕ) (d : ℤ) → fraction_in (raised c β) N d ≡ fraction_in β N d
unfolding fraction_in gone
fraction-raised c Wrapped N d = refl
fraction-raised c (Background b) N d = refl

-- ---- the kernels by their numbers
pub kernel_linear : (kernel : ℕ) → kernel ≡ 0 → kernel_of kernel ≡ Linear
kernel_linear kernel e = ap kernel_of e

pub kernel_spline : (kernel : ℕ) → kernel ≡ 2 → kernel_of kernel ≡ Spline
kernel_spline kernel e = ap kernel_of e

pub kernel_not_spline : (kernel : ℕ) → kernel ≤ 1 → kernel_of kernel ≡ Spline → ⊥
kernel_not_spline zero h e = let z : ◌≡◌ {A = ℕ} 0 1 = cc in omega arith
kernel_not_spline (suc zero) h e = let z : ◌≡◌ {A = ℕ} 0 1 = cc in omega arith
kernel_not_spline (suc (suc kernel)) h e = omega arith
