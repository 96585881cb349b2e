-- Q-12's second sentence under the spline, of one line and both borders. Its coefficients are rounded, so a number that is added to every sample and to the
-- background is added to every moved sample to within 1 unit, and where two lines differ by the number to within m, to within 3·m + 1 (`bordered_nearly`).
-- Assumes nothing.
use mathlib.Core.Path.{◌≡◌, refl, sym, ap, ◌∙◌, subst, subst₂}
use mathlib.Core.Bool.{Bool, true, false, cond}
use mathlib.Core.List.{List}
use Prim.Native.Nat.{ℕ, ◌+◌, ◌*◌, ◌%◌, ◌≤◌, ◌<◌}
use native.Mathlib.Nat.{mod-lt}
use native.Mathlib.Omega.{arith}
use lib.IntN.{ℤ, pos, nat_abs, ◌+ℤ◌, ◌-ℤ◌, ◌*ℤ◌}
use lib.ListN.{length}
use lib.Signed.{◌≤ℤ◌, le_z_yes}
use Rattle.arith.specs.Whole.{round}
use Rattle.arith.specs.Move.{fraction}
use Rattle.arith.proofs.Bridge.{bridge, all3, all4}
use Rattle.arith.proofs.Ring.{ring, reify, vars1, vars3, vars4}
use Rattle.arith.proofs.Cert.{linear, ◌·◌}
use Rattle.arith.proofs.Laws.{*ℤ_mono}
use Rattle.arith.proofs.Round.{round_mono, round_shift}
use Rattle.arith.proofs.Sums.{Σ_mono}
use Rattle.arith.proofs.Move.{fraction_low, fraction_high}
use Rattle.arith.proofs.Within.{Within, within_size, size_within}
use Rattle.lists.specs.Line.{Line, wrap, line}
use Rattle.settings.specs.declared.Border.{Border}
use Rattle.settings.specs.declared.Border.TheVariants.{Wrapped, Background}
use Rattle.kernels.specs.declared.Kernel.TheVariants.{Spline}
use Rattle.kernels.specs.Kernel.{norm, D³, weight, weigh}
use Rattle.kernels.proofs.Weights.{sign, weight_non_neg}
use Rattle.spline.specs.Coefficients.{coefficient}
use Rattle.spline.proofs.Raised.{coefficient-raised}
use Rattle.moves.specs.Move.{first, mixed, source, divisor, moved}
use Rattle.moves.specs.Border.{framed, far, bordered, move_in, grey}
use Rattle.moves.specs.Range.{raised, Raised, RaisedWithin}
use Rattle.moves.proofs.Mixed.{mixed_plus}
use Rattle.moves.proofs.Border.{framed_both, framed_every, move_in_at}

-- y is x with c added, to within m
abbrev pub Nearly : ℤ → ℤ → ℤ → ℤ → Type 0
Nearly m c x y = Within m (y -ℤ (x +ℤ c))

pub nearly_equal : (x y c : ℤ) → y ≡ x +ℤ c → Nearly (pos 0) c x y
nearly_equal = all3 _ (simp bridge (omega arith))

-- what m becomes where a line is moved
abbrev pub onward : ℤ → ℤ
onward m = pos 3 *ℤ m +ℤ pos 1

-- ---- the spline's weights are not negative, so larger places weigh more
mixed_mono : (N : ℕ) (d : ℤ) {x y : Line} (k : ℕ) → ((i : ℕ) → x i ≤ℤ y i) → mixed Spline N d x k ≤ℤ mixed Spline N d y k
unfolding mixed weigh
mixed_mono N d {x} {y} k below = Σ_mono (λ i. w i *ℤ x (at i)) (λ i. w i *ℤ y (at i)) 4 (λ i l. *ℤ_mono (w i) (non_neg i l) (below (at i)))
  where
    w : Line
    w = weight Spline (pos (fraction d))

    at : ℕ → ℕ
    at i = first N d + k + i

    non_neg : (i : ℕ) → i < 4 → pos 0 ≤ℤ w i
    non_neg i l = weight_non_neg Spline (pos (fraction d)) (fraction_low d) (fraction_high d) i l (unfold sign in refl)

-- 16·e added to each coefficient is e added to the quotient
quotient_plus : (N : ℕ) (d e : ℤ) (s : Line) (k : ℕ) → round (mixed Spline N d (λ i. s i +ℤ pos 16 *ℤ e) k) (divisor Spline) ≡ round (mixed Spline N d s k) (divisor Spline) +ℤ e
quotient_plus N d e s k =
    ap (λ p. round p (divisor Spline)) (mixed_plus Spline N d (pos 16 *ℤ e) s k ∙ ap (λ t. mixed Spline N d s k +ℤ t) (sixteen e))
    ∙ round_shift (mixed Spline N d s k) e (divisor Spline) (omega arith)
  where
    sixteen : (e : ℤ) → pos (norm Spline * D³) *ℤ (pos 16 *ℤ e) ≡ pos (divisor Spline) *ℤ e
    sixteen = vars1 _ (simp reify (λ ρ. ring tt))

module _ {N : ℕ} {x y : Line} (c m : ℤ) (h : 0 < N) (small : (k : ℕ) → k < N → Within (pos 294912) (x k)) (small' : (k : ℕ) → k < N → Within (pos 294912) (y k))
    (each : (k : ℕ) → k < N → Nearly m c (x k) (y k)) where
  -- between the coefficients of x with 16 times c - (3·m + 1) and c + (3·m + 1) added
  coefficients-between : (i : ℕ)
      → ((wrap N (coefficient N x) i +ℤ pos 16 *ℤ (c -ℤ onward m)) ≤ℤ wrap N (coefficient N y) i)
      × (wrap N (coefficient N y) i ≤ℤ (wrap N (coefficient N x) i +ℤ pos 16 *ℤ (c +ℤ onward m)))
  unfolding wrap
  coefficients-between i = between (coefficient N x (i % N)) (coefficient N y (i % N)) c m (coefficient-raised c m h small small' each (i % N) (mod-lt i h))
    where
      between : (v w c m : ℤ) → Within (pos 48 *ℤ m +ℤ pos 8) (w -ℤ (v +ℤ pos 16 *ℤ c))
          → ((v +ℤ pos 16 *ℤ (c -ℤ onward m)) ≤ℤ w) × (w ≤ℤ (v +ℤ pos 16 *ℤ (c +ℤ onward m)))
      between = vars4 _ (simp reify (λ ρ h. (linear h.0 tt, linear h.1 tt)))

  pub moved_nearly : (d : ℤ) (k : ℕ) → Nearly (onward m) c (moved Spline N d x k) (moved Spline N d y k)
  unfolding moved source
  moved_nearly d k =
      together (moved Spline N d x k) (moved Spline N d y k) c (onward m)
      (subst (λ v. v ≤ℤ moved Spline N d y k) (quotient_plus N d (c -ℤ onward m) s k) (round_mono (divisor Spline) (omega arith) (mixed_mono N d k (λ i. (coefficients-between i).0))))
      (subst (λ v. moved Spline N d y k ≤ℤ v) (quotient_plus N d (c +ℤ onward m) s k) (round_mono (divisor Spline) (omega arith) (mixed_mono N d k (λ i. (coefficients-between i).1))))
    where
      s : Line
      s = wrap N (coefficient N x)

      together : (v w c b : ℤ) → (v +ℤ (c -ℤ b)) ≤ℤ w → w ≤ℤ (v +ℤ (c +ℤ b)) → Within b (w -ℤ (v +ℤ c))
      together = all4 _ (simp bridge (omega arith))

-- ---- the background takes the number too
none : (m b c : ℤ) → pos 0 ≤ℤ m → Within m (b +ℤ c -ℤ (b +ℤ c))
none = vars3 _ (simp reify (λ ρ m. (linear m tt, linear m tt)))

more : (m b c : ℤ) → pos 0 ≤ℤ m → Within (onward m) (b +ℤ c -ℤ (b +ℤ c))
more = vars3 _ (simp reify (λ ρ m. (linear (3 · m) tt, linear (3 · m) tt)))

pub bordered_nearly : (β : Border) {N : ℕ} {x y : Line} (c m : ℤ) → 0 < N → pos 0 ≤ℤ m → Within (pos 294912) (grey β) → Within (pos 294912) (grey (raised c β))
    → ((k : ℕ) → k < N → Within (pos 294912) (x k)) → ((k : ℕ) → k < N → Within (pos 294912) (y k)) → ((k : ℕ) → k < N → Nearly m c (x k) (y k)) → (d : ℤ) (k : ℕ)
    → Nearly (onward m) c (bordered β Spline N d x k) (bordered (raised c β) Spline N d y k)
unfolding bordered
bordered_nearly Wrapped c m h hm outer outer' small small' each d k = moved_nearly c m h small small' each d k
bordered_nearly (Background b) {N} {x} {y} c m h hm outer outer' small small' each d k = by (far N d)
  where
    by : (p : Bool) → Nearly (onward m) c (cond p b (moved Spline (3 * N) d (framed N b x) (N + k))) (cond p (b +ℤ c) (moved Spline (3 * N) d (framed N (b +ℤ c) y) (N + k)))
    by true = more m b c hm
    by false =
        moved_nearly {x = framed N b x} {y = framed N (b +ℤ c) y} c m (omega arith) (λ i l. framed_every (Within (pos 294912)) {x = x} outer small i)
        (λ i l. framed_every (Within (pos 294912)) {x = y} outer' small' i)
        (λ i l. framed_both (Nearly m c) {N = N} {b = b} {b' = b +ℤ c} {x = x} {y = y} (none m b c hm) each i) d (N + k)

-- of a list
pub move_in_nearly : (c : ℤ) (β : Border) (d : ℤ) (s t : List ℤ) → length t ≡ length s → nat_abs (grey β) ≤ 32767 → nat_abs (grey (raised c β)) ≤ 32767
    → ((k : ℕ) → k < length s → nat_abs (line s k) ≤ 294912) → ((k : ℕ) → k < length s → nat_abs (line t k) ≤ 294912) → Raised c (length s) s t
    → RaisedWithin 1 c (length s) (move_in β Spline d s) (move_in (raised c β) Spline d t)
move_in_nearly c β d s t e plain plain' small small' each k l =
    within_size _ 1 (subst₂ (Nearly (pos 1) c) (sym (move_in_at β Spline d s k l))
    (sym (move_in_at (raised c β) Spline d t k (omega arith) ∙ ap (λ (n : ℕ). bordered (raised c β) Spline n d (line t) k) e))
    (bordered_nearly β c (pos 0) (omega arith) (le_z_yes tt) (size_within (grey β) 294912 (omega arith)) (size_within (grey (raised c β)) 294912 (omega arith))
    (λ k l. size_within (line s k) 294912 (small k l)) (λ k l. size_within (line t k) 294912 (small' k l)) (λ k l. nearly_equal (line s k) (line t k) c (each k l)) d k))
