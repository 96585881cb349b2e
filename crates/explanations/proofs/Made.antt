-- The parts of a sample: they are those of the move, and they add up. Assumes nothing.
use mathlib.Core.Path.{◌≡◌, refl, sym, ap, ◌∙◌, fun_ext}
use mathlib.Core.List.{List, [], ◌∷◌, map}
use Prim.Native.Nat.{ℕ, zero, suc, ◌*◌, ◌≤◌, ◌<◌}
use native.Mathlib.Omega.{arith}
use lib.IntN.{ℤ, pos, negsuc, nat_abs, ◌+ℤ◌, ◌-ℤ◌, ◌*ℤ◌}
use lib.ListN.{length, take}
use lib.Seq.{get_or-take}
use Rattle.arith.specs.Whole.{floor, remainder, round}
use Rattle.arith.specs.Move.{fraction, whole}
use Rattle.arith.specs.Sum.{Σ}
use Rattle.arith.proofs.Round.{remainder_is}
use Rattle.lists.specs.Tab.{tab}
use Rattle.lists.specs.Line.{Line, wrap, line}
use Rattle.lists.proofs.Tab.{tab_at}
use Rattle.settings.specs.declared.Border.TheVariants.{Wrapped}
use Rattle.kernels.specs.declared.Kernel.{Kernel}
use Rattle.kernels.specs.declared.Kernel.TheVariants.{Linear, Keys, Spline}
use Rattle.kernels.specs.Kernel.{kernel_of, weight, weigh, norm, D³}
use Rattle.kernels.proofs.Weights.{weights_sum}
use Rattle.spline.specs.Coefficients.{filter, run, u, down, back, v, scaled, coefficient}
use Rattle.moves.specs.Move.{mixed, source, divisor, moved}
use Rattle.moves.specs.Border.{bordered, move_in}
use Rattle.moves.specs.InPlace.{prepared}
use Rattle.moves.proofs.Rules.{place_is}
use Rattle.explanations.specs.declared.Term.{Term}
use Rattle.explanations.specs.declared.Parts.{Parts}
use Rattle.explanations.specs.Made.{place_of, value_of, term_by, parts_by, parts_of, no_term}
use Rattle.explanations.specs.Answer.{source_of, term, Shown}

-- ---- the divisors, and the parts of three samples, worked out by the checker
-- D³, 2·D³ and 16·6·D³, whatever is weighed
divisors : map (λ κ. (parts_of κ 1 (pos 0) 0 (λ j. pos 0)).divisor) (Linear ∷ Keys ∷ Spline ∷ []) ≡ pos 68719476736 ∷ pos 137438953472 ∷ pos 6597069766656 ∷ []
unfolding parts_by
divisors = refl

-- of sample k of a line, moved by d under a kernel
abbrev parts_at : ℕ → ℤ → ℕ → List ℤ → Parts
parts_at kernel d k s = parts_of (kernel_of kernel) (length s) d k (source_of (length s) kernel s)

-- document 01's line 0 0 16 0, moved by half a sample under Keys, has -1 at place 3: from the places 2, 3, 0 and 1, taken modulo 4
keys_overshoot :
    parts_at 1 (negsuc 2047) 3 (pos 0 ∷ pos 0 ∷ pos 16 ∷ pos 0 ∷ [])
    ≡ record {
      terms =
          term_by 2 (negsuc 8589934591) (pos 16)
          ∷ term_by 3 (pos 77309411328) (pos 0)
          ∷ term_by 0 (pos 77309411328) (pos 0)
          ∷ term_by 1 (negsuc 8589934591) (pos 0)
          ∷ [];
      sum = negsuc 137438953471;
      divisor = pos 137438953472;
      quotient = negsuc 0;
    }
unfolding parts_by place_of source remainder floor round fraction whole tab weigh Σ
keys_overshoot = refl

-- 0 -1 by half a sample under linear: -1/2 becomes 0, a half upward
linear_half :
    parts_at 0 (pos 2048) 0 (pos 0 ∷ negsuc 0 ∷ [])
    ≡ record {
      terms = term_by 0 (pos 0) (pos 0) ∷ term_by 1 (pos 34359738368) (negsuc 0) ∷ term_by 0 (pos 34359738368) (pos 0) ∷ term_by 1 (pos 0) (negsuc 0) ∷ [];
      sum = negsuc 34359738367;
      divisor = pos 68719476736;
      quotient = pos 0;
    }
unfolding parts_by place_of source remainder floor round fraction whole tab weigh Σ
linear_half = refl

-- 0 6 by half a sample under the spline: coefficients, in sixteenths of a unit, over 16·6·D³
spline_coefficients :
    parts_at 2 (pos 2048) 0 (pos 0 ∷ pos 6 ∷ [])
    ≡ record {
      terms =
          term_by 0 (pos 8589934592) (negsuc 95)
          ∷ term_by 1 (pos 197568495616) (pos 193)
          ∷ term_by 0 (pos 197568495616) (negsuc 95)
          ∷ term_by 1 (pos 8589934592) (pos 193)
          ∷ [];
      sum = pos 19997367730176;
      divisor = pos 6597069766656;
      quotient = pos 3;
    }
unfolding parts_by place_of source coefficient scaled v back down filter u run wrap remainder floor round fraction whole tab weigh Σ
spline_coefficients = refl

-- ---- every source place is on the line
pub place_inside : (N : ℕ) (d : ℤ) (k i : ℕ) → 0 < N → place_of N d k i < N
unfolding place_of
place_inside N d k i h = (remainder_is (pos k +ℤ whole d -ℤ pos 1 +ℤ pos i) N h).1

-- ---- the parts from their figures
module _ (κ : Kernel) (N : ℕ) (d : ℤ) (k : ℕ) (x : Line) where
  abbrev pub term_of : ℕ → Term
  term_of i = term_by (place_of N d k i) (weight κ (pos (fraction d)) i) (value_of N d k x i)

  abbrev pub sum_of : ℤ
  sum_of = weigh κ (pos (fraction d)) (value_of N d k x)

  pub parts_are : {a b c e : Term} {sum over q : ℤ} → a ≡ term_of 0 → b ≡ term_of 1 → c ≡ term_of 2 → e ≡ term_of 3 → sum ≡ sum_of → over ≡ pos (divisor κ)
      → q ≡ round sum_of (divisor κ) → record { terms = a ∷ b ∷ c ∷ e ∷ []; sum = sum; divisor = over; quotient = q } ≡ parts_of κ N d k x
  unfolding parts_by tab
  parts_are ea eb ec ee es eo eq = rw (ea, eb, ec, ee, es, eo, eq) refl

-- ---- a line's own places alone decide its parts; so a line that was prepared in place has those of what its kernel weighs
pub parts_local : (κ : Kernel) (N : ℕ) (d : ℤ) (k : ℕ) (x y : Line) → 0 < N → ((j : ℕ) → j < N → x j ≡ y j) → parts_of κ N d k x ≡ parts_of κ N d k y
parts_local κ N d k x y h same = ap (parts_by κ N d k) (fun_ext (λ i. same (place_of N d k i) (place_inside N d k i h)))

pub prepared_parts : (κ : Kernel) (d : ℤ) (k : ℕ) (s : List ℤ) → 0 < length s
    → parts_of κ (length s) d k (line (prepared κ s)) ≡ parts_of κ (length s) d k (source κ (length s) (line s))
unfolding prepared
prepared_parts κ d k s h =
    parts_local κ (length s) d k (line (tab (source κ (length s) (line s)) (length s))) (source κ (length s) (line s)) h
    (λ j l. tab_at (source κ (length s) (line s)) (length s) j (pos 0) l)

-- ---- the sum is document 01's for output k, and so the quotient is the sample at k of the moved line
pub sum-mixed : (κ : Kernel) (N : ℕ) (d : ℤ) (k : ℕ) (x : Line) → 0 < N → (parts_of κ N d k x).sum ≡ mixed κ N d (wrap N x) k
unfolding parts_by mixed wrap place_of
sum-mixed κ N d k x h = ap (weigh κ (pos (fraction d))) (fun_ext (λ i. ap x (place_is N d k i h)))

pub quotient_moved : (κ : Kernel) (d : ℤ) (k : ℕ) (s : List ℤ) → k < length s
    → (parts_of κ (length s) d k (source κ (length s) (line s))).quotient ≡ line (move_in Wrapped κ d s) k
unfolding parts_by moved move_in bordered
quotient_moved κ d k s l =
    ap (λ p. round p (divisor κ)) (sum-mixed κ (length s) d k (source κ (length s) (line s)) (omega arith))
    ∙ sym (tab_at (bordered Wrapped κ (length s) d (line s)) (length s) k (pos 0) l)

-- ---- what is shown of them
-- what kernels 0 and 1 weigh, and what kernel 2 does
samples_of : (n kernel : ℕ) (s : List ℤ) → kernel ≤ 1 → source_of n kernel s ≡ line (take n s)
unfolding source
samples_of n zero s h = refl
samples_of n (suc zero) s h = refl
samples_of n (suc (suc kernel)) s h = absurd (omega arith)

coefficients_of : (n kernel : ℕ) (s : List ℤ) → kernel ≡ 2 → source_of n kernel s ≡ coefficient n (line (take n s))
unfolding source
coefficients_of n kernel s h = rw h refl

module _ (n kernel : ℕ) (d : ℤ) (k : ℕ) (s : List ℤ) (some : 0 < n) where
  abbrev κ : Kernel
  κ = kernel_of kernel

  abbrev x : Line
  x = source_of n kernel s

  abbrev parts : Parts
  parts = parts_of κ n d k x

  shown_term : (i : ℕ) → i < 4 → term parts i ≡ term_of κ n d k x i
  unfolding parts_by
  shown_term i l = tab_at (term_of κ n d k x) 4 i no_term l

  shown_inside : (i : ℕ) → i < 4 → (term parts i).place < n
  shown_inside i l = rw (shown_term i l) (place_inside n d k i some)

  shown_value : (i : ℕ) → i < 4 → (term parts i).value ≡ x (term parts i).place
  shown_value i l = rw (shown_term i l) refl

  shown_product : (i : ℕ) → i < 4 → (term parts i).product ≡ (term parts i).weight *ℤ (term parts i).value
  shown_product i l = rw (shown_term i l) refl

  shown_sum : parts.sum ≡ Σ (λ i. (term parts i).product) 4
  unfolding parts_by weigh tab Σ
  shown_sum = refl

  shown_divisor : parts.divisor ≡ pos (divisor κ)
  unfolding parts_by
  shown_divisor = refl

  shown_quotient : parts.quotient ≡ round parts.sum (nat_abs parts.divisor)
  unfolding parts_by
  shown_quotient = refl

  shown_weights : Σ (λ i. (term parts i).weight) 4 ≡ pos (norm κ * D³)
  unfolding parts_by tab Σ
  shown_weights = weights_sum κ (pos (fraction d))

  pub parts_shown : Shown n kernel s parts
  parts_shown =
      record {
        inside = shown_inside;
        sample = λ few i l. shown_value i l ∙ ap (λ (y : Line). y (term parts i).place) (samples_of n kernel s few) ∙ get_or-take n s (term parts i).place (pos 0) (shown_inside i l);
        weighed = λ two i l. shown_value i l ∙ ap (λ (y : Line). y (term parts i).place) (coefficients_of n kernel s two);
        product = shown_product;
        sum = shown_sum;
        over = shown_divisor;
        quotient = shown_quotient;
        weights = shown_weights;
      }
