-- The window that slides along a line while it is weighed in place, for every line of one place or more. Assumes nothing.
use mathlib.Core.Path.{◌≡◌, sym, ap, ◌∙◌}
use mathlib.Core.List.{List}
use Prim.Native.Nat.{ℕ, ◌+◌, ◌*◌, ◌-◌, ◌≤◌, ◌<◌}
use native.Mathlib.Omega.{arith}
use lib.Dec.{lit<}
use lib.IntN.{ℤ, pos, nat_abs, ◌+ℤ◌, ◌*ℤ◌}
use lib.ListN.{length, get_or}
use Rattle.arith.proofs.Ring.{var, reify, vars7}
use Rattle.arith.proofs.Cert.{equal, ◌⊙◌, ◌⊜◌}
use Rattle.arith.proofs.Round.{round-scale}
use Rattle.arith.specs.Whole.{round}
use Rattle.lists.specs.Line.{wrap, line}
use Rattle.lists.proofs.Cyclic.{wrap_own, wrap_periodic, wrap_every, periods}
use Rattle.lists.proofs.Tab.{Filled, fill_end}
use Rattle.kernels.specs.declared.Kernel.{Kernel}
use Rattle.kernels.specs.declared.Kernel.TheVariants.{Linear}
use Rattle.kernels.specs.Kernel.{weight}
use Rattle.kernels.specs.Four.{four_weights, weighted_sum}
use Rattle.kernels.proofs.Four.{weigh_four}
use Rattle.moves.specs.declared.TwoWeights.{TwoWeights}
use Rattle.moves.specs.Move.{divisor}
use Rattle.moves.specs.InPlace.{Middle, near, weighed_at, weighed}

-- ---- where the four places lie: j - 1 + i is place k, m lines on
pub near_is : (s : List ℤ) (j i k m : ℕ) → j + (length s - 1) + i ≡ k + length s * m → k < length s → near s j i ≡ get_or s k (pos 0)
unfolding near
near_is s j i k m e h = ap (wrap (length s) (line s)) e ∙ periods (wrap_periodic (length s) (line s)) m k ∙ wrap_own (length s) (line s) k h

-- one place on
pub near_next : (s : List ℤ) (j i : ℕ) → near s j (i + 1) ≡ near s (j + 1) i
unfolding near
near_next s j i = ap (wrap (length s) (line s)) (on (length s) j i)
  where
    on : (n j i : ℕ) → j + (n - 1) + (i + 1) ≡ j + 1 + (n - 1) + i
    on n j i = omega arith

module _ (M : ℕ) (s : List ℤ) (some : 0 < length s) (each : (k : ℕ) → k < length s → nat_abs (get_or s k (pos 0)) ≤ M) where
  pub near_size : (j i : ℕ) → nat_abs (near s j i) ≤ M
  unfolding near
  near_size j i = wrap_every (λ x. nat_abs x ≤ M) some each (j + (length s - 1) + i)

-- ---- the first three of them
pub record Window (s : List ℤ) (j : ℕ) (a b c : ℤ) : Type 0 where
  pub back : a ≡ near s j 0
  pub here : b ≡ near s j 1
  pub next : c ≡ near s j 2

pub window_next : (s : List ℤ) (j : ℕ) (a b c e : ℤ) → Window s j a b c → e ≡ near s j 3 → Window s (j + 1) b c e
window_next s j a b c e w x = record { back = w.here ∙ near_next s j 0; here = w.next ∙ near_next s j 1; next = x ∙ near_next s j 2 }

-- where a line of two places or more begins
pub window_start : (s : List ℤ) (a b c : ℤ) → 1 < length s → a ≡ get_or s (length s - 1) (pos 0)
    → b ≡ get_or s 0 (pos 0) → c ≡ get_or s 1 (pos 0) → Window s 0 a b c
window_start s a b c h ea eb ec =
    record {
      back = ea ∙ sym (near_is s 0 0 (length s - 1) 0 (omega arith) (omega arith));
      here = eb ∙ sym (near_is s 0 1 0 1 (omega arith) (omega arith));
      next = ec ∙ sym (near_is s 0 2 1 1 (omega arith) (omega arith));
    }

-- a line of one place
pub window_one : (s : List ℤ) (a : ℤ) → length s ≡ 1 → a ≡ get_or s 0 (pos 0) → Window s 0 a a a
window_one s a h e =
    record {
      back = e ∙ sym (near_is s 0 0 0 0 (omega arith) (omega arith));
      here = e ∙ sym (near_is s 0 1 0 1 (omega arith) (omega arith));
      next = e ∙ sym (near_is s 0 2 0 2 (omega arith) (omega arith));
    }

-- ---- what stands at j in the end
pub weighed_four : (κ : Kernel) (f : ℤ) (s : List ℤ) (j : ℕ) (a b c e r : ℤ) → Window s j a b c → e ≡ near s j 3
    → r ≡ round (weighted_sum (four_weights κ f) a b c e) (divisor κ) → r ≡ weighed_at κ f s j
unfolding weighed_at
weighed_four κ f s j a b c e r w x h = h ∙ rw (w.back, w.here, w.next, x) (ap (λ p. round p (divisor κ)) (sym (weigh_four κ f (near s j))))

-- linear: the outer two weights are 0, and D² cancels from the middle two and the divisor
linear_sum : (x a b y f p q : ℤ) → weight Linear f 1 ≡ pos 16777216 *ℤ p → weight Linear f 2 ≡ pos 16777216 *ℤ q
    → weighted_sum (four_weights Linear f) x a b y ≡ pos 16777216 *ℤ (a *ℤ p +ℤ b *ℤ q)
unfolding weighted_sum
linear_sum = vars7 _ (simp reify (λ ρ e e'. equal (var 1 ⊙ e ⊜ var 2 ⊙ e') tt))

pub weighed_linear : (f : ℤ) (s : List ℤ) (j : ℕ) (a b r : ℤ) (w : TwoWeights) → Middle f w → a ≡ near s j 1 → b ≡ near s j 2
    → r ≡ round (a *ℤ w.here +ℤ b *ℤ w.next) 4096 → r ≡ weighed_at Linear f s j
unfolding weighed_at
weighed_linear f s j a b r w m ea eb h =
    h ∙ sym (round-scale 16777216 (a *ℤ w.here +ℤ b *ℤ w.next) 4096 (lit< tt) (lit< tt))
    ∙ ap (λ p. round p 68719476736)
    (sym (linear_sum (near s j 0) a b (near s j 3) f w.here w.next m.first m.second) ∙ rw (ea, eb) (sym (weigh_four Linear f (near s j))))

-- all places weighed
pub weighed_end : (κ : Kernel) (f : ℤ) (s t : List ℤ) (j : ℕ) → Filled (weighed_at κ f s) s j t → j ≡ length s → t ≡ weighed κ f s
unfolding weighed
weighed_end κ f s t j h e = rw (← e) (fill_end (weighed_at κ f s) s j t h (omega arith))
