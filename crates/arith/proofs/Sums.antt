-- Finite sums of integers, Σ f n = f 0 + .. + f (n - 1), and the greatest size among f 0 .. f (n - 1).
-- Assumes nothing.
use mathlib.Core.Path.{◌≡◌, refl, sym, ap, ap₂, ◌∙◌}
use Prim.Native.Nat.{ℕ, zero, suc, ◌+◌, ◌*◌, ◌≤◌, ◌<◌, max}
use native.Mathlib.Nat.{add-zero, add-suc, lt_irrefl, le_trans, le_of_eq, mul-le-mul_left, mul_comm}
use native.Mathlib.Numerals.{add-one}
use native.Mathlib.Decide.{dec_le}
use native.Mathlib.Omega.{arith}
use lib.IntN.{ℤ, pos, neg_ℤ, nat_abs, ◌+ℤ◌, ◌-ℤ◌, ◌*ℤ◌, +ℤ_idr, +ℤ_assoc, *ℤ-zero}
use lib.Signed.{◌≤ℤ◌, ≤ℤ_refl}
use Rattle.arith.specs.Sum.{Σ, max_abs}
use Rattle.arith.proofs.Bridge.{bridge, prod, swap4, *ℤ-+ℤ, all1, all2, all3}
use Rattle.arith.proofs.Laws.{+ℤ_mono, ≤ℤ_trans, ≤ℤ_of_eq, pos-≤ℤ, nat_abs-+ℤ, nat_abs-*ℤ}

-- one more term, as a loop's step has it
pub Σ-add_one : (f : ℕ → ℤ) (n : ℕ) → Σ f (n + 1) ≡ Σ f n +ℤ f n
unfolding Σ
Σ-add_one f n = ap (Σ f) (add-one n)

-- ---- equations
pub Σ_cong : (f g : ℕ → ℤ) (n : ℕ) → ((k : ℕ) → k < n → f k ≡ g k) → Σ f n ≡ Σ g n
unfolding Σ
Σ_cong f g zero h = refl
Σ_cong f g (suc n) h = ap₂ ◌+ℤ◌ (Σ_cong f g n (λ k p. h k (omega arith))) (h n (omega arith))

pub Σ-+ℤ : (f g : ℕ → ℤ) (n : ℕ) → Σ (λ k. f k +ℤ g k) n ≡ Σ f n +ℤ Σ g n
unfolding Σ
Σ-+ℤ f g zero = refl
Σ-+ℤ f g (suc n) = ap (λ t. t +ℤ (f n +ℤ g n)) (Σ-+ℤ f g n) ∙ swap4 (Σ f n) (Σ g n) (f n) (g n)

pub Σ-*ℤ : (c : ℤ) (f : ℕ → ℤ) (n : ℕ) → Σ (λ k. c *ℤ f k) n ≡ c *ℤ Σ f n
unfolding Σ
Σ-*ℤ c f zero = sym (*ℤ-zero c)
Σ-*ℤ c f (suc n) = ap (λ t. t +ℤ c *ℤ f n) (Σ-*ℤ c f n) ∙ sym (*ℤ-+ℤ c (Σ f n) (f n))

pub Σ_neg_ℤ : (f : ℕ → ℤ) (n : ℕ) → Σ (λ k. neg_ℤ (f k)) n ≡ neg_ℤ (Σ f n)
unfolding Σ
Σ_neg_ℤ f zero = refl
Σ_neg_ℤ f (suc n) = ap (λ t. t +ℤ neg_ℤ (f n)) (Σ_neg_ℤ f n) ∙ minus (Σ f n) (f n)
  where
    minus : (a b : ℤ) → neg_ℤ a +ℤ neg_ℤ b ≡ neg_ℤ (a +ℤ b)
    minus = all2 _ (simp bridge (omega arith))

pub Σ--ℤ : (f g : ℕ → ℤ) (n : ℕ) → Σ (λ k. f k -ℤ g k) n ≡ Σ f n -ℤ Σ g n
Σ--ℤ f g n = Σ-+ℤ f (λ k. neg_ℤ (g k)) n ∙ ap (λ t. Σ f n +ℤ t) (Σ_neg_ℤ g n)

pub Σ_const : (c : ℤ) (n : ℕ) → Σ (λ k. c) n ≡ pos n *ℤ c
unfolding Σ
Σ_const c zero = none c
  where
    none : (c : ℤ) → pos 0 ≡ pos 0 *ℤ c
    none = all1 _ (simp bridge (omega arith))
Σ_const c (suc n) = ap (λ t. t +ℤ c) (Σ_const c n) ∙ one_more c n
  where
    one_more : (c : ℤ) (n : ℕ) → pos n *ℤ c +ℤ c ≡ pos (suc n) *ℤ c
    one_more = all1 _ (simp bridge (omega arith))

-- the first m, and the n after them
pub Σ_split : (f : ℕ → ℤ) (m n : ℕ) → Σ f (m + n) ≡ Σ f m +ℤ Σ (λ k. f (m + k)) n
unfolding Σ
Σ_split f m zero = ap (Σ f) (add-zero m) ∙ sym (+ℤ_idr (Σ f m))
Σ_split f m (suc n) = ap (Σ f) (add-suc m n) ∙ ap (λ t. t +ℤ f (m + n)) (Σ_split f m n) ∙ +ℤ_assoc (Σ f m) (Σ (λ k. f (m + k)) n) (f (m + n))

-- differences of neighbours leave the ends
pub Σ_telescope : (f : ℕ → ℤ) (n : ℕ) → Σ (λ k. f (suc k) -ℤ f k) n ≡ f n -ℤ f 0
unfolding Σ
Σ_telescope f zero = cancel (f 0)
  where
    cancel : (a : ℤ) → pos 0 ≡ a -ℤ a
    cancel = all1 _ (simp bridge (omega arith))
Σ_telescope f (suc n) = ap (λ t. t +ℤ (f (suc n) -ℤ f n)) (Σ_telescope f n) ∙ join (f 0) (f n) (f (suc n))
  where
    join : (a b c : ℤ) → (b -ℤ a) +ℤ (c -ℤ b) ≡ c -ℤ a
    join = all3 _ (simp bridge (omega arith))

-- the order of two sums may be swapped
pub Σ-swap : (f : ℕ → ℕ → ℤ) (m n : ℕ) → Σ (λ i. Σ (λ j. f i j) n) m ≡ Σ (λ j. Σ (λ i. f i j) m) n
unfolding Σ
Σ-swap f zero n = sym (Σ_const (pos 0) n ∙ *ℤ-zero (pos n))
Σ-swap f (suc m) n = ap (λ t. t +ℤ Σ (λ j. f m j) n) (Σ-swap f m n) ∙ sym (Σ-+ℤ (λ j. Σ (λ i. f i j) m) (λ j. f m j) n)

-- ---- bounds
pub Σ_mono : (f g : ℕ → ℤ) (n : ℕ) → ((k : ℕ) → k < n → f k ≤ℤ g k) → Σ f n ≤ℤ Σ g n
unfolding Σ
Σ_mono f g zero h = ≤ℤ_refl (pos 0)
Σ_mono f g (suc n) h = +ℤ_mono (Σ_mono f g n (λ k p. h k (omega arith))) (h n (omega arith))

-- the size of a sum, by a bound on each term's size
pub Σ-nat_abs : (f : ℕ → ℤ) (n B : ℕ) → ((k : ℕ) → k < n → nat_abs (f k) ≤ B) → nat_abs (Σ f n) ≤ n * B
unfolding Σ
Σ-nat_abs f zero B h = omega arith
Σ-nat_abs f (suc n) B h = omega (arith, nat_abs-+ℤ (Σ f n) (f n), Σ-nat_abs f n B (λ k p. h k (omega arith)), h n (omega arith))

-- by the sum of the sizes
pub Σ_sizes : (f : ℕ → ℤ) (n : ℕ) → pos (nat_abs (Σ f n)) ≤ℤ Σ (λ k. pos (nat_abs (f k))) n
unfolding Σ
Σ_sizes f zero = ≤ℤ_refl (pos 0)
Σ_sizes f (suc n) = step (Σ f n) (f n) (Σ (λ k. pos (nat_abs (f k))) n) (Σ_sizes f n)
  where
    step : (a b s : ℤ) → pos (nat_abs a) ≤ℤ s → pos (nat_abs (a +ℤ b)) ≤ℤ (s +ℤ pos (nat_abs b))
    step = all3 _ (simp bridge (omega arith))

-- ---- the greatest size
pub max_abs_upper : (f : ℕ → ℤ) (n k : ℕ) → k < n → nat_abs (f k) ≤ max_abs f n
unfolding max_abs
max_abs_upper f zero k h = omega arith
max_abs_upper f (suc n) k h = go (dec_le n k) (max_abs_upper f n k)
  where
    go : Dec (n ≤ k) → (k < n → nat_abs (f k) ≤ max_abs f n) → nat_abs (f k) ≤ max (max_abs f n) (nat_abs (f n))
    go (yes q) earlier = omega (arith, ap (λ i. nat_abs (f i)) (same q))
      where
        same : n ≤ k → n ≡ k
        same q = omega arith
    go (no q) earlier = omega (arith, earlier (omega arith))

pub max_abs_least : (f : ℕ → ℤ) (n B : ℕ) → ((k : ℕ) → k < n → nat_abs (f k) ≤ B) → max_abs f n ≤ B
unfolding max_abs
max_abs_least f zero B h = omega arith
max_abs_least f (suc n) B h = omega (arith, max_abs_least f n B (λ k p. h k (omega arith)), h n (omega arith))

-- it is the size of one of them
pub max_abs_attained : (f : ℕ → ℤ) (n : ℕ) → 0 < n → (k : ℕ) × (k < n) × (nat_abs (f k) ≡ max_abs f n)
unfolding max_abs
max_abs_attained f zero h = absurd (lt_irrefl 0 h)
max_abs_attained f (suc zero) h = (0, omega arith, omega arith)
max_abs_attained f (suc (suc n)) h = go (max_abs_attained f (suc n) (omega arith)) (dec_le (max_abs f (suc n)) (nat_abs (f (suc n))))
  where
    go : (k : ℕ) × (k < suc n) × (nat_abs (f k) ≡ max_abs f (suc n)) → Dec (max_abs f (suc n) ≤ nat_abs (f (suc n)))
        → (k : ℕ) × (k < suc (suc n)) × (nat_abs (f k) ≡ max (max_abs f (suc n)) (nat_abs (f (suc n))))
    go (k, p, e) (yes q) = (suc n, omega arith, omega arith)
    go (k, p, e) (no q) = (k, omega arith, omega arith)

-- ---- weighted sums, as an interpolation has them
-- |Σ w·x| is not above Σ |w| times the greatest |x|
pub Σ_weighted : (w x : ℕ → ℤ) (n : ℕ) → pos (nat_abs (Σ (λ k. w k *ℤ x k) n)) ≤ℤ (pos (max_abs x n) *ℤ Σ (λ k. pos (nat_abs (w k))) n)
Σ_weighted w x n =
    ≤ℤ_trans (Σ_sizes (λ k. w k *ℤ x k) n)
    (≤ℤ_trans (Σ_mono (λ k. pos (nat_abs (w k *ℤ x k))) (λ k. pos (max_abs x n) *ℤ pos (nat_abs (w k))) n each)
    (≤ℤ_of_eq (Σ-*ℤ (pos (max_abs x n)) (λ k. pos (nat_abs (w k))) n)))
  where
    each : (k : ℕ) → k < n → pos (nat_abs (w k *ℤ x k)) ≤ℤ (pos (max_abs x n) *ℤ pos (nat_abs (w k)))
    each k h =
        pos-≤ℤ {n = max_abs x n * nat_abs (w k)}
        (le_trans (le_of_eq (nat_abs-*ℤ (w k) (x k)))
        (le_trans (mul-le-mul_left (nat_abs (w k)) (max_abs_upper x n k h)) (le_of_eq (mul_comm (nat_abs (w k)) (max_abs x n)))))

-- weights that are not negative: bounds on each x are bounds on the mean
pub Σ_mean_upper : (w x : ℕ → ℤ) (B : ℤ) (n : ℕ) → ((k : ℕ) → k < n → pos 0 ≤ℤ w k) → ((k : ℕ) → k < n → x k ≤ℤ B) → Σ (λ k. w k *ℤ x k) n ≤ℤ (B *ℤ Σ w n)
Σ_mean_upper w x B n hw hx = ≤ℤ_trans (Σ_mono (λ k. w k *ℤ x k) (λ k. B *ℤ w k) n (λ k h. times (w k) (x k) B (hw k h) (hx k h))) (≤ℤ_of_eq (Σ-*ℤ B w n))
  where
    times : (w x B : ℤ) → pos 0 ≤ℤ w → x ≤ℤ B → (w *ℤ x) ≤ℤ (B *ℤ w)
    times = all3 _ (simp bridge (λ a b c d e f h k. omega (arith, prod h k)))

pub Σ_mean_lower : (w x : ℕ → ℤ) (B : ℤ) (n : ℕ) → ((k : ℕ) → k < n → pos 0 ≤ℤ w k) → ((k : ℕ) → k < n → B ≤ℤ x k) → (B *ℤ Σ w n) ≤ℤ Σ (λ k. w k *ℤ x k) n
Σ_mean_lower w x B n hw hx = ≤ℤ_trans (≤ℤ_of_eq (sym (Σ-*ℤ B w n))) (Σ_mono (λ k. B *ℤ w k) (λ k. w k *ℤ x k) n (λ k h. times (w k) (x k) B (hw k h) (hx k h)))
  where
    times : (w x B : ℤ) → pos 0 ≤ℤ w → B ≤ℤ x → (B *ℤ w) ≤ℤ (w *ℤ x)
    times = all3 _ (simp bridge (λ a b c d e f h k. omega (arith, prod h k)))
