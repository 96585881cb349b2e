-- Every periodic line of fractions has exact coefficients, over one denominator for each length N.
-- c(k+2) = 6·s(k+1) - 4·c(k+1) - c(k) gives a sequence from its two first places a and b. It is Q·`grow s 0 0` + a·X + b·Y, with X and Y
-- the sequences of the empty line from 1, 0 and from 0, 1. It closes, c(N) = a and c(N+1) = b, if two linear equations for a and b
-- hold: Cramer's rule solves them. Their determinant is not 0, since a line of zeros has no coefficients but zeros.
-- Assumes nothing.
use mathlib.Core.Path.{◌≡◌, refl, sym, ap, ap₂, ◌∙◌}
use Prim.Native.Nat.{ℕ, zero, suc, ◌+◌, ◌<◌}
use native.Mathlib.Nat.{suc-add, zero-add}
use native.Mathlib.Omega.{arith}
use lib.IntN.{ℤ, pos, negsuc, ◌+ℤ◌, ◌-ℤ◌, ◌*ℤ◌}
use lib.Signed.{◌<ℤ◌, le_z_yes}
use Rattle.arith.proofs.Bridge.{bridge, all1, all3, all6}
use Rattle.arith.proofs.Ring.{nlit, ring, reify, vars3, vars4, vars5, vars6}
use Rattle.arith.proofs.Cert.{equal, ◌⊙◌}
use Rattle.arith.proofs.Laws.{*ℤ_positive}
use Rattle.lists.specs.Line.{Line, Periodic}
use Rattle.arith.proofs.Within.{Within}
use Rattle.spline.specs.Exact.{smooth, smoothed, Coefficients, Solution}
use Rattle.spline.proofs.Exact.{coefficients_bound}

-- ---- the sequence from a and b
unfoldable pub grow : Line → ℤ → ℤ → Line
grow s a b zero = a
grow s a b (suc zero) = b
grow s a b (suc (suc k)) = pos 6 *ℤ s (suc k) -ℤ pos 4 *ℤ grow s a b (suc k) -ℤ grow s a b k

abbrev empty : Line
empty k = pos 0

abbrev pub X : Line
X = grow empty (pos 1) (pos 0)

abbrev pub Y : Line
Y = grow empty (pos 0) (pos 1)

grow_smoothed : (s : Line) (a b : ℤ) (k : ℕ) → smoothed (grow s a b) k ≡ pos 6 *ℤ s (suc k)
unfolding grow
grow_smoothed s a b k = next (grow s a b k) (grow s a b (suc k)) (pos 6 *ℤ s (suc k))
  where
    next : (x y z : ℤ) → smooth x y (z -ℤ pos 4 *ℤ y -ℤ x) ≡ z
    next = all3 _ (simp bridge (omega arith))

-- two sequences that are smoothed to one, and start alike, are one
agree : (f g : Line) → ((k : ℕ) → smoothed f k ≡ smoothed g k) → f 0 ≡ g 0 → f 1 ≡ g 1 → (k : ℕ) → f k ≡ g k
agree f g e e₀ e₁ zero = e₀
agree f g e e₀ e₁ (suc zero) = e₁
agree f g e e₀ e₁ (suc (suc k)) = last (f k) (g k) (f (suc k)) (g (suc k)) (f (suc (suc k))) (g (suc (suc k))) (agree f g e e₀ e₁ k) (agree f g e e₀ e₁ (suc k)) (e k)
  where
    last : (x x' y y' z z' : ℤ) → x ≡ x' → y ≡ y' → smooth x y z ≡ smooth x' y' z' → z ≡ z'
    last = all6 _ (simp bridge (omega arith))

-- ---- Q times the line's own sequence, closed by a and b
unfoldable pub joint : Line → ℤ → ℤ → ℤ → Line
joint s Q a b k = Q *ℤ grow s (pos 0) (pos 0) k +ℤ a *ℤ X k +ℤ b *ℤ Y k

smoothed-add : (f g : Line) (k : ℕ) → smoothed (λ k. f k +ℤ g k) k ≡ smoothed f k +ℤ smoothed g k
smoothed-add f g k = add (f k) (g k) (f (suc k)) (g (suc k)) (f (suc (suc k))) (g (suc (suc k)))
  where
    add : (x x' y y' z z' : ℤ) → smooth (x +ℤ x') (y +ℤ y') (z +ℤ z') ≡ smooth x y z +ℤ smooth x' y' z'
    add = all6 _ (simp bridge (omega arith))

smoothed_times : (c : ℤ) (f : Line) (k : ℕ) → smoothed (λ k. c *ℤ f k) k ≡ c *ℤ smoothed f k
smoothed_times c f k = times c (f k) (f (suc k)) (f (suc (suc k)))
  where
    times : (c x y z : ℤ) → smooth (c *ℤ x) (c *ℤ y) (c *ℤ z) ≡ c *ℤ smooth x y z
    times = vars4 _ (simp reify (λ ρ. ring tt))

joint_smoothed : (s : Line) (Q a b : ℤ) (k : ℕ) → smoothed (joint s Q a b) k ≡ pos 6 *ℤ s (suc k) *ℤ Q
unfolding joint
joint_smoothed s Q a b k =
    smoothed-add (λ k. Q *ℤ p k +ℤ a *ℤ X k) (λ k. b *ℤ Y k) k ∙ ap₂ ◌+ℤ◌ (smoothed-add (λ k. Q *ℤ p k) (λ k. a *ℤ X k) k ∙ ap₂ ◌+ℤ◌ (part Q p k
    (grow_smoothed s (pos 0) (pos 0) k)) (part a X k (grow_smoothed empty (pos 1) (pos 0) k))) (part b Y k (grow_smoothed empty (pos 0) (pos 1) k))
    ∙ total Q (s (suc k)) a b
  where
    p : Line
    p = grow s (pos 0) (pos 0)

    part : (c : ℤ) (f : Line) (k : ℕ) {t : ℤ} → smoothed f k ≡ t → smoothed (λ k. c *ℤ f k) k ≡ c *ℤ t
    part c f k e = smoothed_times c f k ∙ ap (λ t. c *ℤ t) e

    total : (Q s a b : ℤ) → Q *ℤ (pos 6 *ℤ s) +ℤ a *ℤ (pos 6 *ℤ pos 0) +ℤ b *ℤ (pos 6 *ℤ pos 0) ≡ pos 6 *ℤ s *ℤ Q
    total = vars4 _ (simp reify (λ ρ. ring tt))

joint_first : (s : Line) (Q a b : ℤ) → joint s Q a b 0 ≡ a
unfolding joint grow
joint_first s = all3 _ (simp bridge (omega arith))

joint_second : (s : Line) (Q a b : ℤ) → joint s Q a b 1 ≡ b
unfolding joint grow
joint_second s = all3 _ (simp bridge (omega arith))

closed : {N : ℕ} {s : Line} (Q a b : ℤ) → Periodic N s → joint s Q a b N ≡ a → joint s Q a b (suc N) ≡ b → Periodic N (joint s Q a b)
closed {N} {s} Q a b p e₀ e₁ =
    record {
      again = agree (λ k. C (k + N)) C same (ap C (zero-add N) ∙ e₀ ∙ sym (joint_first s Q a b)) (ap C (suc-add 0 N ∙ ap suc (zero-add N)) ∙ e₁
          ∙ sym (joint_second s Q a b));
    }
  where
    C : Line
    C = joint s Q a b

    same : (k : ℕ) → smoothed (λ k. C (k + N)) k ≡ smoothed C k
    same k =
        rw (suc-add (suc k) N, suc-add k N) (joint_smoothed s Q a b (k + N) ∙ ap (λ t. pos 6 *ℤ t *ℤ Q) (ap s (sym (suc-add k N)) ∙ p.again (suc k))
        ∙ sym (joint_smoothed s Q a b k))

-- ---- the equations' determinant: (X(N) - 1)·a + Y(N)·b = -Q·p(N), X(N+1)·a + (Y(N+1) - 1)·b = -Q·p(N+1)
unfoldable pub determinant : ℕ → ℤ
determinant N = (X N -ℤ pos 1) *ℤ (Y (suc N) -ℤ pos 1) -ℤ Y N *ℤ X (suc N)

-- a closed sequence of the empty line is empty
empty_start : {N : ℕ} (a b : ℤ) → 0 < N → joint empty (pos 0) a b N ≡ a → joint empty (pos 0) a b (suc N) ≡ b → (a ≡ pos 0) × (b ≡ pos 0)
empty_start {N} a b h e₀ e₁ = (sym (joint_first empty (pos 0) a b) ∙ vanishes 0, sym (joint_second empty (pos 0) a b) ∙ vanishes 1)
  where
    C : Line
    C = joint empty (pos 0) a b

    coefficients : Coefficients empty (pos 1) C (pos 1)
    coefficients = record { solves = λ k. ap (λ t. t *ℤ pos 1) (joint_smoothed empty (pos 0) a b k) }

    none : (x : ℤ) → Within (pos 3 *ℤ pos 0 *ℤ pos 1) (x *ℤ pos 1) → x ≡ pos 0
    none = all1 _ (simp bridge (omega arith))

    vanishes : (k : ℕ) → C k ≡ pos 0
    vanishes k =
        none (C k) (coefficients_bound (pos 0) h (closed (pos 0) a b (record { again = λ k. refl }) e₀ e₁) (le_z_yes tt) (le_z_yes tt) coefficients
        (λ k. (le_z_yes tt, le_z_yes tt)) k)

-- were it 0, (Y(N), 1 - X(N)) and (1 - Y(N+1), X(N+1)) would close the empty line, so the equations' matrix would be 0, and (1, 0) would too
determinant_nonzero : (N : ℕ) → 0 < N → ¬ (determinant N ≡ pos 0)
unfolding determinant joint
determinant_nonzero N h e = impossible (empty_start (pos 1) (pos 0) h (one (p N) (X N) (Y N) left.1) (zeros (p (suc N)) (X (suc N)) (Y (suc N)) right.1)).0
  where
    p : Line
    p = grow empty (pos 0) (pos 0)

    row₁ : (p x y : ℤ) → pos 0 *ℤ p +ℤ y *ℤ x +ℤ (pos 1 -ℤ x) *ℤ y ≡ y
    row₁ = vars3 _ (simp reify (λ ρ. ring tt))

    row₂ : (p x y x' y' : ℤ) → (x -ℤ pos 1) *ℤ (y' -ℤ pos 1) -ℤ y *ℤ x' ≡ pos 0 → pos 0 *ℤ p +ℤ y *ℤ x' +ℤ (pos 1 -ℤ x) *ℤ y' ≡ pos 1 -ℤ x
    row₂ = vars5 _ (simp reify (λ ρ e. equal (nlit 0 ⊙ e) tt))

    row₃ : (p x y x' y' : ℤ) → (x -ℤ pos 1) *ℤ (y' -ℤ pos 1) -ℤ y *ℤ x' ≡ pos 0 → pos 0 *ℤ p +ℤ (pos 1 -ℤ y') *ℤ x +ℤ x' *ℤ y ≡ pos 1 -ℤ y'
    row₃ = vars5 _ (simp reify (λ ρ e. equal (nlit 0 ⊙ e) tt))

    row₄ : (p x y : ℤ) → pos 0 *ℤ p +ℤ (pos 1 -ℤ y) *ℤ x +ℤ x *ℤ y ≡ x
    row₄ = vars3 _ (simp reify (λ ρ. ring tt))

    left : (Y N ≡ pos 0) × (pos 1 -ℤ X N ≡ pos 0)
    left = empty_start (Y N) (pos 1 -ℤ X N) h (row₁ (p N) (X N) (Y N)) (row₂ (p (suc N)) (X N) (Y N) (X (suc N)) (Y (suc N)) e)

    right : (pos 1 -ℤ Y (suc N) ≡ pos 0) × (X (suc N) ≡ pos 0)
    right = empty_start (pos 1 -ℤ Y (suc N)) (X (suc N)) h (row₃ (p N) (X N) (Y N) (X (suc N)) (Y (suc N)) e) (row₄ (p (suc N)) (X (suc N)) (Y (suc N)))

    one : (p x y : ℤ) → pos 1 -ℤ x ≡ pos 0 → pos 0 *ℤ p +ℤ pos 1 *ℤ x +ℤ pos 0 *ℤ y ≡ pos 1
    one = all3 _ (simp bridge (omega arith))

    zeros : (p x y : ℤ) → x ≡ pos 0 → pos 0 *ℤ p +ℤ pos 1 *ℤ x +ℤ pos 0 *ℤ y ≡ pos 0
    zeros = all3 _ (simp bridge (omega arith))

    impossible : pos 1 ≡ pos 0 → ⊥
    impossible = simp bridge (omega arith)

-- ---- the coefficients, over the determinant's square
unfoldable pub denominator : ℕ → ℤ
denominator N = determinant N *ℤ determinant N

pub denominator_positive : (N : ℕ) → 0 < N → pos 0 <ℤ denominator N
unfolding denominator
denominator_positive N h = square (determinant N) (determinant_nonzero N h)
  where
    above : (n : ℕ) → pos 0 <ℤ pos (suc n)
    above = simp bridge (omega arith)

    square : (x : ℤ) → ¬ (x ≡ pos 0) → pos 0 <ℤ (x *ℤ x)
    square (pos zero) n = absurd (n refl)
    square (pos (suc n)) _ = *ℤ_positive (pos (suc n)) (pos (suc n)) (above n) (above n)
    square (negsuc n) _ = *ℤ_positive (pos (suc n)) (pos (suc n)) (above n) (above n)

-- by Cramer's rule, times the determinant
abbrev start₀ : ℕ → Line → ℤ
start₀ N s = let p = grow s (pos 0) (pos 0) in determinant N *ℤ (p (suc N) *ℤ Y N -ℤ p N *ℤ (Y (suc N) -ℤ pos 1))

abbrev start₁ : ℕ → Line → ℤ
start₁ N s = let p = grow s (pos 0) (pos 0) in determinant N *ℤ (X (suc N) *ℤ p N -ℤ (X N -ℤ pos 1) *ℤ p (suc N))

unfoldable pub exact : ℕ → Line → Line
exact N s = joint s (denominator N) (start₀ N s) (start₁ N s)

exact_periodic : (N : ℕ) (s : Line) → Periodic N s → Periodic N (exact N s)
unfolding exact denominator determinant joint
exact_periodic N s p =
    closed (denominator N) (start₀ N s) (start₁ N s) p (row₁ (X N) (Y N) (X (suc N)) (Y (suc N)) (q N) (q (suc N))) (row₂ (X N) (Y N) (X (suc N)) (Y
    (suc N)) (q N) (q (suc N)))
  where
    q : Line
    q = grow s (pos 0) (pos 0)

    row₁ : (x y x' y' p p' : ℤ)
        → let d = (x -ℤ pos 1) *ℤ (y' -ℤ pos 1) -ℤ y *ℤ x' in d *ℤ d *ℤ p +ℤ d *ℤ (p' *ℤ y -ℤ p *ℤ (y' -ℤ pos 1)) *ℤ x +ℤ d *ℤ (x' *ℤ p -ℤ (x -ℤ pos 1) *ℤ p') *ℤ y ≡ d *ℤ (p' *ℤ y -ℤ p *ℤ (y' -ℤ pos 1))
    row₁ = vars6 _ (simp reify (λ ρ. ring tt))

    row₂ : (x y x' y' p p' : ℤ)
        → let d = (x -ℤ pos 1) *ℤ (y' -ℤ pos 1) -ℤ y *ℤ x' in d *ℤ d *ℤ p' +ℤ d *ℤ (p' *ℤ y -ℤ p *ℤ (y' -ℤ pos 1)) *ℤ x' +ℤ d *ℤ (x' *ℤ p -ℤ (x -ℤ pos 1) *ℤ p') *ℤ y' ≡ d *ℤ (x' *ℤ p -ℤ (x -ℤ pos 1) *ℤ p')
    row₂ = vars6 _ (simp reify (λ ρ. ring tt))

-- of S/q they stand over q·`denominator N`
pub exact_solution : {N : ℕ} {S : Line} (q : ℤ) → 0 < N → pos 0 <ℤ q → Periodic N S → Solution N S q (exact N S) (denominator N *ℤ q)
unfolding exact
exact_solution {N} {S} q h hq p = record {
  positive = *ℤ_positive (denominator N) q (denominator_positive N h) hq;
  periodic = exact_periodic N S p;
  coefficients = record { solves = λ k. ap (λ t. t *ℤ q) (joint_smoothed S (denominator N) (start₀ N S) (start₁ N S) k) ∙ turn (S (suc k)) (denominator N) q };
}
  where
    turn : (s Q q : ℤ) → pos 6 *ℤ s *ℤ Q *ℤ q ≡ pos 6 *ℤ s *ℤ (Q *ℤ q)
    turn = vars3 _ (simp reify (λ ρ. ring tt))
