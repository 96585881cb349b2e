-- Linear arithmetic over ℤ by `omega`, which reads ℕ alone. A statement about integers is proved in one line:
--     name : (x y z : ℤ) → x ≤ℤ y → y <ℤ z → (x +ℤ pos 1) ≤ℤ z
--     name = all3 _ (simp bridge (omega arith))
-- `all3` puts a difference of two naturals, `D a b`, for each variable; `simp bridge` makes of every sum, product, order, size
-- and range of differences one of naturals; and `omega arith` proves what is left. A product of two variables is an unknown
-- to `omega`: hand it a fact about the product, `simp bridge (λ h k. omega (arith, prod h k))`.
-- Assumes nothing.
use mathlib.Core.Path.{◌≡◌, refl, sym, ap, ap₂, ◌∙◌, subst}
use mathlib.Core.Logic.{◌↔◌}
use mathlib.Core.Bool.{Bool, true, false, not, cond}
use Prim.Native.Nat.{ℕ, zero, suc, ◌+◌, ◌*◌, ◌-◌, ◌^◌, ◌≤◌, ◌<◌, min, max}
use native.Mathlib.Nat as NatL
use native.Mathlib.Omega.{arith}
use lib.Dec.{T, ltb, leb→le, le→leb, ltb→lt, lt→ltb, nltb→le}
use lib.IntN.{ℤ, pos, negsuc, neg_ℤ, suc_ℤ, pred_ℤ, nat_abs, ◌+ℤ◌, ◌-ℤ◌, ◌*ℤ◌, +ℤ_idl, +ℤ_idr, +ℤ_assoc, +ℤ_comm, +ℤ_one, -ℤ_one, neg_ℤ-+ℤ, neg_ℤ-neg_ℤ, suc_ℤ-*ℤ, pred_ℤ-*ℤ, *ℤ_comm, zero-*ℤ, ℤ_ind}
use lib.Signed.{◌≤ℤ◌, ◌<ℤ◌, ≤ℤ_refl, le_z, mag}
use mir.Syntax.{Width}
use mir.Val.{SFits, hbits}
use Rattle.arith.specs.Whole.{min_ℤ, max_ℤ}

-- ---- what the library's laws lack to make a ring: the sum moves through the product

pub +ℤ_left_comm : (a b c : ℤ) → a +ℤ (b +ℤ c) ≡ b +ℤ (a +ℤ c)
+ℤ_left_comm a b c = sym (+ℤ_assoc a b c) ∙ ap (λ t. t +ℤ c) (+ℤ_comm a b) ∙ +ℤ_assoc b a c

pub swap4 : (a b c d : ℤ) → (a +ℤ b) +ℤ (c +ℤ d) ≡ (a +ℤ c) +ℤ (b +ℤ d)
swap4 a b c d = +ℤ_assoc a b (c +ℤ d) ∙ ap (λ t. a +ℤ t) (+ℤ_left_comm b c d) ∙ sym (+ℤ_assoc a c (b +ℤ d))

pub *ℤ-+ℤ : (a b c : ℤ) → a *ℤ (b +ℤ c) ≡ a *ℤ b +ℤ a *ℤ c
*ℤ-+ℤ a b c = ℤ_ind (λ n. n *ℤ (b +ℤ c) ≡ n *ℤ b +ℤ n *ℤ c) base up down a
  where
    base : pos zero *ℤ (b +ℤ c) ≡ pos zero *ℤ b +ℤ pos zero *ℤ c
    base = zero-*ℤ (b +ℤ c) ∙ sym (ap₂ ◌+ℤ◌ (zero-*ℤ b) (zero-*ℤ c))

    step : (n : ℤ) → n *ℤ (b +ℤ c) ≡ n *ℤ b +ℤ n *ℤ c → suc_ℤ n *ℤ (b +ℤ c) ≡ suc_ℤ n *ℤ b +ℤ suc_ℤ n *ℤ c
    step n h = suc_ℤ-*ℤ n (b +ℤ c) ∙ ap (λ t. t +ℤ (b +ℤ c)) h ∙ swap4 (n *ℤ b) (n *ℤ c) b c ∙ sym (ap₂ ◌+ℤ◌ (suc_ℤ-*ℤ n b) (suc_ℤ-*ℤ n c))

    back : (n : ℤ) → n *ℤ (b +ℤ c) ≡ n *ℤ b +ℤ n *ℤ c → pred_ℤ n *ℤ (b +ℤ c) ≡ pred_ℤ n *ℤ b +ℤ pred_ℤ n *ℤ c
    back n h = pred_ℤ-*ℤ n (b +ℤ c) ∙ ap₂ ◌+ℤ◌ h (neg_ℤ-+ℤ b c) ∙ swap4 (n *ℤ b) (n *ℤ c) (neg_ℤ b) (neg_ℤ c) ∙ sym (ap₂ ◌+ℤ◌ (pred_ℤ-*ℤ n b) (pred_ℤ-*ℤ n c))

    up : (n : ℕ) → pos n *ℤ (b +ℤ c) ≡ pos n *ℤ b +ℤ pos n *ℤ c
        → (pos n +ℤ pos (suc zero)) *ℤ (b +ℤ c) ≡ (pos n +ℤ pos (suc zero)) *ℤ b +ℤ (pos n +ℤ pos (suc zero)) *ℤ c
    up n h = subst (λ m. m *ℤ (b +ℤ c) ≡ m *ℤ b +ℤ m *ℤ c) (sym (+ℤ_one (pos n))) (step (pos n) h)

    down : (n : ℕ) → neg_ℤ (pos n) *ℤ (b +ℤ c) ≡ neg_ℤ (pos n) *ℤ b +ℤ neg_ℤ (pos n) *ℤ c
        → (neg_ℤ (pos n) +ℤ neg_ℤ (pos (suc zero))) *ℤ (b +ℤ c) ≡ (neg_ℤ (pos n) +ℤ neg_ℤ (pos (suc zero))) *ℤ b +ℤ (neg_ℤ (pos n) +ℤ neg_ℤ (pos (suc zero))) *ℤ c
    down n h = subst (λ m. m *ℤ (b +ℤ c) ≡ m *ℤ b +ℤ m *ℤ c) (sym (-ℤ_one (neg_ℤ (pos n)))) (back (neg_ℤ (pos n)) h)

pub neg_ℤ_*ℤ : (a b : ℤ) → neg_ℤ a *ℤ b ≡ neg_ℤ (a *ℤ b)
neg_ℤ_*ℤ (pos zero) b = zero-*ℤ b ∙ sym (ap neg_ℤ (zero-*ℤ b))
neg_ℤ_*ℤ (pos (suc a)) (pos b) = refl
neg_ℤ_*ℤ (pos (suc a)) (negsuc b) = sym (neg_ℤ-neg_ℤ (pos (suc a * suc b)))
neg_ℤ_*ℤ (negsuc a) (pos b) = sym (neg_ℤ-neg_ℤ (pos (suc a * b)))
neg_ℤ_*ℤ (negsuc a) (negsuc b) = refl

pub *ℤ_neg_ℤ : (a b : ℤ) → a *ℤ neg_ℤ b ≡ neg_ℤ (a *ℤ b)
*ℤ_neg_ℤ a b = *ℤ_comm a (neg_ℤ b) ∙ neg_ℤ_*ℤ b a ∙ ap neg_ℤ (*ℤ_comm b a)

pub +ℤ-*ℤ : (a b c : ℤ) → (a +ℤ b) *ℤ c ≡ a *ℤ c +ℤ b *ℤ c
+ℤ-*ℤ a b c = *ℤ_comm (a +ℤ b) c ∙ *ℤ-+ℤ c a b ∙ ap₂ ◌+ℤ◌ (*ℤ_comm c a) (*ℤ_comm c b)

-- ---- differences. `D a b` is a − b. It is shut, so that `simp` sees no more of it than the laws below

pub D : ℕ → ℕ → ℤ
D a b = pos a -ℤ pos b

pub D_of : (z : ℤ) → (a : ℕ) × (b : ℕ) × (z ≡ D a b)
unfolding D
D_of (pos n) = (n, zero, sym (+ℤ_idr (pos n)))
D_of (negsuc n) = (zero, suc n, sym (+ℤ_idl (negsuc n)))

pub pos-D : (n : ℕ) → pos n ≡ D n 0
unfolding D
pos-D n = sym (+ℤ_idr (pos n))

pub negsuc-D : (n : ℕ) → negsuc n ≡ D 0 (suc n)
unfolding D
negsuc-D n = sym (+ℤ_idl (negsuc n))

-- what `neg_ℤ (pos n)` computes to
pub neg-pos-D : (n : ℕ) → neg_ℤ (pos n) ≡ D 0 n
unfolding D
neg-pos-D n = sym (+ℤ_idl (neg_ℤ (pos n)))

pub D-neg : (a b : ℕ) → neg_ℤ (D a b) ≡ D b a
unfolding D
D-neg a b = neg_ℤ-+ℤ (pos a) (neg_ℤ (pos b)) ∙ ap (λ t. neg_ℤ (pos a) +ℤ t) (neg_ℤ-neg_ℤ (pos b)) ∙ +ℤ_comm (neg_ℤ (pos a)) (pos b)

pub D-add : (a b c d : ℕ) → D a b +ℤ D c d ≡ D (a + c) (b + d)
unfolding D
D-add a b c d = swap4 (pos a) (neg_ℤ (pos b)) (pos c) (neg_ℤ (pos d)) ∙ ap (λ t. pos (a + c) +ℤ t) (sym (neg_ℤ-+ℤ (pos b) (pos d)))

pub D-mul : (a b c d : ℕ) → D a b *ℤ D c d ≡ D (a * c + b * d) (a * d + b * c)
unfolding D
D-mul a b c d =
    +ℤ-*ℤ (pos a) (neg_ℤ (pos b)) (pos c +ℤ neg_ℤ (pos d)) ∙ ap₂ ◌+ℤ◌ left right
    ∙ ap (λ t. (pos (a * c) +ℤ neg_ℤ (pos (a * d))) +ℤ t) (+ℤ_comm (neg_ℤ (pos (b * c))) (pos (b * d)))
    ∙ swap4 (pos (a * c)) (neg_ℤ (pos (a * d))) (pos (b * d)) (neg_ℤ (pos (b * c)))
    ∙ ap (λ t. pos (a * c + b * d) +ℤ t) (sym (neg_ℤ-+ℤ (pos (a * d)) (pos (b * c))))
  where
    left : pos a *ℤ (pos c +ℤ neg_ℤ (pos d)) ≡ pos (a * c) +ℤ neg_ℤ (pos (a * d))
    left = *ℤ-+ℤ (pos a) (pos c) (neg_ℤ (pos d)) ∙ ap (λ t. pos (a * c) +ℤ t) (*ℤ_neg_ℤ (pos a) (pos d))

    right : neg_ℤ (pos b) *ℤ (pos c +ℤ neg_ℤ (pos d)) ≡ neg_ℤ (pos (b * c)) +ℤ pos (b * d)
    right =
        *ℤ-+ℤ (neg_ℤ (pos b)) (pos c) (neg_ℤ (pos d))
        ∙ ap₂ ◌+ℤ◌ (neg_ℤ_*ℤ (pos b) (pos c)) (neg_ℤ_*ℤ (pos b) (neg_ℤ (pos d)) ∙ ap neg_ℤ (*ℤ_neg_ℤ (pos b) (pos d)) ∙ neg_ℤ-neg_ℤ (pos (b * d)))

-- the two forms of a difference
pub D_cases : (a b : ℕ) (P : ℤ → Type 0) → (b ≤ a → P (pos (a - b))) → (a < b → P (negsuc (b - suc a))) → P (D a b)
unfolding D
D_cases a zero P f g = subst P (ap pos (e a) ∙ sym (+ℤ_idr (pos a))) (f (omega arith))
  where
    e : (a : ℕ) → a - zero ≡ a
    e a = omega arith
D_cases a (suc b) P f g = pick (ltb a (suc b)) (λ t. g (ltb→lt a (suc b) t)) (λ t. f (nltb→le a (suc b) t))
  where
    pick : (c : Bool) → (T c → P (negsuc (suc b - suc a))) → (T (not c) → P (pos (a - suc b))) → P (cond c (negsuc (suc b - suc a)) (pos (a - suc b)))
    pick true h k = h tt
    pick false h k = k tt

-- the order and equality of differences are ℕ's, of the crosswise sums
le_mp : (a b c d : ℕ) → D a b ≤ℤ D c d → a + d ≤ c + b
le_mp a b c d = D_cases a b (λ x. x ≤ℤ D c d → a + d ≤ c + b)
    (λ p. D_cases c d (λ y. pos (a - b) ≤ℤ y → a + d ≤ c + b) (λ q h. both p q (leb→le (a - b) (c - d) h.le)) (λ q h. absurd h.le))
    (λ p. D_cases c d (λ y. negsuc (b - suc a) ≤ℤ y → a + d ≤ c + b) (λ q h. omega arith) (λ q h. neither p q (leb→le (d - suc c) (b - suc a) h.le)))
  where
    both : b ≤ a → d ≤ c → a - b ≤ c - d → a + d ≤ c + b
    both p q h = omega arith

    neither : a < b → c < d → d - suc c ≤ b - suc a → a + d ≤ c + b
    neither p q h = omega arith

le_mpr : (a b c d : ℕ) → a + d ≤ c + b → D a b ≤ℤ D c d
le_mpr a b c d h = D_cases a b (λ x. x ≤ℤ D c d)
    (λ p. D_cases c d (λ y. pos (a - b) ≤ℤ y) (λ q. record { le = le→leb (a - b) (c - d) (both p q) }) (λ q. absurd (neither p q)))
    (λ p. D_cases c d (λ y. negsuc (b - suc a) ≤ℤ y) (λ q. record { le = tt }) (λ q. record { le = le→leb (d - suc c) (b - suc a) (below p q) }))
  where
    both : b ≤ a → d ≤ c → a - b ≤ c - d
    both p q = omega arith

    neither : b ≤ a → c < d → ⊥
    neither p q = omega arith

    below : a < b → c < d → d - suc c ≤ b - suc a
    below p q = omega arith

pub D-le : (a b c d : ℕ) → D a b ≤ℤ D c d ↔ a + d ≤ c + b
D-le a b c d = (le_mp a b c d, le_mpr a b c d)

lt_as_le : (x y : ℤ) → x <ℤ y ↔ suc_ℤ x ≤ℤ y
lt_as_le (pos a) (pos b) = (λ h. record { le = h.lt }, λ h. record { lt = h.le })
lt_as_le (pos a) (negsuc b) = (λ h. absurd h.lt, λ h. absurd h.le)
lt_as_le (negsuc zero) (pos b) = (λ h. record { le = le→leb 0 b (omega arith) }, λ h. record { lt = tt })
lt_as_le (negsuc (suc a)) (pos b) = (λ h. record { le = tt }, λ h. record { lt = tt })
lt_as_le (negsuc zero) (negsuc b) = (λ h. absurd (no_below b (ltb→lt b zero h.lt)), λ h. absurd h.le)
  where
    no_below : (b : ℕ) → b < zero → ⊥
    no_below b h = omega arith
lt_as_le (negsuc (suc a)) (negsuc b) =
    (λ h. record { le = le→leb b a (down (ltb→lt b (suc a) h.lt)) }, λ h. record { lt = lt→ltb b (suc a) (up (leb→le b a h.le)) })
  where
    down : b < suc a → b ≤ a
    down h = omega arith

    up : b ≤ a → b < suc a
    up h = omega arith

D-suc : (a b : ℕ) → suc_ℤ (D a b) ≡ D (suc a) b
unfolding D
D-suc a b =
    sym (+ℤ_one (D a b)) ∙ +ℤ_assoc (pos a) (neg_ℤ (pos b)) (pos 1) ∙ ap (λ t. pos a +ℤ t) (+ℤ_comm (neg_ℤ (pos b)) (pos 1))
    ∙ sym (+ℤ_assoc (pos a) (pos 1) (neg_ℤ (pos b))) ∙ ap (λ (n : ℕ). pos n +ℤ neg_ℤ (pos b)) (e a)
  where
    e : (a : ℕ) → a + 1 ≡ suc a
    e a = omega arith

pub D-lt : (a b c d : ℕ) → D a b <ℤ D c d ↔ a + d < c + b
D-lt a b c d = (
  (λ h. mp (le_mp (suc a) b c d (subst (λ x. x ≤ℤ D c d) (D-suc a b) ((lt_as_le (D a b) (D c d)).0 h)))),
  (λ h. (lt_as_le (D a b) (D c d)).1 (subst (λ x. x ≤ℤ D c d) (sym (D-suc a b)) (le_mpr (suc a) b c d (mpr h)))),
)
  where
    mp : suc a + d ≤ c + b → a + d < c + b
    mp h = omega arith

    mpr : a + d < c + b → suc a + d ≤ c + b
    mpr h = omega arith

antisym : (x y : ℤ) → x ≤ℤ y → y ≤ℤ x → x ≡ y
antisym (pos a) (pos b) h k = ap pos (NatL.le_antisymm (leb→le a b h.le) (leb→le b a k.le))
antisym (pos a) (negsuc b) h k = absurd h.le
antisym (negsuc a) (pos b) h k = absurd k.le
antisym (negsuc a) (negsuc b) h k = ap negsuc (NatL.le_antisymm (leb→le a b k.le) (leb→le b a h.le))

pub D-eq : (a b c d : ℕ) → (D a b ≡ D c d) ↔ (a + d ≡ c + b)
D-eq a b c d = (
  (λ e. NatL.le_antisymm (le_mp a b c d (subst (λ x. D a b ≤ℤ x) e (≤ℤ_refl (D a b)))) (mp (le_mp c d a b (subst (λ x. x ≤ℤ D a b) e (≤ℤ_refl (D a b)))))),
  (λ e. antisym (D a b) (D c d) (le_mpr a b c d (NatL.le_of_eq e)) (le_mpr c d a b (mpr e))),
)
  where
    mp : c + b ≤ a + d → c + b ≤ a + d
    mp h = h

    mpr : a + d ≡ c + b → c + b ≤ a + d
    mpr h = omega arith

-- what `pos a -ℤ pos b` computes to at a numeral b, once its branches are differences
pub sub-D : (a b : ℕ) → cond (ltb a b) (D 0 (suc (b - suc a))) (D (a - b) 0) ≡ D a b
sub-D a b = go (ltb a b) (ltb→lt a b) (nltb→le a b)
  where
    less : a < b → 0 + b ≡ a + suc (b - suc a)
    less h = omega arith

    more : b ≤ a → a - b + b ≡ a + 0
    more h = omega arith

    go : (c : Bool) → (T c → a < b) → (T (not c) → b ≤ a) → cond c (D 0 (suc (b - suc a))) (D (a - b) 0) ≡ D a b
    go true f g = (D-eq 0 (suc (b - suc a)) a b).1 (less (f tt))
    go false f g = (D-eq (a - b) 0 a b).1 (more (g tt))

-- ---- sizes and ranges
pub D-nat_abs : (a b : ℕ) → nat_abs (D a b) ≡ (a - b) + (b - a)
D-nat_abs a b = D_cases a b (λ z. nat_abs z ≡ (a - b) + (b - a)) (λ h. up h) (λ h. down h)
  where
    up : b ≤ a → a - b ≡ (a - b) + (b - a)
    up h = omega arith

    down : a < b → suc (b - suc a) ≡ (a - b) + (b - a)
    down h = omega arith

pub D-mag : (a b : ℕ) → mag (D a b) ≡ (a - b) + (b - suc a)
D-mag a b = D_cases a b (λ z. mag z ≡ (a - b) + (b - suc a)) (λ h. up h) (λ h. down h)
  where
    up : b ≤ a → a - b ≡ (a - b) + (b - suc a)
    up h = omega arith

    down : a < b → b - suc a ≡ (a - b) + (b - suc a)
    down h = omega arith

-- a bound on a size is two bounds, which cost `omega` no cases: it takes at most six differences
pub size_le : (a b n : ℕ) → (a - b) + (b - a) ≤ n ↔ (a ≤ n + b) × (b ≤ n + a)
size_le a b n = (λ h. (omega arith, omega arith), λ h. omega arith)

pub size_lt : (a b n : ℕ) → (a - b) + (b - a) < n ↔ (a < n + b) × (b < n + a)
size_lt a b n = (λ h. (omega arith, omega arith), λ h. omega arith)

pub mag-lt : (a b n : ℕ) → (a - b) + (b - suc a) < n ↔ (b ≤ a + n) × (a < b + n)
mag-lt a b n = (λ h. (omega arith, omega arith), λ h. omega arith)

pub D-sfits : (w : Width) (a b : ℕ) → SFits w (D a b) ↔ (b ≤ a + 2 ^ hbits w) × (a < b + 2 ^ hbits w)
D-sfits w a b = (
  (λ f. range (2 ^ hbits w) (subst (λ (n : ℕ). n < 2 ^ hbits w) (D-mag a b) f.sfits)),
  (λ r. record { sfits = subst (λ (n : ℕ). n < 2 ^ hbits w) (sym (D-mag a b)) (back (2 ^ hbits w) r.0 r.1) }),
)
  where
    range : (H : ℕ) → (a - b) + (b - suc a) < H → (b ≤ a + H) × (a < b + H)
    range H h = omega arith

    back : (H : ℕ) → b ≤ a + H → a < b + H → (a - b) + (b - suc a) < H
    back H h k = omega arith

-- ---- the lesser and the greater
le_cases : (P : Bool → Type 0) (a b c d : ℕ) → (a + d ≤ c + b → P true) → (c + b ≤ a + d → P false) → P (le_z (D a b) (D c d))
le_cases P a b c d f g = go (le_z (D a b) (D c d)) (λ t. le_mp a b c d (record { le = t })) (λ h. (le_mpr a b c d h).le)
  where
    go : (t : Bool) → (T t → a + d ≤ c + b) → (a + d ≤ c + b → T t) → P t
    go true u v = f (u tt)
    go false u v = g (above (λ h. v h))
      where
        above : ¬ (a + d ≤ c + b) → c + b ≤ a + d
        above h = omega arith

pub D-min : (a b c d : ℕ) → min_ℤ (D a b) (D c d) ≡ D (min (a + d) (c + b)) (b + d)
unfolding min_ℤ
D-min a b c d =
    le_cases (λ t. cond t (D a b) (D c d) ≡ D (min (a + d) (c + b)) (b + d)) a b c d
    (λ h. (D-eq a b (min (a + d) (c + b)) (b + d)).1 (omega arith)) (λ h. (D-eq c d (min (a + d) (c + b)) (b + d)).1 (omega arith))

pub D-max : (a b c d : ℕ) → max_ℤ (D a b) (D c d) ≡ D (max (a + d) (c + b)) (b + d)
unfolding max_ℤ
D-max a b c d =
    le_cases (λ t. cond t (D c d) (D a b) ≡ D (max (a + d) (c + b)) (b + d)) a b c d
    (λ h. (D-eq c d (max (a + d) (c + b)) (b + d)).1 (omega arith)) (λ h. (D-eq a b (max (a + d) (c + b)) (b + d)).1 (omega arith))

-- ---- the bridge
pub ruleset bridge = (pos-D, negsuc-D, neg-pos-D, sub-D, D-neg, D-add, D-mul, D-le, D-lt, D-eq, D-nat_abs, D-mag, size_le, size_lt, mag-lt, D-sfits, D-min, D-max)

-- for each number of variables, written from outside in; `P` is `_`
pub all1 : (P : ℤ → Type 0) → ((a b : ℕ) → P (D a b)) → (x : ℤ) → P x
all1 P f x = let (a, b, e) = D_of x in subst P (sym e) (f a b)

pub all2 : (P : ℤ → ℤ → Type 0) → ((a b c d : ℕ) → P (D a b) (D c d)) → (x y : ℤ) → P x y
all2 P f x = all1 _ λ c d. all1 (λ x. P x (D c d)) (λ a b. f a b c d) x

pub all3 : (P : ℤ → ℤ → ℤ → Type 0) → ((a b c d e f : ℕ) → P (D a b) (D c d) (D e f)) → (x y z : ℤ) → P x y z
all3 P f x y = all1 _ λ c d. all2 (λ x y. P x y (D c d)) (λ a b e g. f a b e g c d) x y

pub all4 : (P : ℤ → ℤ → ℤ → ℤ → Type 0) → ((a b c d e f g h : ℕ) → P (D a b) (D c d) (D e f) (D g h)) → (x y z u : ℤ) → P x y z u
all4 P f x y z = all1 _ λ c d. all3 (λ x y z. P x y z (D c d)) (λ a b e g h i. f a b e g h i c d) x y z

pub all5 : (P : ℤ → ℤ → ℤ → ℤ → ℤ → Type 0) → ((a b c d e f g h i j : ℕ) → P (D a b) (D c d) (D e f) (D g h) (D i j)) → (x y z u v : ℤ) → P x y z u v
all5 P f x y z u = all1 _ λ c d. all4 (λ x y z u. P x y z u (D c d)) (λ a b e g h i j k. f a b e g h i j k c d) x y z u

pub all6 : (P : ℤ → ℤ → ℤ → ℤ → ℤ → ℤ → Type 0) → ((a b c d e f g h i j k l : ℕ) → P (D a b) (D c d) (D e f) (D g h) (D i j) (D k l))
    → (x y z u v w : ℤ) → P x y z u v w
all6 P f x y z u v = all1 _ λ c d. all5 (λ x y z u v. P x y z u v (D c d)) (λ a b e g h i j k l m. f a b e g h i j k l m c d) x y z u v

-- ---- what `omega` is handed about a product. Of p ≤ q and r ≤ s, that (q − p)·(s − r) is not negative
pub prod : {p q r s : ℕ} → p ≤ q → r ≤ s → p * s + q * r ≤ q * s + p * r
prod {p} {q} {r} {s} h k = go (q - p) (s - r) (omega arith) (omega arith)
  where
    go : (u v : ℕ) → q ≡ p + u → s ≡ r + v → p * s + q * r ≤ q * s + p * r
    go u v e e' = rw (e, e') (omega arith)
