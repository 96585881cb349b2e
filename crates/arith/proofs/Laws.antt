-- ℤ is an ordered commutative ring: what `lib.IntN` and `lib.Signed` lack of it, each law by `Bridge` in a line.
-- A law is for use by name; a longer statement is better proved whole, by the line that proves the laws here.
-- Where a law's integers are implicit, `all2` is told the statement: at variables that are given `simp` does not wait for it.
-- `◌≤ℤ◌` binds tighter than `◌+ℤ◌`: write `(x +ℤ y) ≤ℤ z`.
-- Assumes nothing.
use mathlib.Core.Path.{◌≡◌, refl, sym}
use mathlib.Core.Logic.{◌⊎◌, inl, inr, ◌↔◌}
use mathlib.Core.Bool.{Bool, true, false}
use Prim.Native.Nat.{ℕ, suc, ◌+◌, ◌*◌, ◌≤◌, ◌<◌}
use native.Mathlib.Nat.{mul-le-mul_left, mul-le-mul, le_trans, le_of_eq}
use native.Mathlib.Omega.{arith, by_contra}
use lib.Dec.{T, le→leb}
use lib.IntN.{ℤ, pos, negsuc, neg_ℤ, nat_abs, ◌+ℤ◌, ◌-ℤ◌, ◌*ℤ◌}
use lib.Signed.{◌≤ℤ◌, ◌<ℤ◌, le_z, le_z_yes}
use Rattle.arith.proofs.Bridge.{bridge, prod, all1, all2, all3, all4}

-- ---- the ring
pub *ℤ_assoc : (x y z : ℤ) → (x *ℤ y) *ℤ z ≡ x *ℤ (y *ℤ z)
*ℤ_assoc = all3 _ (simp bridge (omega arith))

pub one_*ℤ : (x : ℤ) → pos 1 *ℤ x ≡ x
one_*ℤ = all1 _ (simp bridge (omega arith))

-- ---- the order
pub ≤ℤ_trans : {x y z : ℤ} → x ≤ℤ y → y ≤ℤ z → x ≤ℤ z
≤ℤ_trans {x} {y} {z} = all3 (λ x y z. x ≤ℤ y → y ≤ℤ z → x ≤ℤ z) (simp bridge (omega arith)) x y z

pub ≤ℤ_antisym : {x y : ℤ} → x ≤ℤ y → y ≤ℤ x → x ≡ y
≤ℤ_antisym {x} {y} = all2 (λ x y. x ≤ℤ y → y ≤ℤ x → x ≡ y) (simp bridge (omega arith)) x y

pub ≤ℤ_of_eq : {x y : ℤ} → x ≡ y → x ≤ℤ y
≤ℤ_of_eq {x} {y} = all2 (λ x y. x ≡ y → x ≤ℤ y) (simp bridge (omega arith)) x y

pub ≤ℤ-<ℤ_trans : {x y z : ℤ} → x ≤ℤ y → y <ℤ z → x <ℤ z
≤ℤ-<ℤ_trans {x} {y} {z} = all3 (λ x y z. x ≤ℤ y → y <ℤ z → x <ℤ z) (simp bridge (omega arith)) x y z

pub <ℤ_trans : {x y z : ℤ} → x <ℤ y → y <ℤ z → x <ℤ z
<ℤ_trans {x} {y} {z} = all3 (λ x y z. x <ℤ y → y <ℤ z → x <ℤ z) (simp bridge (omega arith)) x y z

pub ≤ℤ_of_<ℤ : {x y : ℤ} → x <ℤ y → x ≤ℤ y
≤ℤ_of_<ℤ {x} {y} = all2 (λ x y. x <ℤ y → x ≤ℤ y) (simp bridge (omega arith)) x y

pub <ℤ_iff : (x y : ℤ) → x <ℤ y ↔ (x +ℤ pos 1) ≤ℤ y
<ℤ_iff = all2 _ (simp bridge (omega arith))

pub <ℤ_of_¬≤ℤ : {x y : ℤ} → ¬ (y ≤ℤ x) → x <ℤ y
<ℤ_of_¬≤ℤ {x} {y} = all2 (λ x y. ¬ (y ≤ℤ x) → x <ℤ y) (simp bridge (omega arith)) x y

pub ¬≤ℤ_of_<ℤ : {x y : ℤ} → x <ℤ y → ¬ (y ≤ℤ x)
¬≤ℤ_of_<ℤ {x} {y} = all2 (λ x y. x <ℤ y → ¬ (y ≤ℤ x)) (simp bridge (omega arith)) x y

pub ≤ℤ_dec : (x y : ℤ) → Dec (x ≤ℤ y)
≤ℤ_dec x y = go (le_z x y) (λ t. t) (λ t. t)
  where
    go : (b : Bool) → (T (le_z x y) → T b) → (T b → T (le_z x y)) → Dec (x ≤ℤ y)
    go true f g = yes (le_z_yes (g tt))
    go false f g = no (λ h. f h.le)

pub <ℤ_or_≤ℤ : (x y : ℤ) → (x <ℤ y) ⊎ (y ≤ℤ x)
<ℤ_or_≤ℤ x y = elim (≤ℤ_dec y x) [ yes h ↦ inr h | no n ↦ inl (<ℤ_of_¬≤ℤ n) ]

pub <ℤ_dec : (x y : ℤ) → Dec (x <ℤ y)
<ℤ_dec x y = elim (<ℤ_or_≤ℤ x y) [ inl h ↦ yes h | inr h ↦ no (λ k. ¬≤ℤ_of_<ℤ k h) ]

pub ≤ℤ_total : (x y : ℤ) → (x ≤ℤ y) ⊎ (y ≤ℤ x)
≤ℤ_total x y = elim (<ℤ_or_≤ℤ x y) [ inl h ↦ inl (≤ℤ_of_<ℤ h) | inr h ↦ inr h ]

pub pos-≤ℤ : {m n : ℕ} → m ≤ n → pos m ≤ℤ pos n
pos-≤ℤ {m} {n} h = le_z_yes (le→leb m n h)

pub pos_non_neg : (n : ℕ) → pos 0 ≤ℤ pos n
pos_non_neg n = pos-≤ℤ {n = n} (omega arith)

pub positive : (n : ℕ) → pos 0 <ℤ pos n → 0 < n
positive = simp bridge (omega arith)

-- ---- the order and the ring
pub +ℤ_mono : {x y u v : ℤ} → x ≤ℤ y → u ≤ℤ v → (x +ℤ u) ≤ℤ (y +ℤ v)
+ℤ_mono {x} {y} {u} {v} = all4 (λ x y u v. x ≤ℤ y → u ≤ℤ v → (x +ℤ u) ≤ℤ (y +ℤ v)) (simp bridge (omega arith)) x y u v

pub -ℤ_mono : {x y u v : ℤ} → x ≤ℤ y → u ≤ℤ v → (x -ℤ v) ≤ℤ (y -ℤ u)
-ℤ_mono {x} {y} {u} {v} = all4 (λ x y u v. x ≤ℤ y → u ≤ℤ v → (x -ℤ v) ≤ℤ (y -ℤ u)) (simp bridge (omega arith)) x y u v

pub gap_non_neg : (x y : ℤ) → x ≤ℤ y → pos 0 ≤ℤ (y -ℤ x)
gap_non_neg = all2 _ (simp bridge (omega arith))

pub neg_ℤ_mono : {x y : ℤ} → x ≤ℤ y → neg_ℤ y ≤ℤ neg_ℤ x
neg_ℤ_mono {x} {y} = all2 (λ x y. x ≤ℤ y → neg_ℤ y ≤ℤ neg_ℤ x) (simp bridge (omega arith)) x y

pub *ℤ_non_neg : {x y : ℤ} → pos 0 ≤ℤ x → pos 0 ≤ℤ y → pos 0 ≤ℤ (x *ℤ y)
*ℤ_non_neg {x} {y} = all2 (λ x y. pos 0 ≤ℤ x → pos 0 ≤ℤ y → pos 0 ≤ℤ (x *ℤ y)) (simp bridge (λ a b c d h k. omega (arith, prod h k))) x y

-- (y − x)·(v − u) is not negative: what a product of two bounds tells
pub *ℤ_gaps : {x y u v : ℤ} → x ≤ℤ y → u ≤ℤ v → pos 0 ≤ℤ ((y -ℤ x) *ℤ (v -ℤ u))
*ℤ_gaps {x} {y} {u} {v} h k = *ℤ_non_neg (gap_non_neg x y h) (gap_non_neg u v k)

pub *ℤ_mono : {x y : ℤ} (k : ℤ) → pos 0 ≤ℤ k → x ≤ℤ y → (k *ℤ x) ≤ℤ (k *ℤ y)
*ℤ_mono {x} {y} k = all3 (λ k x y. pos 0 ≤ℤ k → x ≤ℤ y → (k *ℤ x) ≤ℤ (k *ℤ y)) (simp bridge (λ a b c d e f h l. omega (arith, prod h l))) k x y

pub *ℤ_square : (x : ℤ) → pos 0 ≤ℤ (x *ℤ x)
*ℤ_square (pos n) = pos_non_neg (n * n)
*ℤ_square (negsuc n) = pos_non_neg (suc n * suc n)

pub *ℤ_positive : (x y : ℤ) → pos 0 <ℤ x → pos 0 <ℤ y → pos 0 <ℤ (x *ℤ y)
*ℤ_positive = all2 _ (simp bridge (λ a b c d h k. omega (arith, prod h k)))

-- ---- a positive factor cancels: a natural number, and an integer
cancel_natural : (m a b : ℕ) → 0 < m → m * a < m * suc b → a ≤ b
cancel_natural m a b p h = by_contra a b (λ q. omega (arith, mul-le-mul_left m q))

pub *ℤ_cancel_<ℤ : {x y : ℤ} (m : ℕ) → 0 < m → (pos m *ℤ x) <ℤ (pos m *ℤ y) → x <ℤ y
*ℤ_cancel_<ℤ {x} {y} m p =
    all2 (λ x y. (pos m *ℤ x) <ℤ (pos m *ℤ y) → x <ℤ y) (simp bridge (λ a b c d h. cancel_natural m (suc (a + d)) (c + b) p (omega arith))) x y

pub *ℤ_cancel_≤ℤ : {x y : ℤ} (m : ℕ) → 0 < m → (pos m *ℤ x) ≤ℤ (pos m *ℤ y) → x ≤ℤ y
*ℤ_cancel_≤ℤ {x} {y} m p = all2 (λ x y. (pos m *ℤ x) ≤ℤ (pos m *ℤ y) → x ≤ℤ y) (simp bridge (λ a b c d h. cancel_natural m (a + d) (c + b) p (omega arith))) x y

pub *ℤ_cancel : {x y : ℤ} (m : ℕ) → 0 < m → pos m *ℤ x ≡ pos m *ℤ y → x ≡ y
*ℤ_cancel m p e = ≤ℤ_antisym (*ℤ_cancel_≤ℤ m p (≤ℤ_of_eq e)) (*ℤ_cancel_≤ℤ m p (≤ℤ_of_eq (sym e)))

pub cancel_≤ : (q x y : ℤ) → pos 0 <ℤ q → (q *ℤ x) ≤ℤ (q *ℤ y) → x ≤ℤ y
cancel_≤ (pos n) x y h le = *ℤ_cancel_≤ℤ n (positive n h) le
cancel_≤ (negsuc n) x y h le = absurd h.lt

pub cancel : (q x y : ℤ) → pos 0 <ℤ q → q *ℤ x ≡ q *ℤ y → x ≡ y
cancel (pos n) x y h e = *ℤ_cancel n (positive n h) e
cancel (negsuc n) x y h e = absurd h.lt

-- ---- sizes
pub nat_abs_neg_ℤ : (x : ℤ) → nat_abs (neg_ℤ x) ≡ nat_abs x
nat_abs_neg_ℤ = all1 _ (simp bridge (omega arith))

pub nat_abs-+ℤ : (x y : ℤ) → nat_abs (x +ℤ y) ≤ nat_abs x + nat_abs y
nat_abs-+ℤ = all2 _ (simp bridge (omega arith))

pub nat_abs--ℤ : (x y : ℤ) → nat_abs (x -ℤ y) ≤ nat_abs x + nat_abs y
nat_abs--ℤ = all2 _ (simp bridge (omega arith))

pub nat_abs-swap : (x y : ℤ) → nat_abs (x -ℤ y) ≡ nat_abs (y -ℤ x)
nat_abs-swap = all2 _ (simp bridge (omega arith))

-- from x to z past y
pub nat_abs_past : (x y z : ℤ) → nat_abs (x -ℤ z) ≤ nat_abs (x -ℤ y) + nat_abs (y -ℤ z)
nat_abs_past = all3 _ (simp bridge (omega arith))

pub nat_abs-*ℤ : (x y : ℤ) → nat_abs (x *ℤ y) ≡ nat_abs x * nat_abs y
nat_abs-*ℤ (pos a) (pos b) = refl
nat_abs-*ℤ (pos a) (negsuc b) = nat_abs_neg_ℤ (pos (a * suc b))
nat_abs-*ℤ (negsuc a) (pos b) = nat_abs_neg_ℤ (pos (suc a * b))
nat_abs-*ℤ (negsuc a) (negsuc b) = refl

pub nat_abs-*ℤ-≤ : {m n : ℕ} (x y : ℤ) → nat_abs x ≤ m → nat_abs y ≤ n → nat_abs (x *ℤ y) ≤ m * n
nat_abs-*ℤ-≤ x y h k = le_trans (le_of_eq (nat_abs-*ℤ x y)) (mul-le-mul h k)

-- a bound on the size is two bounds on the number
pub nat_abs-≤ : (x : ℤ) (n : ℕ) → nat_abs x ≤ n ↔ (neg_ℤ (pos n) ≤ℤ x) × (x ≤ℤ pos n)
nat_abs-≤ = all1 _ (simp bridge (omega arith))

pub nat_abs-zero : (x : ℤ) → nat_abs x ≡ 0 → x ≡ pos 0
nat_abs-zero = all1 _ (simp bridge (omega arith))
