-- A `ring` for ℤ: an identity of polynomials is proved by computing the two sides' normal forms.
--     name : (x y : ℤ) → (x +ℤ y) *ℤ (x -ℤ y) ≡ x *ℤ x -ℤ y *ℤ y
--     name = vars2 _ (simp reify (λ ρ. ring tt))
-- `vars2` puts an expression's value, `val ρ (var i)`, for each variable, `simp reify` makes of the goal a statement about one
-- expression, which it shows, and `ring tt` computes that expression's normal form. The author writes no expression.
-- A literal is `pos n` or `negsuc n` at a numeral n; where n is a variable, state the identity of an integer.
-- Assumes nothing.
use mathlib.Core.Path.{◌≡◌, refl, sym, ap, ap₂, ◌∙◌}
use mathlib.Core.List.{List, [], ◌∷◌}
use mathlib.Core.Logic.{◌↔◌}
use Prim.Native.Nat.{ℕ, zero, suc, compare, Ordering}
use native.Mathlib.Omega.{arith}
use lib.Dec.{T, compare_is_eq, eqb→eq}
use lib.Signed.{◌≤ℤ◌, ◌<ℤ◌}
use lib.IntN.{ℤ, pos, negsuc, neg_ℤ, ◌+ℤ◌, ◌-ℤ◌, ◌*ℤ◌, +ℤ_idl, +ℤ_assoc, *ℤ_comm, *ℤ-zero, zero-*ℤ}
use Rattle.arith.proofs.Bridge.{bridge, all1, all2, all4, +ℤ_left_comm, +ℤ-*ℤ, *ℤ-+ℤ}
use Rattle.arith.proofs.Laws.{*ℤ_assoc, one_*ℤ, gap_non_neg}

-- ---- expressions, over variables that are numbered
pub data Expr : Type 0 where
  var : ℕ → Expr
  lit : ℕ → Expr
  nlit : ℕ → Expr
  ◌⊞◌ : Expr → Expr → Expr
  ⊟◌ : Expr → Expr
  ◌⊠◌ : Expr → Expr → Expr

infixl 6 ◌⊞◌
infixl 7 ◌⊠◌
infix 8 ⊟◌
abbrev pub Env : Type 0
Env = ℕ → ℤ

-- shut, so that `simp` takes no value apart
unfoldable pub val : Env → Expr → ℤ
val ρ (var i) = ρ i
val ρ (lit n) = pos n
val ρ (nlit n) = negsuc n
val ρ (a ⊞ b) = val ρ a +ℤ val ρ b
val ρ (⊟ a) = neg_ℤ (val ρ a)
val ρ (a ⊠ b) = val ρ a *ℤ val ρ b

-- ---- polynomials: sums of monomials with coefficients. A monomial is the sorted list of its factors' numbers
pub data Poly : Type 0 where
  none : Poly
  more : ℤ → List ℕ → Poly → Poly

unfoldable pub mono : Env → List ℕ → ℤ
mono ρ [] = pos 1
mono ρ (i ∷ m) = ρ i *ℤ mono ρ m

unfoldable pub total : Env → Poly → ℤ
total ρ none = pos 0
total ρ (more k m p) = k *ℤ mono ρ m +ℤ total ρ p

abbrev pub pick {ℓ} : {X : Type ℓ} → Ordering → X → X → X → X
pick Ordering.lt x y z = x
pick Ordering.eq x y z = y
pick Ordering.gt x y z = z

abbrev pub ins : ℕ → List ℕ → List ℕ
ins i [] = i ∷ []
ins i (j ∷ m) = pick (compare i j) (i ∷ j ∷ m) (i ∷ j ∷ m) (j ∷ ins i m)

abbrev pub join : List ℕ → List ℕ → List ℕ
join [] n = n
join (i ∷ m) n = ins i (join m n)

-- by the monomials' factors, first to last
abbrev pub order : List ℕ → List ℕ → Ordering
order [] [] = Ordering.eq
order [] (j ∷ n) = Ordering.lt
order (i ∷ m) [] = Ordering.gt
order (i ∷ m) (j ∷ n) = pick (compare i j) Ordering.lt (order m n) Ordering.gt

abbrev pub put : ℤ → List ℕ → Poly → Poly
put k m none = more k m none
put k m (more j n p) = let r = more j n (put k m p) in pick (order m n) (more k m (more j n p)) (more (k +ℤ j) n p) r

abbrev pub plus : Poly → Poly → Poly
plus none q = q
plus (more k m p) q = put k m (plus p q)

abbrev pub scale : ℤ → List ℕ → Poly → Poly
scale k m none = none
scale k m (more j n p) = put (k *ℤ j) (join m n) (scale k m p)

abbrev pub times : Poly → Poly → Poly
times none q = none
times (more k m p) q = plus (scale k m q) (times p q)

abbrev pub norm : Expr → Poly
norm (var i) = more (pos 1) (i ∷ []) none
norm (lit n) = more (pos n) [] none
norm (nlit n) = more (negsuc n) [] none
norm (a ⊞ b) = plus (norm a) (norm b)
norm (⊟ a) = scale (negsuc 0) [] (norm a)
norm (a ⊠ b) = times (norm a) (norm b)

-- ---- the normal form has the expression's value
pick_ind {ℓ κ} : {X : Type ℓ} (P : X → Type κ) (o : Ordering) (x y z : X) → P x → (T (compare_is_eq o) → P y) → P z → P (pick o x y z)
pick_ind P Ordering.lt x y z p q r = p
pick_ind P Ordering.eq x y z p q r = q tt
pick_ind P Ordering.gt x y z p q r = r

left_swap : (x y z : ℤ) → x *ℤ (y *ℤ z) ≡ y *ℤ (x *ℤ z)
left_swap x y z = sym (*ℤ_assoc x y z) ∙ ap (λ t. t *ℤ z) (*ℤ_comm x y) ∙ *ℤ_assoc y x z

mono_ins : (ρ : Env) (i : ℕ) (m : List ℕ) → mono ρ (ins i m) ≡ ρ i *ℤ mono ρ m
unfolding mono
mono_ins ρ i [] = refl
mono_ins ρ i (j ∷ m) =
    pick_ind (λ n. mono ρ n ≡ ρ i *ℤ (ρ j *ℤ mono ρ m)) (compare i j) (i ∷ j ∷ m) (i ∷ j ∷ m) (j ∷ ins i m)
    refl (λ t. refl) (ap (λ t. ρ j *ℤ t) (mono_ins ρ i m) ∙ left_swap (ρ j) (ρ i) (mono ρ m))

mono_join : (ρ : Env) (m n : List ℕ) → mono ρ (join m n) ≡ mono ρ m *ℤ mono ρ n
unfolding mono
mono_join ρ [] n = sym (one_*ℤ (mono ρ n))
mono_join ρ (i ∷ m) n = mono_ins ρ i (join m n) ∙ ap (λ t. ρ i *ℤ t) (mono_join ρ m n) ∙ sym (*ℤ_assoc (ρ i) (mono ρ m) (mono ρ n))

order_eq : (m n : List ℕ) → T (compare_is_eq (order m n)) → m ≡ n
order_eq [] [] t = refl
order_eq [] (j ∷ n) t = absurd t
order_eq (i ∷ m) [] t = absurd t
order_eq (i ∷ m) (j ∷ n) t =
    pick_ind (λ o. T (compare_is_eq o) → (i ∷ m) ≡ (j ∷ n)) (compare i j) Ordering.lt (order m n) Ordering.gt
    (λ u. absurd u) (λ e u. ap₂ ◌∷◌ (eqb→eq i j e) (order_eq m n u)) (λ u. absurd u) t

add_coeff : (k j m r : ℤ) → (k +ℤ j) *ℤ m +ℤ r ≡ k *ℤ m +ℤ (j *ℤ m +ℤ r)
add_coeff = all4 _ (simp bridge (omega arith))

total_put : (ρ : Env) (k : ℤ) (m : List ℕ) (p : Poly) → total ρ (put k m p) ≡ k *ℤ mono ρ m +ℤ total ρ p
unfolding total
total_put ρ k m none = refl
total_put ρ k m (more j n p) =
    pick_ind (λ q. total ρ q ≡ k *ℤ mono ρ m +ℤ (j *ℤ mono ρ n +ℤ total ρ p)) (order m n)
    (more k m (more j n p)) (more (k +ℤ j) n p) (more j n (put k m p))
    refl
    (λ e. add_coeff k j (mono ρ n) (total ρ p) ∙ ap (λ x. k *ℤ mono ρ x +ℤ (j *ℤ mono ρ n +ℤ total ρ p)) (sym (order_eq m n e)))
    (ap (λ t. j *ℤ mono ρ n +ℤ t) (total_put ρ k m p) ∙ +ℤ_left_comm (j *ℤ mono ρ n) (k *ℤ mono ρ m) (total ρ p))

total_plus : (ρ : Env) (p q : Poly) → total ρ (plus p q) ≡ total ρ p +ℤ total ρ q
unfolding total
total_plus ρ none q = sym (+ℤ_idl (total ρ q))
total_plus ρ (more k m p) q =
    total_put ρ k m (plus p q) ∙ ap (λ t. k *ℤ mono ρ m +ℤ t) (total_plus ρ p q) ∙ sym (+ℤ_assoc (k *ℤ mono ρ m) (total ρ p) (total ρ q))

scale-step : (k j x y r : ℤ) → (k *ℤ j) *ℤ (x *ℤ y) +ℤ (k *ℤ x) *ℤ r ≡ (k *ℤ x) *ℤ (j *ℤ y +ℤ r)
scale-step k j x y r = ap (λ t. t +ℤ (k *ℤ x) *ℤ r) (inner k j x y) ∙ sym (*ℤ-+ℤ (k *ℤ x) (j *ℤ y) r)
  where
    inner : (k j x y : ℤ) → (k *ℤ j) *ℤ (x *ℤ y) ≡ (k *ℤ x) *ℤ (j *ℤ y)
    inner = all4 _ (simp bridge (omega arith))

total_scale : (ρ : Env) (k : ℤ) (m : List ℕ) (q : Poly) → total ρ (scale k m q) ≡ (k *ℤ mono ρ m) *ℤ total ρ q
unfolding total
total_scale ρ k m none = sym (*ℤ-zero (k *ℤ mono ρ m))
total_scale ρ k m (more j n p) =
    total_put ρ (k *ℤ j) (join m n) (scale k m p) ∙ ap₂ ◌+ℤ◌ (ap (λ t. (k *ℤ j) *ℤ t) (mono_join ρ m n)) (total_scale ρ k m p)
    ∙ scale-step k j (mono ρ m) (mono ρ n) (total ρ p)

total_times : (ρ : Env) (p q : Poly) → total ρ (times p q) ≡ total ρ p *ℤ total ρ q
unfolding total
total_times ρ none q = sym (zero-*ℤ (total ρ q))
total_times ρ (more k m p) q =
    total_plus ρ (scale k m q) (times p q) ∙ ap₂ ◌+ℤ◌ (total_scale ρ k m q) (total_times ρ p q)
    ∙ sym (+ℤ-*ℤ (k *ℤ mono ρ m) (total ρ p) (total ρ q))

unit_mono : (x : ℤ) → x ≡ x *ℤ pos 1 +ℤ pos 0
unit_mono = all1 _ (simp bridge (omega arith))

one_var : (x : ℤ) → x ≡ pos 1 *ℤ (x *ℤ pos 1) +ℤ pos 0
one_var = all1 _ (simp bridge (omega arith))

minus_one : (x : ℤ) → neg_ℤ x ≡ (negsuc 0 *ℤ pos 1) *ℤ x
minus_one = all1 _ (simp bridge (omega arith))

norm_sound : (ρ : Env) (e : Expr) → val ρ e ≡ total ρ (norm e)
unfolding val mono total
norm_sound ρ (var i) = one_var (ρ i)
norm_sound ρ (lit n) = unit_mono (pos n)
norm_sound ρ (nlit n) = unit_mono (negsuc n)
norm_sound ρ (a ⊞ b) = ap₂ ◌+ℤ◌ (norm_sound ρ a) (norm_sound ρ b) ∙ sym (total_plus ρ (norm a) (norm b))
norm_sound ρ (⊟ a) = ap neg_ℤ (norm_sound ρ a) ∙ minus_one (total ρ (norm a)) ∙ sym (total_scale ρ (negsuc 0) [] (norm a))
norm_sound ρ (a ⊠ b) = ap₂ ◌*ℤ◌ (norm_sound ρ a) (norm_sound ρ b) ∙ sym (total_times ρ (norm a) (norm b))

-- ---- a polynomial that vanishes: no coefficient is left but 0. `Left p` is `Unit`, or shows what is left
abbrev pub keep : ℤ → List ℕ → Poly → Poly
keep (pos zero) m p = p
keep (pos (suc k)) m p = more (pos (suc k)) m p
keep (negsuc k) m p = more (negsuc k) m p

abbrev pub clean : Poly → Poly
clean none = none
clean (more k m p) = keep k m (clean p)

pub data Remains : Poly → Type 0 where

abbrev pub Left : Poly → Type 0
Left none = Unit {0}
Left (more k m p) = Remains (more k m p)

total_keep : (ρ : Env) (k : ℤ) (m : List ℕ) (p : Poly) → total ρ (keep k m p) ≡ k *ℤ mono ρ m +ℤ total ρ p
unfolding total
total_keep ρ (pos zero) m p = sym (ap (λ t. t +ℤ total ρ p) (zero-*ℤ (mono ρ m)) ∙ +ℤ_idl (total ρ p))
total_keep ρ (pos (suc k)) m p = refl
total_keep ρ (negsuc k) m p = refl

total_clean : (ρ : Env) (p : Poly) → total ρ (clean p) ≡ total ρ p
unfolding total
total_clean ρ none = refl
total_clean ρ (more k m p) = total_keep ρ k m (clean p) ∙ ap (λ t. k *ℤ mono ρ m +ℤ t) (total_clean ρ p)

pub clean_sound : (ρ : Env) (e : Expr) → val ρ e ≡ total ρ (clean (norm e))
clean_sound ρ e = norm_sound ρ e ∙ sym (total_clean ρ (norm e))

none_left : (ρ : Env) (p : Poly) → Left p → total ρ p ≡ pos 0
unfolding total
none_left ρ none t = refl
none_left ρ (more k m p) t = elim t [ ]

-- ---- what `simp reify` makes of a goal: statements about expressions. As records they show the expressions, so that `ring` finds them
pub record Zero (ρ : Env) (e : Expr) : Type 0 where
  pub holds : val ρ e ≡ pos 0

pub record NonNeg (ρ : Env) (e : Expr) : Type 0 where
  pub holds : pos 0 ≤ℤ val ρ e

pub val_add : (ρ : Env) (a b : Expr) → val ρ a +ℤ val ρ b ≡ val ρ (a ⊞ b)
unfolding val
val_add ρ a b = refl

pub val_mul : (ρ : Env) (a b : Expr) → val ρ a *ℤ val ρ b ≡ val ρ (a ⊠ b)
unfolding val
val_mul ρ a b = refl

pub val_neg : (ρ : Env) (a : Expr) → neg_ℤ (val ρ a) ≡ val ρ (⊟ a)
unfolding val
val_neg ρ a = refl

pub val_eq : (ρ : Env) (a b : Expr) → (val ρ a ≡ val ρ b) ↔ Zero ρ (a ⊞ ⊟ b)
unfolding val
val_eq ρ a b = (λ e. record { holds = mp (val ρ a) (val ρ b) e }, λ z. mpr (val ρ a) (val ρ b) z.holds)
  where
    mp : (x y : ℤ) → x ≡ y → x -ℤ y ≡ pos 0
    mp = all2 _ (simp bridge (omega arith))

    mpr : (x y : ℤ) → x -ℤ y ≡ pos 0 → x ≡ y
    mpr = all2 _ (simp bridge (omega arith))

pub val_le : (ρ : Env) (a b : Expr) → val ρ a ≤ℤ val ρ b ↔ NonNeg ρ (b ⊞ ⊟ a)
unfolding val
val_le ρ a b = (λ e. record { holds = gap_non_neg (val ρ a) (val ρ b) e }, λ z. mpr (val ρ a) (val ρ b) z.holds)
  where
    mpr : (x y : ℤ) → pos 0 ≤ℤ (y -ℤ x) → x ≤ℤ y
    mpr = all2 _ (simp bridge (omega arith))

pub val_lt : (ρ : Env) (a b : Expr) → val ρ a <ℤ val ρ b ↔ NonNeg ρ (b ⊞ ⊟ a ⊞ nlit 0)
unfolding val
val_lt ρ a b = (λ e. record { holds = mp (val ρ a) (val ρ b) e }, λ z. mpr (val ρ a) (val ρ b) z.holds)
  where
    mp : (x y : ℤ) → x <ℤ y → pos 0 ≤ℤ (y -ℤ x +ℤ negsuc 0)
    mp = all2 _ (simp bridge (omega arith))

    mpr : (x y : ℤ) → pos 0 ≤ℤ (y -ℤ x +ℤ negsuc 0) → x <ℤ y
    mpr = all2 _ (simp bridge (omega arith))

-- the same with a literal on one side
pub val_add-pos : (ρ : Env) (a : Expr) (n : ℕ) → val ρ a +ℤ pos n ≡ val ρ (a ⊞ lit n)
unfolding val
val_add-pos ρ a n = refl

pub pos-add_val : (ρ : Env) (n : ℕ) (a : Expr) → pos n +ℤ val ρ a ≡ val ρ (lit n ⊞ a)
unfolding val
pos-add_val ρ n a = refl

pub val_add-neg : (ρ : Env) (a : Expr) (n : ℕ) → val ρ a +ℤ negsuc n ≡ val ρ (a ⊞ nlit n)
unfolding val
val_add-neg ρ a n = refl

pub neg-add_val : (ρ : Env) (n : ℕ) (a : Expr) → negsuc n +ℤ val ρ a ≡ val ρ (nlit n ⊞ a)
unfolding val
neg-add_val ρ n a = refl

pub val_mul-pos : (ρ : Env) (a : Expr) (n : ℕ) → val ρ a *ℤ pos n ≡ val ρ (a ⊠ lit n)
unfolding val
val_mul-pos ρ a n = refl

pub pos-mul_val : (ρ : Env) (n : ℕ) (a : Expr) → pos n *ℤ val ρ a ≡ val ρ (lit n ⊠ a)
unfolding val
pos-mul_val ρ n a = refl

pub val_mul-neg : (ρ : Env) (a : Expr) (n : ℕ) → val ρ a *ℤ negsuc n ≡ val ρ (a ⊠ nlit n)
unfolding val
val_mul-neg ρ a n = refl

pub neg-mul_val : (ρ : Env) (n : ℕ) (a : Expr) → negsuc n *ℤ val ρ a ≡ val ρ (nlit n ⊠ a)
unfolding val
neg-mul_val ρ n a = refl

pub val_eq-pos : (ρ : Env) (a : Expr) (n : ℕ) → (val ρ a ≡ pos n) ↔ Zero ρ (a ⊞ ⊟ lit n)
unfolding val
val_eq-pos ρ a n = val_eq ρ a (lit n)

pub pos-eq_val : (ρ : Env) (n : ℕ) (a : Expr) → (pos n ≡ val ρ a) ↔ Zero ρ (lit n ⊞ ⊟ a)
unfolding val
pos-eq_val ρ n a = val_eq ρ (lit n) a

pub val_eq-neg : (ρ : Env) (a : Expr) (n : ℕ) → (val ρ a ≡ negsuc n) ↔ Zero ρ (a ⊞ ⊟ nlit n)
unfolding val
val_eq-neg ρ a n = val_eq ρ a (nlit n)

pub neg-eq_val : (ρ : Env) (n : ℕ) (a : Expr) → (negsuc n ≡ val ρ a) ↔ Zero ρ (nlit n ⊞ ⊟ a)
unfolding val
neg-eq_val ρ n a = val_eq ρ (nlit n) a

pub val_le-pos : (ρ : Env) (a : Expr) (n : ℕ) → (val ρ a ≤ℤ pos n) ↔ NonNeg ρ (lit n ⊞ ⊟ a)
unfolding val
val_le-pos ρ a n = val_le ρ a (lit n)

pub pos-le_val : (ρ : Env) (n : ℕ) (a : Expr) → (pos n ≤ℤ val ρ a) ↔ NonNeg ρ (a ⊞ ⊟ lit n)
unfolding val
pos-le_val ρ n a = val_le ρ (lit n) a

pub val_le-neg : (ρ : Env) (a : Expr) (n : ℕ) → (val ρ a ≤ℤ negsuc n) ↔ NonNeg ρ (nlit n ⊞ ⊟ a)
unfolding val
val_le-neg ρ a n = val_le ρ a (nlit n)

pub neg-le_val : (ρ : Env) (n : ℕ) (a : Expr) → (negsuc n ≤ℤ val ρ a) ↔ NonNeg ρ (a ⊞ ⊟ nlit n)
unfolding val
neg-le_val ρ n a = val_le ρ (nlit n) a

pub val_lt-pos : (ρ : Env) (a : Expr) (n : ℕ) → (val ρ a <ℤ pos n) ↔ NonNeg ρ (lit n ⊞ ⊟ a ⊞ nlit 0)
unfolding val
val_lt-pos ρ a n = val_lt ρ a (lit n)

pub pos-lt_val : (ρ : Env) (n : ℕ) (a : Expr) → (pos n <ℤ val ρ a) ↔ NonNeg ρ (a ⊞ ⊟ lit n ⊞ nlit 0)
unfolding val
pos-lt_val ρ n a = val_lt ρ (lit n) a

pub val_lt-neg : (ρ : Env) (a : Expr) (n : ℕ) → (val ρ a <ℤ negsuc n) ↔ NonNeg ρ (nlit n ⊞ ⊟ a ⊞ nlit 0)
unfolding val
val_lt-neg ρ a n = val_lt ρ a (nlit n)

pub neg-lt_val : (ρ : Env) (n : ℕ) (a : Expr) → (negsuc n <ℤ val ρ a) ↔ NonNeg ρ (a ⊞ ⊟ nlit n ⊞ nlit 0)
unfolding val
neg-lt_val ρ n a = val_lt ρ (nlit n) a

pub ruleset reify = (
  val_add,
  val_mul,
  val_neg,
  val_eq,
  val_le,
  val_lt,
  val_add-pos,
  pos-add_val,
  val_add-neg,
  neg-add_val,
  val_mul-pos,
  pos-mul_val,
  val_mul-neg,
  neg-mul_val,
  val_eq-pos,
  pos-eq_val,
  val_eq-neg,
  neg-eq_val,
  val_le-pos,
  pos-le_val,
  val_le-neg,
  neg-le_val,
  val_lt-pos,
  pos-lt_val,
  val_lt-neg,
  neg-lt_val,
)

-- ---- the solver
pub ring : {ρ : Env} {e : Expr} → Left (clean (norm e)) → Zero ρ e
ring {ρ} {e} t = record { holds = clean_sound ρ e ∙ none_left ρ (clean (norm e)) t }

-- ---- a statement about all integers holds if it holds of expressions' variables
infixr 5 ◌▸◌
◌▸◌ : ℤ → Env → Env
(x ▸ ρ) zero = x
(x ▸ ρ) (suc i) = ρ i

no_more : Env
no_more i = pos 0

pub vars1 : (P : ℤ → Type 0) → ((ρ : Env) → P (val ρ (var 0))) → (x : ℤ) → P x
unfolding val ◌▸◌
vars1 P f x = f (x ▸ no_more)

pub vars2 : (P : ℤ → ℤ → Type 0) → ((ρ : Env) → P (val ρ (var 0)) (val ρ (var 1))) → (x y : ℤ) → P x y
unfolding val ◌▸◌
vars2 P f x y = f (x ▸ y ▸ no_more)

pub vars3 : (P : ℤ → ℤ → ℤ → Type 0) → ((ρ : Env) → P (val ρ (var 0)) (val ρ (var 1)) (val ρ (var 2))) → (x y z : ℤ) → P x y z
unfolding val ◌▸◌
vars3 P f x y z = f (x ▸ y ▸ z ▸ no_more)

pub vars4 : (P : ℤ → ℤ → ℤ → ℤ → Type 0) → ((ρ : Env) → P (val ρ (var 0)) (val ρ (var 1)) (val ρ (var 2)) (val ρ (var 3))) → (x y z u : ℤ) → P x y z u
unfolding val ◌▸◌
vars4 P f x y z u = f (x ▸ y ▸ z ▸ u ▸ no_more)

pub vars5 : (P : ℤ → ℤ → ℤ → ℤ → ℤ → Type 0)
    → ((ρ : Env) → P (val ρ (var 0)) (val ρ (var 1)) (val ρ (var 2)) (val ρ (var 3)) (val ρ (var 4))) → (x y z u v : ℤ) → P x y z u v
unfolding val ◌▸◌
vars5 P f x y z u v = f (x ▸ y ▸ z ▸ u ▸ v ▸ no_more)

pub vars6 : (P : ℤ → ℤ → ℤ → ℤ → ℤ → ℤ → Type 0)
    → ((ρ : Env) → P (val ρ (var 0)) (val ρ (var 1)) (val ρ (var 2)) (val ρ (var 3)) (val ρ (var 4)) (val ρ (var 5))) → (x y z u v w : ℤ)
    → P x y z u v w
unfolding val ◌▸◌
vars6 P f x y z u v w = f (x ▸ y ▸ z ▸ u ▸ v ▸ w ▸ no_more)

pub vars7 : (P : ℤ → ℤ → ℤ → ℤ → ℤ → ℤ → ℤ → Type 0)
    → ((ρ : Env) → P (val ρ (var 0)) (val ρ (var 1)) (val ρ (var 2)) (val ρ (var 3)) (val ρ (var 4)) (val ρ (var 5)) (val ρ (var 6)))
    → (x y z u v w a : ℤ) → P x y z u v w a
unfolding val ◌▸◌
vars7 P f x y z u v w a = f (x ▸ y ▸ z ▸ u ▸ v ▸ w ▸ a ▸ no_more)

pub vars8 : (P : ℤ → ℤ → ℤ → ℤ → ℤ → ℤ → ℤ → ℤ → Type 0)
    → ((ρ : Env) → P (val ρ (var 0)) (val ρ (var 1)) (val ρ (var 2)) (val ρ (var 3)) (val ρ (var 4)) (val ρ (var 5)) (val ρ (var 6)) (val ρ (var 7)))
    → (x y z u v w a b : ℤ) → P x y z u v w a b
unfolding val ◌▸◌
vars8 P f x y z u v w a b = f (x ▸ y ▸ z ▸ u ▸ v ▸ w ▸ a ▸ b ▸ no_more)
