-- Certificates of inequalities over ℤ, for what is too large for `Bridge`: the author says which products and multiples of the
-- hypotheses make up the goal, and the rest is a computation on polynomials (`Ring`).
--     name : (a b c d : ℤ) → a ≤ℤ b → c ≤ℤ d → (a *ℤ d +ℤ b *ℤ c) ≤ℤ (a *ℤ c +ℤ b *ℤ d)
--     name = vars4 _ (λ ρ. simp reify (λ h k. linear (h ⊗ k) tt))
-- In `linear cert tt` the goal's right side less its left side less `cert` comes to a constant that is not negative.
-- Assumes nothing.
use mathlib.Core.Path.{◌≡◌, sym, ap, ap₂, ◌∙◌, subst}
use mathlib.Core.List.{[], ◌∷◌}
use Prim.Native.Nat.{ℕ, suc, ◌+◌, ◌*◌, ◌≤◌}
use native.Mathlib.Nat.{mul-le-mul_left}
use native.Mathlib.Omega.{arith, by_contra}
use lib.IntN.{ℤ, pos, negsuc, neg_ℤ, ◌+ℤ◌, ◌-ℤ◌, ◌*ℤ◌, *ℤ-zero}
use lib.Signed.{◌≤ℤ◌, le_z_yes, lt_z_yes, clash_ℤ}
use Rattle.arith.proofs.Bridge.{bridge, all1, all2}
use Rattle.arith.proofs.Laws.{pos_non_neg, *ℤ_non_neg, *ℤ_square}
use Rattle.arith.proofs.Ring.{Expr, lit, nlit, ◌⊞◌, ⊟◌, ◌⊠◌, Env, val, Poly, none, more, norm, mono, total, clean, clean_sound, Remains, Left, Zero, NonNeg, ring}

-- ---- a polynomial that is a constant, and not negative: `Short p` is `Unit`, or shows what it is instead
abbrev pub Short : Poly → Type 0
Short none = Unit {0}
Short (more (pos n) [] none) = Unit {0}
Short (more (pos n) [] (more k m p)) = Remains (more (pos n) [] (more k m p))
Short (more (pos n) (i ∷ m) p) = Remains (more (pos n) (i ∷ m) p)
Short (more (negsuc n) m p) = Remains (more (negsuc n) m p)

not_short : (ρ : Env) (p : Poly) → Short p → pos 0 ≤ℤ total ρ p
unfolding mono total
not_short ρ none t = le_z_yes tt
not_short ρ (more (pos n) [] none) t = alone (pos n) (pos_non_neg n)
  where
    alone : (x : ℤ) → pos 0 ≤ℤ x → pos 0 ≤ℤ (x *ℤ pos 1 +ℤ pos 0)
    alone = all1 _ (simp bridge (omega arith))
not_short ρ (more (pos n) [] (more k m p)) t = elim t [ ]
not_short ρ (more (pos n) (i ∷ m) p) t = elim t [ ]
not_short ρ (more (negsuc n) m p) t = elim t [ ]

add_non_neg : (x y : ℤ) → pos 0 ≤ℤ x → pos 0 ≤ℤ y → pos 0 ≤ℤ (x +ℤ y)
add_non_neg = all2 _ (simp bridge (omega arith))

-- ---- the goal, from nothing, from a certificate, and from one for a multiple of the goal, which rounds:
-- (k + 1)·e + k is not below `c`, so e is not negative
module _ {ρ : Env} where
  pub closed : {e : Expr} → Short (clean (norm e)) → NonNeg ρ e
  closed {e} t = record { holds = subst (λ x. pos 0 ≤ℤ x) (sym (clean_sound ρ e)) (not_short ρ (clean (norm e)) t) }

  pub linear : {e c : Expr} → NonNeg ρ c → Short (clean (norm (e ⊞ ⊟ c))) → NonNeg ρ e
  unfolding val
  linear {e} {c} h t = record { holds = add_up (val ρ e) (val ρ c) h.holds (closed {e = e ⊞ ⊟ c} t).holds }
    where
      add_up : (x y : ℤ) → pos 0 ≤ℤ y → pos 0 ≤ℤ (x -ℤ y) → pos 0 ≤ℤ x
      add_up = all2 _ (simp bridge (omega arith))

  pub rounding : {e c : Expr} (k : ℕ) → NonNeg ρ c → Short (clean (norm (lit (suc k) ⊠ e ⊞ lit k ⊞ ⊟ c))) → NonNeg ρ e
  unfolding val
  rounding {e} {c} k h t = record { holds = divide (val ρ e) (linear {e = lit (suc k) ⊠ e ⊞ lit k} h t).holds }
    where
      cancel : (a b : ℕ) → suc k * b ≤ suc k * a + k → 0 + b ≤ a + 0
      cancel a b h = by_contra (0 + b) (a + 0) (λ q. omega (arith, mul-le-mul_left (suc k) q))

      divide : (x : ℤ) → pos 0 ≤ℤ (pos (suc k) *ℤ x +ℤ pos k) → pos 0 ≤ℤ x
      divide = all1 _ (simp bridge (λ a b h. cancel a b (omega arith)))

  -- of equations: each is an inequality both ways, and a multiple by any expression is one
  pub above : {e : Expr} → Zero ρ e → NonNeg ρ e
  above z = record { holds = subst (λ x. pos 0 ≤ℤ x) (sym z.holds) (le_z_yes tt) }

  pub below : {e : Expr} → Zero ρ e → NonNeg ρ (⊟ e)
  unfolding val
  below z = record { holds = subst (λ x. pos 0 ≤ℤ neg_ℤ x) (sym z.holds) (le_z_yes tt) }

  infixl 7 ◌⊙◌
  pub ◌⊙◌ : (a : Expr) {e : Expr} → Zero ρ e → Zero ρ (a ⊠ e)
  unfolding val
  a ⊙ z = record { holds = ap (λ x. val ρ a *ℤ x) z.holds ∙ *ℤ-zero (val ρ a) }

  infixl 6 ◌⊜◌
  pub ◌⊜◌ : {a b : Expr} → Zero ρ a → Zero ρ b → Zero ρ (a ⊞ b)
  unfolding val
  x ⊜ y = record { holds = ap₂ ◌+ℤ◌ x.holds y.holds }

  pub equal : {e c : Expr} → Zero ρ c → Left (clean (norm (e ⊞ ⊟ c))) → Zero ρ e
  unfolding val
  equal {e} {c} z t = record { holds = add_up (val ρ e) (val ρ c) z.holds (ring {e = e ⊞ ⊟ c} t).holds }
    where
      add_up : (x y : ℤ) → y ≡ pos 0 → x -ℤ y ≡ pos 0 → x ≡ pos 0
      add_up = all2 _ (simp bridge (omega arith))

  pub between : {e : Expr} → NonNeg ρ e → NonNeg ρ (⊟ e) → Zero ρ e
  unfolding val
  between {e} h k = record { holds = both (val ρ e) h.holds k.holds }
    where
      both : (x : ℤ) → pos 0 ≤ℤ x → pos 0 ≤ℤ neg_ℤ x → x ≡ pos 0
      both = all1 _ (simp bridge (omega arith))

  -- ---- certificates: sums, products, and multiples of the hypotheses; a square
  infixl 6 ◌⊕◌
  pub ◌⊕◌ : {a b : Expr} → NonNeg ρ a → NonNeg ρ b → NonNeg ρ (a ⊞ b)
  unfolding val
  ◌⊕◌ {a} {b} h k = record { holds = add_non_neg (val ρ a) (val ρ b) h.holds k.holds }

  infixl 7 ◌⊗◌
  pub ◌⊗◌ : {a b : Expr} → NonNeg ρ a → NonNeg ρ b → NonNeg ρ (a ⊠ b)
  unfolding val
  ◌⊗◌ {a} {b} h k = record { holds = *ℤ_non_neg h.holds k.holds }

  infixl 7 ◌·◌
  pub ◌·◌ : {a : Expr} (k : ℕ) → NonNeg ρ a → NonNeg ρ (lit k ⊠ a)
  unfolding val
  ◌·◌ {a} k h = record { holds = *ℤ_non_neg (pos_non_neg k) h.holds }

  pub square : (a : Expr) → NonNeg ρ (a ⊠ a)
  unfolding val
  square a = record { holds = *ℤ_square (val ρ a) }

  -- ---- what cannot be: a certificate that comes to a negative constant
  pub refute : {c : Expr} → NonNeg ρ c → Short (clean (norm (nlit 0 ⊞ ⊟ c))) → ⊥
  unfolding val
  refute {c} h t = clash_ℤ (lt_z_yes tt) (linear {e = nlit 0} h t).holds
