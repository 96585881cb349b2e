-- A line of fractions moved exactly, `ExactLine`: there is one (`exact_line`), and all are the same fractions (`exact_line_only`).
-- Assumes nothing.
use mathlib.Core.Path.{◌≡◌, refl, sym, ap, ◌∙◌, subst, fun_ext}
use Prim.Native.Nat.{ℕ, ◌*◌, ◌%◌, ◌<◌}
use native.Mathlib.Nat.{mod-lt}
use lib.IntN.{ℤ, pos, ◌*ℤ◌, *ℤ_comm}
use lib.Signed.{◌<ℤ◌}
use Rattle.arith.proofs.Ring.{var, ⊟◌, ◌⊠◌, reify, vars5, vars8}
use Rattle.arith.proofs.Cert.{equal, ◌⊙◌, ◌⊜◌}
use Rattle.arith.proofs.Laws.{cancel, *ℤ_positive}
use Rattle.lists.specs.Line.{Line, wrap}
use Rattle.lists.proofs.Cyclic.{wrap_periodic}
use Rattle.kernels.specs.declared.Kernel.{Kernel}
use Rattle.kernels.specs.declared.Kernel.TheVariants.{Linear, Keys, Spline}
use Rattle.kernels.specs.Kernel.{norm, D³}
use Rattle.moves.specs.Move.{mixed}
use Rattle.kernels.proofs.Weights.{norm_positive}
use Rattle.moves.proofs.Mixed.{mixed_times}
use Rattle.spline.specs.Exact.{Solution}
use Rattle.spline.proofs.Exact.{coefficients_only}
use Rattle.exact.specs.ExactLine.{Weighed, ExactLine}
use Rattle.spline.proofs.Existence.{exact, denominator, exact_solution}

-- ---- there is one, over a number that depends on the kernel, the length and q alone
unfoldable pub weighed-line : Kernel → ℕ → Line → Line
weighed-line Linear N S = wrap N S
weighed-line Keys N S = wrap N S
weighed-line Spline N S = exact N (wrap N S)

unfoldable pub weighed_over : Kernel → ℕ → ℤ → ℤ
weighed_over Linear N q = q
weighed_over Keys N q = q
weighed_over Spline N q = denominator N *ℤ q

pub is_weighed : (κ : Kernel) (N : ℕ) (S : Line) (q : ℤ) → 0 < N → pos 0 <ℤ q → Weighed κ N S q (weighed-line κ N S) (weighed_over κ N q)
unfolding weighed-line weighed_over
is_weighed Linear N S q h hq = (refl, refl)
is_weighed Keys N S q h hq = (refl, refl)
is_weighed Spline N S q h hq = exact_solution q h hq (wrap_periodic N S)

unfoldable pub exact_moved : Kernel → ℕ → ℤ → Line → Line
exact_moved κ N d S = mixed κ N d (weighed-line κ N S)

unfoldable pub exact_over : Kernel → ℕ → ℤ → ℤ
exact_over κ N q = pos (norm κ * D³) *ℤ weighed_over κ N q

pub exact_line : (κ : Kernel) (N : ℕ) (d : ℤ) (S : Line) (q : ℤ) → 0 < N → pos 0 <ℤ q
    → ExactLine κ N d S q (exact_moved κ N d S) (exact_over κ N q)
unfolding exact_moved exact_over
exact_line κ N d S q h hq = record { weighed = weighed-line κ N S; over = weighed_over κ N q; is = is_weighed κ N S q h hq; sums = λ k l. refl }

over_positive : {κ : Kernel} {N : ℕ} {d : ℤ} {S E : Line} {q Z : ℤ} → pos 0 <ℤ q → (a : ExactLine κ N d S q E Z) → pos 0 <ℤ a.over
over_positive {κ = Linear} hq a = subst (λ r. pos 0 <ℤ r) (sym a.is.1) hq
over_positive {κ = Keys} hq a = subst (λ r. pos 0 <ℤ r) (sym a.is.1) hq
over_positive {κ = Spline} hq a = a.is.positive

pub exact_over_positive : (κ : Kernel) (N : ℕ) (q : ℤ) → 0 < N → pos 0 <ℤ q → pos 0 <ℤ exact_over κ N q
unfolding exact_over exact_line
exact_over_positive κ N q h hq = *ℤ_positive (pos (norm κ * D³)) (weighed_over κ N q) (norm_positive κ) (over_positive hq (exact_line κ N (pos 0) (λ k. pos 0) q h hq))

-- ---- and one only: of equal fractions, equal fractions
pub record Same (N : ℕ) (S : Line) (q : ℤ) (S' : Line) (q' : ℤ) : Type 0 where
  pub place : (k : ℕ) → k < N → S k *ℤ q' ≡ S' k *ℤ q

module _ {N : ℕ} {S S' : Line} {q q' : ℤ} (h : 0 < N) (hq : pos 0 <ℤ q) (hq' : pos 0 <ℤ q') (same : Same N S q S' q') where
  wrapped_same : (i : ℕ) → wrap N S i *ℤ q' ≡ wrap N S' i *ℤ q
  unfolding wrap
  wrapped_same i = same.place (i % N) (mod-lt i h)

  direct_same : {Y Y' : Line} {R R' : ℤ} → (Y ≡ wrap N S) × (R ≡ q) → (Y' ≡ wrap N S') × (R' ≡ q') → (i : ℕ) → Y i *ℤ R' ≡ Y' i *ℤ R
  direct_same is is' i = (λ j. is.0 j i *ℤ is'.1 j) ∙ wrapped_same i ∙ sym (λ j. is'.0 j i *ℤ is.1 j)

  weighed_same : (κ : Kernel) {d : ℤ} {E E' : Line} {Z Z' : ℤ} (a : ExactLine κ N d S q E Z) (a' : ExactLine κ N d S' q' E' Z') (i : ℕ)
      → a.weighed i *ℤ a'.over ≡ a'.weighed i *ℤ a.over
  weighed_same Linear a a' = direct_same a.is a'.is
  weighed_same Keys a a' = direct_same a.is a'.is
  weighed_same Spline a a' = coefficients_only h hq hq' a.is a'.is wrapped_same

  pub exact_line_only : {κ : Kernel} {d : ℤ} {E E' : Line} {Z Z' : ℤ} → ExactLine κ N d S q E Z → ExactLine κ N d S' q' E' Z'
      → Same N E Z E' Z'
  exact_line_only {κ} {d} {E} {E'} {Z} {Z'} a a' = record { place = place }
    where
      n : ℤ
      n = pos (norm κ * D³)

      A : ℤ
      A = n *ℤ a.over

      A' : ℤ
      A' = n *ℤ a'.over

      mixed_same : (k : ℕ) → a'.over *ℤ mixed κ N d a.weighed k ≡ a.over *ℤ mixed κ N d a'.weighed k
      mixed_same k =
          sym (mixed_times κ N d a'.over a.weighed k) ∙ ap (λ x. mixed κ N d x k) (fun_ext (λ i. *ℤ_comm a'.over (a.weighed i)
          ∙ weighed_same κ a a' i ∙ *ℤ_comm (a'.weighed i) a.over)) ∙ mixed_times κ N d a.over a'.weighed k

      scaled : (W W' n R R' : ℤ) → R' *ℤ W ≡ R *ℤ W' → W *ℤ (n *ℤ R') ≡ W' *ℤ (n *ℤ R)
      scaled = vars5 _ (simp reify (λ ρ e. equal (var 2 ⊙ e) tt))

      joined : (E E' W W' A A' Z Z' : ℤ) → E *ℤ A ≡ W *ℤ Z → E' *ℤ A' ≡ W' *ℤ Z' → W *ℤ A' ≡ W' *ℤ A
          → A *ℤ A' *ℤ (E *ℤ Z') ≡ A *ℤ A' *ℤ (E' *ℤ Z)
      joined = vars8 _ (simp reify (λ ρ e e' w. equal ((var 5 ⊠ var 7) ⊙ e ⊜ (⊟ (var 4 ⊠ var 6)) ⊙ e' ⊜ (var 6 ⊠ var 7) ⊙ w) tt))

      positive : pos 0 <ℤ (A *ℤ A')
      positive = *ℤ_positive A A' (*ℤ_positive n a.over (norm_positive κ) (over_positive hq a)) (*ℤ_positive n a'.over (norm_positive κ) (over_positive hq' a'))

      place : (k : ℕ) → k < N → E k *ℤ Z' ≡ E' k *ℤ Z
      place k l = let w = mixed κ N d a.weighed k in
          let w' = mixed κ N d a'.weighed k in
          cancel (A *ℤ A') (E k *ℤ Z') (E' k *ℤ Z) positive (joined (E k) (E' k) w w' A A' Z Z' (a.sums k l) (a'.sums k l) (scaled w w' n a.over a'.over (mixed_same k)))
