-- Demand 3 in document 01's own numerals: of every exact picture E over Q of the samples, with v the result, Q is positive, and at every place
-- 2|vQ - E| ≤ 3Q, |vQ - E| ≤ 2Q or |vQ - E| ≤ 10Q for kernels 0, 1, 2; vQ = E where all samples are equal and the background
-- has that grey too, and where every row and every column moves by a multiple of 4,096. Assumes nothing.
use mathlib.Core.Path.{◌≡◌, sym, ◌∙◌}
use mathlib.Core.List.{List}
use Prim.Native.Nat.{ℕ, ◌*◌, ◌≤◌, ◌<◌}
use native.Mathlib.Omega.{arith}
use lib.IntN.{ℤ, pos, nat_abs, ◌-ℤ◌, ◌*ℤ◌}
use lib.Signed.{◌≤ℤ◌, ◌<ℤ◌}
use Rattle.arith.proofs.Bridge.{bridge, all2}
use Rattle.lists.specs.Line.{line}
use Rattle.settings.specs.declared.Border.{Border}
use Rattle.settings.specs.declared.Border.TheVariants.{Wrapped, Background}
use Rattle.kernels.specs.declared.Kernel.{Kernel}
use Rattle.kernels.specs.declared.Kernel.TheVariants.{Linear, Keys, Spline}
use Rattle.exact.specs.ExactPicture.{ExactList}
use Rattle.exact.specs.Limits.{limit, OneGrey, Demand3}
use Rattle.exact.proofs.Border.{Agrees}

-- |vQ - E| at place i
abbrev distance : List ℤ → List ℤ → ℤ → ℕ → ℤ
distance v E Q i = pos (nat_abs (line v i *ℤ Q -ℤ line E i))

module _ {β : Border} {W H : ℕ} {rows columns : ℕ → ℤ} {s v E : List ℤ} {Q : ℤ} where
  pub linear_limit : Demand3 β Linear W H rows columns s v → ExactList β Linear W H rows columns s E Q → (i : ℕ) → i < W * H
      → (pos 0 <ℤ Q) × ((pos 2 *ℤ distance v E Q i) ≤ℤ (pos 3 *ℤ Q))
  linear_limit held e i l =
      let positive = e.exact.third.positive in
      (positive, within (line v i *ℤ Q -ℤ line E i) Q positive (held.near e i l))
    where
      within : (x Q : ℤ) → pos 0 <ℤ Q → 2 * nat_abs x ≤ limit Linear * nat_abs Q → (pos 2 *ℤ pos (nat_abs x)) ≤ℤ (pos 3 *ℤ Q)
      within = all2 _ (simp bridge (omega arith))

  pub keys_limit : Demand3 β Keys W H rows columns s v → ExactList β Keys W H rows columns s E Q → (i : ℕ) → i < W * H
      → (pos 0 <ℤ Q) × (distance v E Q i ≤ℤ (pos 2 *ℤ Q))
  keys_limit held e i l =
      let positive = e.exact.third.positive in
      (positive, within (line v i *ℤ Q -ℤ line E i) Q positive (held.near e i l))
    where
      within : (x Q : ℤ) → pos 0 <ℤ Q → 2 * nat_abs x ≤ limit Keys * nat_abs Q → pos (nat_abs x) ≤ℤ (pos 2 *ℤ Q)
      within = all2 _ (simp bridge (omega arith))

  pub spline_limit : Demand3 β Spline W H rows columns s v → ExactList β Spline W H rows columns s E Q → (i : ℕ) → i < W * H
      → (pos 0 <ℤ Q) × (distance v E Q i ≤ℤ (pos 10 *ℤ Q))
  spline_limit held e i l =
      let positive = e.exact.third.positive in
      (positive, within (line v i *ℤ Q -ℤ line E i) Q positive (held.near e i l))
    where
      within : (x Q : ℤ) → pos 0 <ℤ Q → 2 * nat_abs x ≤ limit Spline * nat_abs Q → pos (nat_abs x) ≤ℤ (pos 10 *ℤ Q)
      within = all2 _ (simp bridge (omega arith))

  pub grey_equal : {κ : Kernel} (g : ℤ) → Demand3 β κ W H rows columns s v → ExactList β κ W H rows columns s E Q
      → Agrees β g
      → ((i : ℕ) → i < W * H → line s i ≡ g)
      → (i : ℕ) → i < W * H → line v i *ℤ Q ≡ line E i
  grey_equal g held e agrees grey = held.grey (one β agrees) e
    where
      one : (β : Border) → Agrees β g → OneGrey β W H s
      one Wrapped agrees = λ i j hi hj. grey i hi ∙ sym (grey j hj)
      one (Background b) agrees = λ i hi. grey i hi ∙ sym agrees

  pub whole_equal : {κ : Kernel} (m n : ℕ → ℤ) → Demand3 β κ W H rows columns s v → ExactList β κ W H rows columns s E Q
      → ((y : ℕ) → y < H → rows y ≡ pos 4096 *ℤ m y)
      → ((x : ℕ) → x < W → columns x ≡ pos 4096 *ℤ n x)
      → (i : ℕ) → i < W * H → line v i *ℤ Q ≡ line E i
  whole_equal m n held e hr hc = held.whole (λ y l. (m y, hr y l), λ x l. (n x, hc x l)) e
