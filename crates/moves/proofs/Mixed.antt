-- The weighted sum of a multiple of a line, of a line of one grey, and of a line with a number added to each sample. Assumes nothing.
use mathlib.Core.Path.{◌≡◌, ap, ◌∙◌}
use Prim.Native.Nat.{ℕ, ◌+◌, ◌*◌}
use lib.IntN.{ℤ, pos, ◌+ℤ◌, ◌*ℤ◌, *ℤ_comm}
use Rattle.arith.proofs.Ring.{ring, reify, vars3}
use Rattle.arith.proofs.Sums.{Σ_cong, Σ-+ℤ, Σ-*ℤ}
use Rattle.lists.specs.Line.{Line}
use Rattle.kernels.specs.declared.Kernel.{Kernel}
use Rattle.kernels.specs.Kernel.{norm, D³, weight, weigh}
use Rattle.arith.specs.Move.{fraction}
use Rattle.moves.specs.Move.{first, mixed}
use Rattle.kernels.proofs.Weights.{weights_sum}

pub mixed_times : (κ : Kernel) (N : ℕ) (d c : ℤ) (x : Line) (k : ℕ) → mixed κ N d (λ i. c *ℤ x i) k ≡ c *ℤ mixed κ N d x k
unfolding mixed weigh
mixed_times κ N d c x k = Σ_cong (λ i. w i *ℤ (c *ℤ y i)) (λ i. c *ℤ (w i *ℤ y i)) 4 (λ i l. swap (w i) c (y i)) ∙ Σ-*ℤ c (λ i. w i *ℤ y i) 4
  where
    w : Line
    w = weight κ (pos (fraction d))

    y : Line
    y i = x (first N d + k + i)

    swap : (w c x : ℤ) → w *ℤ (c *ℤ x) ≡ c *ℤ (w *ℤ x)
    swap = vars3 _ (simp reify (λ ρ. ring tt))

pub mixed-grey : (κ : Kernel) (N : ℕ) (d g : ℤ) (k : ℕ) → mixed κ N d (λ i. g) k ≡ g *ℤ pos (norm κ * D³)
unfolding mixed weigh
mixed-grey κ N d g k = Σ_cong (λ i. w i *ℤ g) (λ i. g *ℤ w i) 4 (λ i l. *ℤ_comm (w i) g) ∙ Σ-*ℤ g w 4 ∙ ap (λ t. g *ℤ t) (weights_sum κ (pos (fraction d)))
  where
    w : Line
    w = weight κ (pos (fraction d))

-- the number counts n·D³ times, as in one grey
pub mixed_plus : (κ : Kernel) (N : ℕ) (d c : ℤ) (x : Line) (k : ℕ) → mixed κ N d (λ i. x i +ℤ c) k ≡ mixed κ N d x k +ℤ pos (norm κ * D³) *ℤ c
mixed_plus κ N d c x k = sum ∙ ap (λ t. mixed κ N d x k +ℤ t) (mixed-grey κ N d c k ∙ *ℤ_comm c (pos (norm κ * D³)))
  where
    w : Line
    w = weight κ (pos (fraction d))

    y : Line
    y i = x (first N d + k + i)

    apart : (w x c : ℤ) → w *ℤ (x +ℤ c) ≡ w *ℤ x +ℤ w *ℤ c
    apart = vars3 _ (simp reify (λ ρ. ring tt))

    sum : mixed κ N d (λ i. x i +ℤ c) k ≡ mixed κ N d x k +ℤ mixed κ N d (λ i. c) k
    sum = unfold mixed weigh in Σ_cong (λ i. w i *ℤ (y i +ℤ c)) (λ i. w i *ℤ y i +ℤ w i *ℤ c) 4 (λ i l. apart (w i) (y i) c) ∙ Σ-+ℤ (λ i. w i *ℤ y i) (λ i. w i *ℤ c) 4
