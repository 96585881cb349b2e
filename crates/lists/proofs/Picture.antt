-- Places of a picture, and of the flat list of its samples. Assumes nothing.
use mathlib.Core.Path.{◌≡◌, ap, ap₂, ◌∙◌}
use mathlib.Core.List.{List}
use Prim.Native.Nat.{ℕ, ◌+◌, ◌*◌, ◌/◌, ◌%◌, ◌<◌}
use native.Mathlib.Nat.{div-add-mod', div-lt_iff_lt-mul, mod-lt, mod-eq_of_lt, mul-add-mod_self_right, mul-add-div_right, div-eq_of_lt, add-zero, mul_comm, mul-le-mul_right}
use native.Mathlib.Omega.{arith}
use lib.IntN.{ℤ, pos}
use lib.ListN.{length}
use Rattle.lists.specs.Line.{line}
use Rattle.lists.specs.Picture.{Picture, picture, pictured, Places}
use Rattle.lists.proofs.Tab.{tab-length, tab_at, tab_ext}

pub inside : (W H y x : ℕ) → y < H → x < W → y * W + x < W * H
inside W H y x hy hx = omega (arith, mul-le-mul_right W hy)

module _ (W H : ℕ) (p : Picture) where
  pub length-pictured : length (pictured W H p) ≡ W * H
  unfolding pictured
  length-pictured = tab-length (λ i. p (i / W) (i % W)) (W * H)

  pub pictured_at : (i : ℕ) → i < W * H → line (pictured W H p) i ≡ p (i / W) (i % W)
  unfolding pictured
  pictured_at i l = tab_at (λ i. p (i / W) (i % W)) (W * H) i (pos 0) l

  pub picture-pictured : Places W H (λ y x. picture W (pictured W H p) y x ≡ p y x)
  unfolding picture
  picture-pictured y x hy hx =
      pictured_at (y * W + x) (inside W H y x hy hx) ∙ ap₂ p (mul-add-div_right (omega arith) y x ∙ ap (λ n. y + n) (div-eq_of_lt hx) ∙ add-zero y)
      (mul-add-mod_self_right y W x ∙ mod-eq_of_lt hx)

pub picture_at : (W : ℕ) (s : List ℤ) (i : ℕ) → picture W s (i / W) (i % W) ≡ line s i
unfolding picture
picture_at W s i = ap (line s) (div-add-mod' i W)

-- a statement about every place holds at every index
pub at_index : {W H : ℕ} (A : ℕ → ℕ → Type 0) → 0 < W → Places W H A → (i : ℕ) → i < W * H → A (i / W) (i % W)
at_index {W} {H} A h each i l = each (i / W) (i % W) ((div-lt_iff_lt-mul h).1 (omega (arith, mul_comm W H))) (mod-lt i h)

-- pictures that agree at every place are one list
pub pictured_same : {W H : ℕ} (p p' : Picture) → 0 < W → Places W H (λ y x. p y x ≡ p' y x) → pictured W H p ≡ pictured W H p'
unfolding pictured
pictured_same {W} {H} p p' h same = tab_ext (λ i. p (i / W) (i % W)) (λ i. p' (i / W) (i % W)) (W * H) (λ i l. at_index (λ y x. p y x ≡ p' y x) h same i l)
