-- The three passes one after the other, each a list of samples made from the list before it. Assumes nothing.
use mathlib.Core.Path.{◌≡◌, sym, ◌∙◌}
use mathlib.Core.List.{List}
use Prim.Native.Nat.{ℕ, ◌*◌, ◌<◌}
use lib.IntN.{ℤ}
use lib.ListN.{length}
use Rattle.settings.specs.declared.Border.{Border}
use Rattle.kernels.specs.declared.Kernel.{Kernel}
use Rattle.lists.specs.Picture.{picture, pictured, Places}
use Rattle.passes.specs.Picture.{turned, rows_moved, after_one, after_two, straighten}
use Rattle.lists.proofs.Picture.{length-pictured, picture-pictured, pictured_same}
use Rattle.passes.proofs.Rows.{moved_row_alone}

-- one pass over the rows, and one over the columns, of a flat list
unfoldable pub rows_pass : Border → Kernel → ℕ → ℕ → (ℕ → ℤ) → List ℤ → List ℤ
rows_pass β κ W H rows s = pictured W H (rows_moved β κ W rows (picture W s))

unfoldable pub columns_pass : Border → Kernel → ℕ → ℕ → (ℕ → ℤ) → List ℤ → List ℤ
columns_pass β κ W H columns s = pictured W H (turned (rows_moved β κ H columns (turned (picture W s))))

pub rows-pass-length : (β : Border) (κ : Kernel) (W H : ℕ) (rows : ℕ → ℤ) (s : List ℤ) → length (rows_pass β κ W H rows s) ≡ W * H
unfolding rows_pass
rows-pass-length β κ W H rows s = length-pictured W H (rows_moved β κ W rows (picture W s))

pub columns_pass-length : (β : Border) (κ : Kernel) (W H : ℕ) (columns : ℕ → ℤ) (s : List ℤ) → length (columns_pass β κ W H columns s) ≡ W * H
unfolding columns_pass
columns_pass-length β κ W H columns s = length-pictured W H (turned (rows_moved β κ H columns (turned (picture W s))))

module _ (β : Border) (κ : Kernel) {W H : ℕ} (rows columns : ℕ → ℤ) (s : List ℤ) (hW : 0 < W) (hH : 0 < H) where
  -- what passes 1 and 2 leave
  pub one : Places W H (λ y x. picture W (rows_pass β κ W H rows s) y x ≡ after_one β κ W rows (picture W s) y x)
  unfolding rows_pass
  one = picture-pictured W H (rows_moved β κ W rows (picture W s))

  pub two : Places W H (λ y x. picture W (columns_pass β κ W H columns (rows_pass β κ W H rows s)) y x ≡ after_two β κ W H rows columns (picture W s) y x)
  unfolding columns_pass
  two y x hy hx =
      picture-pictured W H (turned (rows_moved β κ H columns (turned (picture W (rows_pass β κ W H rows s))))) y x hy hx
      ∙ moved_row_alone β κ H columns (turned (picture W (rows_pass β κ W H rows s))) (turned (after_one β κ W rows (picture W s))) x hH (λ y l. one y x l hx) y

  -- rows, columns, rows
  pub straighten_stages : straighten β κ W H rows columns s ≡ rows_pass β κ W H rows (columns_pass β κ W H columns (rows_pass β κ W H rows s))
  unfolding straighten rows_pass
  straighten_stages =
      pictured_same (rows_moved β κ W rows (after_two β κ W H rows columns (picture W s))) (rows_moved β κ W rows (picture W (columns_pass β κ W H columns (rows_pass β κ W H rows s)))) hW
      (λ y x hy hx. moved_row_alone β κ W rows (after_two β κ W H rows columns (picture W s)) (picture W (columns_pass β κ W H columns (rows_pass β κ W H rows s))) y hW (λ x l. sym (two y x hy l)) x)
