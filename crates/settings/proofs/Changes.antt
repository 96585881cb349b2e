-- Kernel, centre, shears and border changed: the changed part is what was handed in, every other part is kept, and the later of two changes stands.
-- Assumes nothing.
use Prim.Native.Nat.{ℕ}
use mathlib.Core.Path.{◌≡◌, refl}
use lib.IntN.{ℤ}
use Rattle.settings.specs.declared.Border.{Border}
use Rattle.settings.specs.declared.Setting.{Setting}
use Rattle.settings.specs.Setting.{with_kernel, with_centre, with_shears, with_border}

module _ (s : Setting) where
  -- ---- another kernel
  pub kernel_changed : (kernel : ℕ) → (with_kernel s kernel).kernel ≡ kernel
  kernel_changed kernel = refl

  pub kernel_alone : (kernel : ℕ)
      → ((with_kernel s kernel).cx ≡ s.cx) × ((with_kernel s kernel).cy ≡ s.cy) × ((with_kernel s kernel).a ≡ s.a) × ((with_kernel s kernel).b ≡ s.b)
      × ((with_kernel s kernel).border ≡ s.border)
  kernel_alone kernel = (refl, refl, refl, refl, refl)

  pub kernel_again : (kernel later : ℕ) → with_kernel (with_kernel s kernel) later ≡ with_kernel s later
  kernel_again kernel later = refl

  -- ---- another centre
  pub centre_changed : (column row : ℕ) → ((with_centre s column row).cx ≡ column) × ((with_centre s column row).cy ≡ row)
  centre_changed column row = (refl, refl)

  pub centre_alone : (column row : ℕ)
      → ((with_centre s column row).kernel ≡ s.kernel) × ((with_centre s column row).a ≡ s.a) × ((with_centre s column row).b ≡ s.b)
      × ((with_centre s column row).border ≡ s.border)
  centre_alone column row = (refl, refl, refl, refl)

  pub centre_again : (column row later-column later-row : ℕ)
      → with_centre (with_centre s column row) later-column later-row ≡ with_centre s later-column later-row
  centre_again column row later-column later-row = refl

  -- ---- other shears
  pub shears_changed : (A B : ℤ) → ((with_shears s A B).a ≡ A) × ((with_shears s A B).b ≡ B)
  shears_changed A B = (refl, refl)

  pub shears_alone : (A B : ℤ)
      → ((with_shears s A B).kernel ≡ s.kernel) × ((with_shears s A B).cx ≡ s.cx) × ((with_shears s A B).cy ≡ s.cy)
      × ((with_shears s A B).border ≡ s.border)
  shears_alone A B = (refl, refl, refl, refl)

  pub shears_again : (A B later-A later-B : ℤ) → with_shears (with_shears s A B) later-A later-B ≡ with_shears s later-A later-B
  shears_again A B later-A later-B = refl

  -- ---- another border
  pub border_changed : (border : Border) → (with_border s border).border ≡ border
  border_changed border = refl

  pub border_alone : (border : Border)
      → ((with_border s border).kernel ≡ s.kernel) × ((with_border s border).cx ≡ s.cx) × ((with_border s border).cy ≡ s.cy)
      × ((with_border s border).a ≡ s.a) × ((with_border s border).b ≡ s.b)
  border_alone border = (refl, refl, refl, refl, refl)

  pub border_again : (border later : Border) → with_border (with_border s border) later ≡ with_border s later
  border_again border later = refl
