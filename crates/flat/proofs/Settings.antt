-- A flat setting and its changes: each change means the same change of the setting that the flat one stands for, and no change but that of the border
-- touches its two fields, whatever number the border has. Assumes nothing.
use Prim.Native.Nat.{ℕ}
use mathlib.Core.Path.{◌≡◌, refl}
use mathlib.Core.Bool.{Bool, true, false}
use lib.IntN.{ℤ}
use Rattle.settings.specs.Setting.{with_kernel, with_centre, with_shears}
use Rattle.steps.specs.Step.{beyond, change_of, setting_after}
use Rattle.flat.specs.declared.FlatSetting.{FlatSetting}
use Rattle.flat.specs.Exported.{setting_of, laid_as, of_change}

module _ (s : FlatSetting) where
  pub kernel_means : (kernel : ℕ) → setting_of (laid_as s (with_kernel (setting_of s) kernel)) ≡ with_kernel (setting_of s) kernel
  kernel_means kernel = refl

  pub centre_means : (column row : ℕ) → setting_of (laid_as s (with_centre (setting_of s) column row)) ≡ with_centre (setting_of s) column row
  centre_means column row = refl

  pub shears_mean : (A B : ℤ) → setting_of (laid_as s (with_shears (setting_of s) A B)) ≡ with_shears (setting_of s) A B
  shears_mean A B = refl

  pub step_means : (t : ℤ) → setting_of (of_change s (change_of (setting_of s) t)).setting ≡ setting_after (setting_of s) (change_of (setting_of s) t)
  unfolding change_of
  step_means t = by (beyond t) refl
    where
      by : (b : Bool) → beyond t ≡ b → setting_of (of_change s (change_of (setting_of s) t)).setting ≡ setting_after (setting_of s) (change_of (setting_of s) t)
      by true e = rw e refl
      by false e = rw e refl

  -- a refused change by step hands the flat setting back as it was, field by field
  pub step-refused : (t : ℤ) → beyond t ≡ true → (of_change s (change_of (setting_of s) t)).setting ≡ s
  unfolding change_of
  step-refused t e = rw e refl
