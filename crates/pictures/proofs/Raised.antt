-- A number added to every sample and to the background of a picture is added to every sample of the picture straightened under linear or Keys, and to within
-- 13 units under the spline. Assumes nothing.
use Prim.Native.Nat.{ℕ, ◌*◌, ◌≤◌}
use mathlib.Core.Path.{◌≡◌, sym, ap, ◌∙◌}
use mathlib.Core.Bool.{Bool}
use mathlib.Core.List.{List}
use native.Mathlib.Nat.{mul-pos}
use native.Mathlib.Omega.{arith}
use lib.IntN.{ℤ, ◌+ℤ◌}
use lib.ListN.{length}
use Rattle.lists.specs.Line.{line}
use Rattle.lists.proofs.Ends.{smallest_plus, largest_plus}
use Rattle.settings.specs.declared.Setting.{Setting}
use Rattle.moves.specs.Range.{Raised, RaisedWithin}
use Rattle.moves.proofs.Range.{kernel_spline, kernel_not_spline}
use Rattle.passes.proofs.Range.{straighten-raised, count-raised}
use Rattle.passes.proofs.Nearly.{straighten_nearly}
use Rattle.acceptance.specs.Judge.{Fit}
use Rattle.pictures.specs.Answer.{Outcome, kernel_in, row_moves, column_moves}
use Rattle.pictures.specs.Raised.{BothStraightened, PictureRaised}
use Rattle.pictures.proofs.Call.{was_fit, was_straightened, was_told}

-- ---- two accepted calls
module _ {other other₂ : Bool} {c : ℤ} {W H : ℕ} {s : Setting} {picture result work : List ℤ} {r : Outcome} {result' work' picture₂ result₂ work₂ : List ℤ} {r₂ : Outcome} {result₂' work₂' : List ℤ}
    (both : BothStraightened other other₂ c W H s picture result work r result' work' picture₂ result₂ work₂ r₂ result₂' work₂') where
  fit : Fit W H s picture (length result) (length work)
  fit = was_fit other both.first both.first_accepted

  left : s.kernel ≤ 1 → Raised c (W * H) result' result₂'
  left not-spline i l =
      was_straightened other₂ both.second both.second_accepted i l
      ∙ straighten-raised s.border (kernel_in s) (kernel_not_spline s.kernel (omega (arith, not-spline))) (row_moves s) (column_moves s) fit.width.0 fit.height.0 c picture picture₂ both.added i l
      ∙ ap (λ v. v +ℤ c) (sym (was_straightened other both.first both.first_accepted i l))

  nearly : s.kernel ≡ 2 → RaisedWithin 13 c (W * H) result' result₂'
  nearly spline i l =
      let fit₂ = was_fit other₂ both.second both.second_accepted in
      rw (was_straightened other both.first both.first_accepted i l, was_straightened other₂ both.second both.second_accepted i l, kernel_spline s.kernel spline)
      (straighten_nearly s.border (row_moves s) (column_moves s) fit.width.0 fit.height.0 c fit.setting.background fit₂.setting.background picture picture₂ fit.samples fit₂.samples both.added i l)

  pub picture-raised : PictureRaised c W H s r result' r₂ result₂'
  picture-raised =
      let told = was_told other both.first both.first_accepted in
      let told₂ = was_told other₂ both.second both.second_accepted in
      let some : 1 ≤ W * H = mul-pos fit.width.0 fit.height.0 in
      record {
        samples = λ h. left (omega (arith, h));
        smallest = λ h. told₂.0 ∙ smallest_plus c (line result') (line result₂') (W * H) some (left h) ∙ ap (λ v. v +ℤ c) (sym told.0);
        largest = λ h. told₂.1 ∙ largest_plus c (line result') (line result₂') (W * H) some (left h) ∙ ap (λ v. v +ℤ c) (sym told.1);
        nearly = λ h i l. omega (arith, nearly h i l);
        count = told₂.2 ∙ count-raised c s.border W H (row_moves s) (column_moves s) ∙ sym told.2;
      }
