-- A picture that is moved and then straightened is straightened as the moved picture, and demand 3 is measured on that. Assumes nothing.
use Prim.Native.Nat.{ℕ, ◌*◌, ◌≤◌, ◌<◌}
use mathlib.Core.Path.{◌≡◌, sym, ap, ◌∙◌, subst}
use mathlib.Core.Bool.{Bool}
use mathlib.Core.List.{List, ◌++◌}
use lib.IntN.{ℤ, pos, nat_abs}
use lib.ListN.{length, take, drop}
use lib.Seq.{get_or-take}
use Rattle.lists.specs.Line.{line}
use Rattle.refusals.specs.Judging.{when_accepted}
use Rattle.settings.specs.declared.Setting.{Setting}
use Rattle.passes.specs.Picture.{straighten}
use Rattle.exact.specs.Limits.{Demand3}
use Rattle.exact.proofs.Demand.{straighten-demand3}
use Rattle.acceptance.specs.Judge.{Fit}
use Rattle.pictures.specs.Answer.{Outcome, kernel_in, row_moves, column_moves}
use Rattle.pictures.proofs.Call as single
use Rattle.arrangements.specs.Moves.{screen, stored, moved}
use Rattle.quarters.specs.Answer.{Moved, width_of, height_of}
use Rattle.quarters.proofs.Calls.{was_area, was_front}
use Rattle.sideways.specs.TwoCalls.{MovedFirst, OnTheMoved}

module _ {other : Bool} {W H m : ℕ} {s mid mid' : List ℤ} {r : Moved} {set : Setting} {result work : List ℤ} {q : Outcome} {result' work' : List ℤ}
    (c : MovedFirst other W H m s mid mid' r set result work q result' work') where
  -- the moved picture, and the number of its samples
  abbrev p : List ℤ
  p = stored (moved m (screen W H s))

  abbrev n : ℕ
  n = width_of r * height_of r

  -- its three passes
  abbrev passes : List ℤ → List ℤ
  passes = straighten set.border (kernel_in set) (width_of r) (height_of r) (row_moves set) (column_moves set)

  fit : Fit (width_of r) (height_of r) set mid' (length result) (length work)
  fit = single.was_fit other c.second c.second_accepted

  -- what was handed in are the samples of the moved picture
  front : take n mid' ≡ p
  front = ap (λ (k : ℕ). take k mid') (was_area c.first c.first_accepted) ∙ was_front c.first c.first_accepted

  samples : take n result' ≡ passes p
  samples =
      single.first-places fit result result'
      (c.second.written ∙ ap (λ v. when_accepted v (passes (take n mid') ++ drop n result) result) (single.was_accepted other c.second c.second_accepted))
      ∙ sym (single.straighten_takes set.border (kernel_in set) (width_of r) (height_of r) (row_moves set) (column_moves set) mid' fit.width.0 fit.height.0)
      ∙ ap passes front

  within : (i : ℕ) → i < n → nat_abs (line p i) ≤ 32767
  within i l = subst (λ (v : ℤ). nat_abs v ≤ 32767) (sym (get_or-take n mid' i (pos 0) l) ∙ ap (λ (t : List ℤ). line t i) front) (fit.samples i l)

  pub moved-straightened : OnTheMoved W H m s r set result'
  moved-straightened =
      record {
        samples = samples;
        demand3 =
            subst (λ (v : List ℤ). Demand3 set.border (kernel_in set) (width_of r) (height_of r) (row_moves set) (column_moves set) p v) (sym samples)
            (straighten-demand3 set.border (kernel_in set) (width_of r) (height_of r) (row_moves set) (column_moves set) p fit.width.0 fit.height.0 fit.setting.background within);
      }
