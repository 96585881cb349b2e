-- A number added to every sample and to the background of a line is added to every sample of the line moved under linear or Keys, and to within 1 unit under
-- the spline. Assumes nothing.
use mathlib.Core.Path.{◌≡◌, refl, sym, ap, ◌∙◌}
use mathlib.Core.Bool.{cond}
use mathlib.Core.List.{List}
use Prim.Native.Nat.{ℕ, ◌≤◌, ◌<◌}
use native.Mathlib.Omega.{arith}
use lib.Dec.{ltb}
use lib.IntN.{ℤ, pos, nat_abs, ◌+ℤ◌}
use lib.ListN.{length, take}
use lib.Seq.{get_or-take}
use Rattle.std.specs.Prelude.{Result}
use Rattle.lists.specs.Line.{line}
use Rattle.lists.specs.Ends.{smallest, largest}
use Rattle.lists.proofs.Ends.{smallest_plus, largest_plus}
use Rattle.refusals.specs.declared.Refusal.{Refusal}
use Rattle.refusals.specs.Judging.{number_of}
use Rattle.settings.specs.declared.Border.{Border}
use Rattle.kernels.specs.Kernel.{kernel_of}
use Rattle.moves.specs.Range.{Raised, RaisedWithin}
use Rattle.moves.proofs.Range.{linear_keys_add, fraction-raised, kernel_spline, kernel_not_spline}
use Rattle.moves.proofs.Nearly.{move_in_nearly}
use Rattle.lines.specs.declared.Moved.{Moved}
use Rattle.lines.specs.Answer.{Movable, is_interpolated, outcome_of, count_of, smallest_of, largest_of, LineMoved}
use Rattle.lines.specs.Raised.{BothMoved, LineRaised}
use Rattle.lines.proofs.Answer.{taken, was_accepted, was_movable, was_moved}

-- the figures of an accepted call: the extremes of the first n samples that it left, and whether the line is interpolated
abbrev Told : ℕ → ℤ → Border → List ℤ → Result Moved Refusal → Type 0
Told n d β result' r = (smallest_of r ≡ smallest (line result') n) × (largest_of r ≡ largest (line result') n) × (count_of r ≡ cond (is_interpolated β n d) 1 0)

-- ---- what a call that answers number 0 told
module _ {n kernel : ℕ} {d : ℤ} {β : Border} {line₁ result work result' work' : List ℤ} {r : Result Moved Refusal}
    (a : LineMoved n kernel d β line₁ result work result' work' r) (zero : number_of r ≡ 0) where
  was_told : Told n d β result' r
  unfolding outcome_of
  was_told = rw (a.outcome, was_accepted a zero) (refl, refl, refl)

-- ---- two of them
module _ {c : ℤ} {n kernel : ℕ} {d : ℤ} {β : Border} {line₁ result work result' work' : List ℤ} {r : Result Moved Refusal} {line₂ result₂ work₂ result₂' work₂' : List ℤ} {r₂ : Result Moved Refusal}
    (both : BothMoved c n kernel d β line₁ result work result' work' r line₂ result₂ work₂ result₂' work₂' r₂) where
  m : Movable n d β line₁ (length result) (length work)
  m = was_movable both.first both.first_accepted

  -- the samples that are moved
  handed : Raised c (length (take n line₁)) (take n line₁) (take n line₂)
  handed k l =
      let inside : k < n = omega (arith, taken m) in
      get_or-take n line₂ k (pos 0) inside ∙ both.added k inside ∙ ap (λ v. v +ℤ c) (sym (get_or-take n line₁ k (pos 0) inside))

  left : kernel ≤ 1 → Raised c n result' result₂'
  left not-spline k l =
      was_moved both.second both.second_accepted k l
      ∙ linear_keys_add (kernel_of kernel) (kernel_not_spline kernel (omega (arith, not-spline))) c β d (take n line₁) (take n line₂) (taken (was_movable both.second both.second_accepted) ∙ sym (taken m)) handed k (omega (arith, taken m))
      ∙ ap (λ v. v +ℤ c) (sym (was_moved both.first both.first_accepted k l))

  -- the samples that are moved are within a line's range
  within : {β : Border} {line₀ : List ℤ} {result work : ℕ} (m : Movable n d β line₀ result work) (k : ℕ) → k < n → nat_abs (line (take n line₀) k) ≤ 294912
  within {line₀ = line₀} m k l = rw (get_or-take n line₀ k (pos 0) l) (omega (arith, m.samples k l))

  nearly : kernel ≡ 2 → RaisedWithin 1 c n result' result₂'
  nearly spline k l =
      let m₂ = was_movable both.second both.second_accepted in
      rw (was_moved both.first both.first_accepted k l, was_moved both.second both.second_accepted k l, kernel_spline kernel spline)
      (move_in_nearly c β d (take n line₁) (take n line₂) (taken m₂ ∙ sym (taken m)) m.plain m₂.plain
      (λ k l. within m k (omega (arith, taken m))) (λ k l. within m₂ k (omega (arith, taken m))) handed k (omega (arith, taken m)))

  pub line-raised : LineRaised c n kernel result' r result₂' r₂
  unfolding is_interpolated
  line-raised =
      let told = was_told both.first both.first_accepted in
      let told₂ = was_told both.second both.second_accepted in
      record {
        samples = λ h. left (omega (arith, h));
        smallest = λ h. told₂.0 ∙ smallest_plus c (line result') (line result₂') n m.some (left h) ∙ ap (λ v. v +ℤ c) (sym told.0);
        largest = λ h. told₂.1 ∙ largest_plus c (line result') (line result₂') n m.some (left h) ∙ ap (λ v. v +ℤ c) (sym told.1);
        nearly = nearly;
        count = told₂.2 ∙ ap (λ (f : ℕ). cond (ltb 0 f) 1 0) (fraction-raised c β n d) ∙ sym told.2;
      }
