-- What a forecast and a straightening of its size and setting promise together. Assumes nothing.
use Prim.Native.Nat.{ℕ, ◌*◌, zero, suc, ◌≤◌, ◌<◌, max}
use mathlib.Core.Path.{◌≡◌, refl, sym, ap, ◌∙◌}
use mathlib.Core.Bool.{Bool, true, false, or-true}
use mathlib.Core.List.{List}
use native.Mathlib.Nat.{mul-pos, le_trans}
use native.Mathlib.Omega.{arith}
use borrow.Author.Tests.{lt-ltb}
use lib.Dec.{ltb}
use lib.IntN.{ℤ, pos, nat_abs}
use lib.ListN.{length}
use Rattle.arith.proofs.Laws.{≤ℤ_trans}
use Rattle.arith.proofs.Within.{size_within}
use Rattle.lists.specs.Line.{line}
use Rattle.lists.proofs.Ends.{smallest_is, largest_is, extreme_has}
use Rattle.std.specs.Prelude.{Ok, Err}
use Rattle.refusals.specs.declared.Refusal.TheVariants.{TooShort, TooLarge}
use Rattle.refusals.specs.Tests.{bad_size, short, AllWithin}
use Rattle.refusals.specs.Judging.{accepted, refused_if, answer_by, number_of}
use Rattle.settings.specs.declared.Border.{Border}
use Rattle.settings.specs.declared.Setting.{Setting}
use Rattle.kernels.specs.declared.Kernel.{Kernel}
use Rattle.kernels.specs.declared.Kernel.TheVariants.{Linear, Keys, Spline}
use Rattle.moves.specs.Border.{grey}
use Rattle.moves.proofs.Range.{range_within, kernel_linear}
use Rattle.moves.proofs.Reach.{reach}
use Rattle.passes.proofs.Reach.{straighten_reach}
use Rattle.acceptance.specs.Judge.{range, too_short, judged_on, Fit}
use Rattle.acceptance.proofs.Accepted.{fit_size, fit_accepted, answered_zero}
use Rattle.pictures.specs.Answer.{Outcome, smallest_of, largest_of, kernel_in, row_moves, column_moves}
use Rattle.pictures.proofs.Call.{refused-answer, answered_once, was_accepted, was_fit, was_straightened, was_told}
use Rattle.forecasts.specs.declared.Figures.{Figures}
use Rattle.forecasts.specs.Figures.{judged_ahead, largest_in, bound_of, figures_of, Foretold, figures_in, forecast_of}
use Rattle.forecasts.specs.TwoCalls.{TwoCalls, Bounded, AllBounded, Holds, Kept}
use Rattle.forecasts.proofs.Accepted.{Foreseeable, accepted_ahead, only_largest}

-- ---- the bound is what three passes reach
three_reaches : (κ : Kernel) (M : ℕ) → reach κ (reach κ (reach κ M)) ≡ bound_of κ M
three_reaches Linear M = refl
three_reaches Keys M = refl
three_reaches Spline M = omega arith

-- ---- neither a sample within M nor the background is larger
samples_small : (β : Border) (M : ℕ) → M ≤ largest_in β M
samples_small β M = omega arith

background_small : (β : Border) (M : ℕ) → nat_abs (grey β) ≤ largest_in β M
background_small β M = omega arith

in_range : (β : Border) (M : ℕ) → M ≤ 32767 → nat_abs (grey β) ≤ 32767 → largest_in β M ≤ 32767
in_range β M few plain = omega arith

-- ---- the work is what number 2 asks for
work_short : (W H picture result work : ℕ) → work < 12 * max W H → too_short W H picture result work ≡ true
unfolding too_short short
work_short W H picture result work less = rw (lt-ltb work (12 * max W H) less, or-true (ltb result (W * H))) (or-true (ltb picture (W * H)))

short-refused : (other : Bool) (W H : ℕ) (s : Setting) (picture : List ℤ) (result work : ℕ) → bad_size W H ≡ false → work < 12 * max W H
    → judged_on other W H s picture result work ≡ Err TooShort
unfolding judged_on
short-refused other W H s picture result work size less = rw (size, work_short W H (length picture) result work less) refl

-- ---- the two calls
module _ {other : Bool} {W H : ℕ} {s : Setting} {M : ℕ} {f : Foretold} {picture result work : List ℤ} {r : Outcome} {result' work' : List ℤ}
    (two : TwoCalls other W H s M f picture result work r result' work') where
  foretold : f ≡ answer_by (judged_ahead W H s M) (figures_of W H s M)
  unfolding forecast_of
  foretold = two.forecast

  module _ (told_zero : number_of f ≡ 0) where
    judged : judged_ahead W H s M ≡ accepted
    judged = answered_zero _ (figures_of W H s M) (sym (ap number_of foretold) ∙ told_zero)

    told : figures_in f ≡ figures_of W H s M
    told = rw (foretold, judged) refl

    passed : Foreseeable W H s M
    passed = accepted_ahead W H s M judged

    -- the largest size of any sample that goes into a line
    abbrev size : ℕ
    size = largest_in s.border M

    module _ (done : number_of r ≡ 0) (each : AllWithin M (W * H) picture) where
      small : AllWithin size (W * H) picture
      small i l = le_trans (each i l) (samples_small s.border M)

      -- under linear by the range that Q-12 promises
      by_range : s.kernel ≡ 0 → AllBounded (pos size) (W * H) result'
      by_range linear i l =
          let range = range_within s.border (W * H) picture size (mul-pos passed.width.0 passed.height.0) small (background_small s.border M) in
          let between = two.straightening.no_overshoot (was_accepted other two.straightening done) linear i l in
          (≤ℤ_trans range.0 between.0, ≤ℤ_trans between.1 range.1)

      -- and under the others by how far three passes reach
      by_reach : AllBounded (pos (bound_of (kernel_in s) size)) (W * H) result'
      by_reach i l =
          let reached = straighten_reach s.border (kernel_in s) (row_moves s) (column_moves s) picture passed.width.0 passed.height.0 size
          (in_range s.border M passed.small passed.setting.background) (background_small s.border M) small i l in
          size_within (line result' i) (bound_of (kernel_in s) size) (rw (was_straightened other two.straightening done i l, ← three_reaches (kernel_in s) size) reached)

      within : (kernel : ℕ) → s.kernel ≡ kernel → AllBounded (pos (bound_of (kernel_in s) size)) (W * H) result'
      within zero linear = rw (kernel_linear s.kernel linear) (by_range linear)
      within (suc k) e = by_reach

      bounded : AllBounded (figures_in f).bound (W * H) result'
      bounded = rw told (within s.kernel refl)

      extremes : Bounded (figures_in f).bound (smallest_of r) × Bounded (figures_in f).bound (largest_of r)
      extremes =
          let figures = was_told other two.straightening done in
          let some = mul-pos passed.width.0 passed.height.0 in
          rw (figures.0, figures.1) (
            extreme_has _ (Bounded (figures_in f).bound) (line result') (W * H) _ (smallest_is (line result') (W * H) some) bounded,
            extreme_has _ (Bounded (figures_in f).bound) (line result') (W * H) _ (largest_is (line result') (W * H) some) bounded,
          )

    fits : W * H ≤ length picture → W * H ≤ length result → (figures_in f).work ≤ length work → AllWithin 32767 (W * H) picture → Fit W H s picture (length result) (length work)
    fits p q w range =
        record {
          width = passed.width;
          height = passed.height;
          picture_places = p;
          result_places = q;
          work_places_lent = omega (arith, ap (λ (g : Figures). g.work) told);
          setting = passed.setting;
          samples = range;
        }

    holds : Holds other W H M f picture result work r result' work'
    holds =
        record {
          count = λ done. rw told (was_told other two.straightening done).2;
          bound = bounded;
          extremes = extremes;
          short = λ less.
              answered_once (rw (short-refused other W H s picture (length result) (length work) (fit_size W H passed.width passed.height) (omega (arith, ap (λ (g : Figures). g.work) told))) at two.straightening)
              (refused-answer (Err TooShort) W H s picture result work TooShort refl);
          enough = λ single p q w each.
              two.straightening.number ∙ rw (single, fit_accepted W H s picture (length result) (length work) (fits p q w (λ i l. omega (arith, each i l, passed.small)))) refl;
        }

  -- a forecast that is judged by M alone
  by_largest : (t : Bool) (figures : Figures) → answer_by (refused_if t TooLarge accepted) figures
      ≡ refused_if t TooLarge (Ok (figures_in (answer_by (refused_if t TooLarge accepted) figures)))
  by_largest true figures = refl
  by_largest false figures = refl

  pub kept : Kept other W H M f picture result work r result' work'
  kept =
      record {
        holds = λ told_zero. holds told_zero;
        none_left_out = λ zero.
            let fit = was_fit other two.straightening zero in
            rw (foretold, only_largest W H s M fit.width fit.height fit.setting) (by_largest (ltb range M) (figures_of W H s M));
      }
