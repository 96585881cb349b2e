-- The lowest number that applies to a line, and the refusal that has it; and the straightener's verdict on a line that none applies to: its lent
-- places are enough and its samples are in range. Under linear its answer keeps the range of its samples. Assumes nothing.
use Prim.Native.Nat.{ℕ, suc, ◌*◌, ◌≤◌, ◌<◌, max}
use mathlib.Core.Bool.{Bool, true, false, cond}
use mathlib.Core.List.{List}
use mathlib.Core.Path.{◌≡◌, refl, sym, ◌∙◌}
use native.Mathlib.Omega.{arith}
use native.Mathlib.Nat.{mul_comm}
use borrow.Author.Tests.{le-ltb}
use lib.Dec.{T, leb, leb→le}
use lib.IntN.{ℤ, pos, negsuc, neg_ℤ, nat_abs}
use lib.ListN.{length}
use Rattle.arith.proofs.Laws.{nat_abs_neg_ℤ}
use Rattle.lists.proofs.Table.{every, at}
use Rattle.lists.specs.Line.{line}
use Rattle.settings.specs.declared.Border.TheVariants.{Wrapped}
use Rattle.moves.specs.Border.{bad_background}
use Rattle.moves.specs.Range.{InRange}
use Rattle.moves.proofs.Range.{kernel_linear}
use Rattle.passes.specs.Picture.{straighten}
use Rattle.lists.proofs.Picture.{length-pictured}
use Rattle.passes.proofs.Range.{straighten_in_range}
use Rattle.std.specs.Prelude.{None, Result, Ok, Err, ltb}
use Rattle.refusals.specs.Tests.{bad_size, bad_kernel, short}
use Rattle.refusals.specs.Judging as judging
use Rattle.refusals.specs.Judging.{accepted, refused_if, Figures}
use Rattle.refusals.specs.declared.Refusal.{Refusal}
use Rattle.refusals.specs.declared.Refusal.TheVariants.{BadSize, BadCentre, TooFar, BadKernel}
use Rattle.settings.specs.declared.Setting.{Setting}
use Rattle.settings.specs.Setting.{with_shears}
use Rattle.refusals.proofs.Tests.{size_good, beyond_good, good_beyond}
use Rattle.refusals.proofs.First.{nothing_bad}
use Rattle.steps.specs.Table.{sines}
use Rattle.steps.specs.Step.{entry, beyond, S, change_of}
use Rattle.acceptance.specs.Judge.{range, too_short, bad_centre, bad_shears, judged_on}
use Rattle.acceptance.specs.Judge as acceptance
use Rattle.format.specs.Answer.{unchanged_in, change_in, setting_in, number_of, straightened_of}
use Rattle.format.specs.Answered.{lowest, judged, judged_in, work_in}
use Rattle.format.specs.Line.{kernel_in, step_in, width_in, height_in, size_in, samples_in}

-- ---- a step within its range makes shears within theirs
every_small : T (every (λ t s. leb s 4096) 0 sines)
every_small = tt

entry_small : (t : ℕ) → t < 1698 → entry t ≤ 4096
unfolding entry
entry_small t h = leb→le _ 4096 (at (λ t s. leb s 4096) sines every_small t h)

sine_small : (t : ℤ) → nat_abs t ≤ 1697 → nat_abs (S t) ≤ 4096
unfolding S
sine_small (pos t) h = entry_small t (omega arith)
sine_small (negsuc t) h = rw (nat_abs_neg_ℤ (pos (entry (suc t)))) (entry_small (suc t) (omega arith))

shears_within : (l : List ℕ) → beyond (step_in l) ≡ false → bad_shears (setting_in l) ≡ false
unfolding setting_in bad_shears
shears_within l e =
    let h = beyond_good (step_in l) e in
    let a : nat_abs (neg_ℤ (step_in l)) ≤ 4096 = rw (nat_abs_neg_ℤ (step_in l)) (omega arith) in
    rw (good_beyond (neg_ℤ (step_in l)) a, good_beyond (S (step_in l)) (sine_small (step_in l) h)) refl

-- ---- the lowest number that applies
-- the chain of tests is refused under it, and names no place
pub judged_figures : {A : Type 0} (W H : ℕ) (s : Setting) (t : ℤ) (x : A) → Figures (lowest W H s (change_of s t)) (λ n. None) (judged W H s t x)
unfolding judged lowest change_of
judged_figures {A} W H s t x = by (bad_size W H) (bad_centre W H s) (beyond t) (bad_kernel s.kernel)
  where
    by : (p q r k : Bool)
        → Figures (cond p 1 (cond q 3 (cond (ltb 0 (judging.number_of (refused_if r TooFar (Ok (with_shears s (neg_ℤ t) (S t)))))) 4 (cond k 5 0)))) (λ n. None)
        (refused_if p BadSize (refused_if q BadCentre (refused_if r TooFar (refused_if k BadKernel (Ok x)))))
    by true q r k = record { number = refl; row = refl; column = refl }
    by false true r k = record { number = refl; row = refl; column = refl }
    by false false true k = record { number = refl; row = refl; column = refl }
    by false false false true = record { number = refl; row = refl; column = refl }
    by false false false false = record { number = refl; row = refl; column = refl }

module _ (l : List ℕ) where
  -- a refused step keeps the setting's kernel and centre, so its number is judged in its place
  pub lowest_is : lowest (width_in l) (height_in l) (unchanged_in l) (change_in l) ≡ number_of l
  unfolding lowest unchanged_in change_in change_of number_of setting_in bad_centre
  lowest_is = by (beyond (step_in l)) refl
    where
      by : (t : Bool) → beyond (step_in l) ≡ t → lowest (width_in l) (height_in l) (unchanged_in l) (change_in l) ≡ number_of l
      by true e = rw e refl
      by false e = rw e refl

  pub figures_in : {A : Type 0} (x : A) → Figures (number_of l) (λ n. None) (judged_in l x)
  unfolding change_in
  figures_in x = rw lowest_is at (judged_figures (width_in l) (height_in l) (unchanged_in l) (step_in l) x)

  -- what a line tells that no number applies to
  pub record Passed : Type 0 where
    pub size : bad_size (width_in l) (height_in l) ≡ false
    pub centre : bad_centre (width_in l) (height_in l) (setting_in l) ≡ false
    pub step : beyond (step_in l) ≡ false
    pub kernel : bad_kernel (kernel_in l) ≡ false

  pub none : number_of l ≡ 0 → Passed
  unfolding number_of
  none e =
      by (bad_size (width_in l) (height_in l)) (bad_centre (width_in l) (height_in l) (setting_in l)) (beyond (step_in l)) (bad_kernel (kernel_in l)) refl refl refl refl e
    where
      by : (p q r s : Bool) → bad_size (width_in l) (height_in l) ≡ p → bad_centre (width_in l) (height_in l) (setting_in l) ≡ q → beyond (step_in l) ≡ r
          → bad_kernel (kernel_in l) ≡ s → ◌≡◌ {A = ℕ} (cond p 1 (cond q 3 (cond r 4 (cond s 5 0)))) 0 → Passed
      by true q r s a b c d h = absurd (omega arith)
      by false true r s a b c d h = absurd (omega arith)
      by false false true s a b c d h = absurd (omega arith)
      by false false false true a b c d h = absurd (omega arith)
      by false false false false a b c d h = record { size = a; centre = b; step = c; kernel = d }

  -- the tests then refuse nothing
  pub none_refused : {A : Type 0} (x : A) → number_of l ≡ 0 → judged_in l x ≡ Ok x
  unfolding judged unchanged_in setting_in bad_centre
  none_refused x e = let n = none e in rw (n.size, n.centre, n.step, n.kernel) refl

  -- what they say of one thing they say of any other
  pub accepted_in : {A : Type 0} (x y : A) → judged_in l x ≡ Ok y → (number_of l ≡ 0) × (y ≡ x)
  accepted_in {A} x y e =
      let z : number_of l ≡ 0 = sym (rw e at (figures_in x).number) in
      let same : ◌≡◌ {A = Result A Refusal} (Ok y) (Ok x) = sym e ∙ none_refused x z in
      (z, cc)

  pub refused_in : {A B : Type 0} (x : A) (y : B) (refusal : Refusal) → judged_in l x ≡ Err refusal → judged_in l y ≡ Err refusal
  unfolding judged
  refused_in {A} {B} x y refusal =
      by (bad_size (width_in l) (height_in l)) (bad_centre (width_in l) (height_in l) (unchanged_in l)) (beyond (step_in l)) (bad_kernel (unchanged_in l).kernel)
    where
      by : (p q r k : Bool)
          → refused_if p BadSize (refused_if q BadCentre (refused_if r TooFar (refused_if k BadKernel (Ok x)))) ≡ Err refusal
          → refused_if p BadSize (refused_if q BadCentre (refused_if r TooFar (refused_if k BadKernel (Ok y)))) ≡ Err refusal
      by true q r k e = cc
      by false true r k e = cc
      by false false true k e = cc
      by false false false true e = cc
      by false false false false e = absurd cc

-- ---- the straightener's verdict
-- the places lent are enough
enough : (W H p m k : ℕ) → W * H ≤ p → W * H ≤ m → 12 * max W H ≤ k → too_short W H p m k ≡ false
unfolding too_short short
enough W H p m k hp hm hk = rw (le-ltb p (W * H) hp, le-ltb m (W * H) hm, le-ltb k (12 * max W H) hk) refl

-- whatever size is accepted, 12,288 places are enough for work
pub work_enough : (l : List ℕ) → number_of l ≡ 0 → work_in l ≤ 12288
work_enough l e = let size = size_good (none l e).size in omega (arith, size.0.1, size.1.1)

pub verdict_accepted : (l : List ℕ) (picture : List ℤ) (m k : ℕ) → number_of l ≡ 0 → size_in l ≤ length picture → size_in l ≤ m → work_in l ≤ k
    → ((k : ℕ) → k < size_in l → nat_abs (line picture k) ≤ 32767)
    → acceptance.judged (width_in l) (height_in l) (setting_in l) picture m k ≡ accepted
unfolding judged_on setting_in bad_background
verdict_accepted l picture m k e hp hm hk within =
    let n = none l e in
    rw (
      n.size,
      enough (width_in l) (height_in l) (length picture) m k hp hm hk,
      n.centre,
      shears_within l n.step,
      n.kernel,
      (nothing_bad range (width_in l) (height_in l) picture).1 (λ i h. within i (omega (arith, mul_comm (width_in l) (height_in l)))),
    )
    refl

-- the picture straightened has as many samples as the line has greys
pub straightened-length : (l : List ℕ) → length (straightened_of l) ≡ size_in l
unfolding straightened_of straighten
straightened-length l = length-pictured (width_in l) (height_in l) _

-- and under linear these lie in the range of the line's own samples (Q-12)
pub line_in_range : (l : List ℕ) → number_of l ≡ 0 → kernel_in l ≡ 0 → InRange Wrapped (size_in l) (samples_in l) (straightened_of l)
unfolding straightened_of
line_in_range l e linear i k =
    let size = size_good (none l e).size in
    rw (kernel_linear (kernel_in l) linear) (straighten_in_range Wrapped _ _ size.0.0 size.1.0 (samples_in l) i k)
