-- The order in which a call is judged, and that it is accepted just where no number applies. Assumes nothing.
use Prim.Native.Nat.{ℕ, ◌*◌, ◌≤◌, ◌<◌, max}
use mathlib.Core.Path.{◌≡◌, refl, ap, ◌∙◌}
use mathlib.Core.Bool.{Bool, true, false, ◌||◌}
use mathlib.Core.List.{List}
use native.Mathlib.Nat.{mul_comm}
use native.Mathlib.Omega.{arith}
use borrow.Author.Tests.{leb-false, lt-leb, le-ltb, ne_eqb}
use lib.Dec.{leb}
use lib.IntN.{ℤ, nat_abs}
use lib.ListN.{length}
use Rattle.std.specs.Prelude.{Option, Some, None, Ok, Err}
use Rattle.lists.specs.Line.{line}
use Rattle.refusals.specs.declared.Place.{Place}
use Rattle.refusals.specs.declared.Refusal.{Refusal}
use Rattle.refusals.specs.declared.Refusal.TheVariants.{BadSize, TooShort, BadCentre, TooFar, BadKernel, BadSample, BadBackground, OtherSize}
use Rattle.refusals.specs.Tests.{bad_side, bad_size, short, bad_kernel, beyond_of, first_bad}
use Rattle.refusals.specs.Judging.{number, place, Verdict, accepted, refused_if, of_found, and_then, answer_by, number_of, row_of, column_of}
use Rattle.refusals.proofs.Tests.{or_false, size_good, short_good, kernel_good, beyond_good, good_beyond}
use Rattle.refusals.proofs.Judging.{refused_if-accepted, of_found-accepted, and_then-accepted, some_number, accepted_by_zero}
use Rattle.refusals.proofs.First.{nothing_bad, BadAt, first_bad_lem}
use Rattle.settings.specs.declared.Setting.{Setting}
use Rattle.moves.specs.Border.{bad_background}
use Rattle.moves.proofs.Border.{background_good, good_background}
use Rattle.acceptance.specs.Judge.{range, work_places, too_short, bad_centre, bad_shears, judged_setting, FitSetting, judged_on, judged, Fit}

-- ---- the numbers in their order: 1, 2, 14, 3, 4, 5, 12 and 6
pub then_later : (three four five twelve : Bool) (later : Verdict)
    → and_then (refused_if three BadCentre (refused_if four TooFar (refused_if five BadKernel (refused_if twelve BadBackground accepted)))) later
    ≡ refused_if three BadCentre (refused_if four TooFar (refused_if five BadKernel (refused_if twelve BadBackground later)))
then_later true four five twelve later = refl
then_later false true five twelve later = refl
then_later false false true twelve later = refl
then_later false false false true later = refl
then_later false false false false later = refl

pub in_order : (other : Bool) (W H : ℕ) (s : Setting) (picture : List ℤ) (result work : ℕ)
    → judged_on other W H s picture result work
    ≡ refused_if (bad_size W H) BadSize
    (refused_if (too_short W H (length picture) result work) TooShort
    (refused_if other OtherSize
    (refused_if (bad_centre W H s) BadCentre
    (refused_if (bad_shears s) TooFar
    (refused_if (bad_kernel s.kernel) BadKernel
    (refused_if (bad_background s.border) BadBackground
    (of_found BadSample (first_bad range W H picture))))))))
unfolding judged_on
in_order other W H s picture result work =
    ap (λ (v : Verdict). refused_if (bad_size W H) BadSize (refused_if (too_short W H (length picture) result work) TooShort (refused_if other OtherSize v)))
    (then_later (bad_centre W H s) (bad_shears s) (bad_kernel s.kernel) (bad_background s.border) (of_found BadSample (first_bad range W H picture)))

-- ---- what each test that failed tells
pub long_enough : (W H picture result work : ℕ) → too_short W H picture result work ≡ false → (W * H ≤ picture) × (W * H ≤ result) × (12 * max W H ≤ work)
unfolding too_short
long_enough W H picture result work e =
    let a = or_false (short picture (W * H)) _ e in
    let b = or_false (short result (W * H)) _ a.1 in
    (short_good a.0, short_good b.0, short_good b.1)

-- the work that number 2 asks for is what a caller is told, of every size that number 1 does not refuse
pub work_asked : (W H picture result work : ℕ) → bad_size W H ≡ false
    → too_short W H picture result work ≡ (short picture (W * H) || (short result (W * H) || short work (work_places W H)))
unfolding too_short work_places
work_asked W H picture result work good = rw good refl

centre_inside : (W H : ℕ) (s : Setting) → bad_centre W H s ≡ false → (s.cx < W) × (s.cy < H)
unfolding bad_centre
centre_inside W H s e = let a = or_false (leb W s.cx) _ e in (leb-false W s.cx a.0, leb-false H s.cy a.1)

shears_within : (s : Setting) → bad_shears s ≡ false → (nat_abs s.a ≤ 4096) × (nat_abs s.b ≤ 4096)
unfolding bad_shears
shears_within s e = let a = or_false (beyond_of 4096 s.a) _ e in (beyond_good s.a a.0, beyond_good s.b a.1)

-- ---- a size and a setting that no number refuses
some : {n : ℕ} → 1 ≤ n → n ≡ 0 → ⊥
some h e = omega arith

pub fit_size : (W H : ℕ) → (1 ≤ W) × (W ≤ 1024) → (1 ≤ H) × (H ≤ 1024) → bad_size W H ≡ false
unfolding bad_size bad_side
fit_size W H width height = rw (ne_eqb W 0 (some width.0), le-ltb 1024 W width.1, ne_eqb H 0 (some height.0), le-ltb 1024 H height.1) refl

pub setting_accepted : {W H : ℕ} {s : Setting} → FitSetting W H s → judged_setting W H s ≡ accepted
unfolding bad_centre bad_shears bad_kernel
setting_accepted {W} {H} {s} f =
    rw (
      lt-leb W s.cx f.centre.0,
      lt-leb H s.cy f.centre.1,
      good_beyond s.a f.shears.0,
      good_beyond s.b f.shears.1,
      le-ltb 2 s.kernel f.kernel,
      good_background s.border f.background,
    )
    refl

pub accepted_setting : (W H : ℕ) (s : Setting) → judged_setting W H s ≡ accepted → FitSetting W H s
accepted_setting W H s e =
    let three = refused_if-accepted (bad_centre W H s) BadCentre _ tt e in
    let four = refused_if-accepted (bad_shears s) TooFar _ tt three.1 in
    let five = refused_if-accepted (bad_kernel s.kernel) BadKernel _ tt four.1 in
    let twelve = refused_if-accepted (bad_background s.border) BadBackground _ tt five.1 in
    record {
      centre = centre_inside W H s three.0;
      shears = shears_within s four.0;
      kernel = kernel_good five.0;
      background = background_good s.border twelve.0;
    }

-- the range that the passes and demand 3 are proved for
pub fit_range : {W H : ℕ} {s : Setting} {picture : List ℤ} {result work : ℕ} → Fit W H s picture result work → (i : ℕ) → i < W * H
    → nat_abs (line picture i) ≤ 32767
fit_range f i l = omega (arith, f.samples i l)

-- ---- what a verdict says of the sample that it names
-- row and column are 0 except under 6
abbrev pub ZeroButSix : Verdict → Type 0
ZeroButSix v = (number_of v ≡ 6 → ⊥) → (row_of v ≡ 0) × (column_of v ≡ 0)

abbrev nowhere : Place
nowhere = record { row = 0; column = 0 }

-- under 6 they are those of the sample that was found
abbrev pub NamesFound : Option Place → Verdict → Type 0
NamesFound f v = number_of v ≡ 6 → f ≡ Some (record { row = row_of v; column = column_of v })

at_nowhere : (refusal : Refusal) → place refusal ≡ nowhere → ((place refusal).row ≡ 0) × ((place refusal).column ≡ 0)
at_nowhere refusal e = (ap (λ (p : Place). p.row) e, ap (λ (p : Place). p.column) e)

-- a verdict before a sample is read: its number is not 6, and it names no place
pub record Unread (v : Verdict) : Type 0 where
  pub not_six : number_of v ≡ 6 → ⊥
  pub nowhere : ZeroButSix v

unread_if : (t : Bool) (refusal : Refusal) (later : Verdict) → (number refusal ≡ 6 → ⊥) → place refusal ≡ nowhere → Unread later
    → Unread (refused_if t refusal later)
unread_if true refusal later other none u = record { not_six = other; nowhere = λ e. at_nowhere refusal none }
unread_if false refusal later other none u = u

pub setting_unread : (W H : ℕ) (s : Setting) → Unread (judged_setting W H s)
setting_unread W H s =
    unread_if (bad_centre W H s) BadCentre _ (λ e. omega arith) refl (unread_if (bad_shears s) TooFar _ (λ e. omega arith) refl
    (unread_if (bad_kernel s.kernel) BadKernel _ (λ e. omega arith) refl (unread_if (bad_background s.border) BadBackground _ (λ e. omega arith) refl
    (record { not_six = λ e. omega arith; nowhere = λ e. (refl, refl) }))))

-- a test before others, and the test of the samples, the last
zero_if : (t : Bool) (refusal : Refusal) (later : Verdict) → place refusal ≡ nowhere → ZeroButSix later → ZeroButSix (refused_if t refusal later)
zero_if true refusal later none z other = at_nowhere refusal none
zero_if false refusal later none z other = z other

zero_then : (v later : Verdict) → Unread v → ZeroButSix later → ZeroButSix (and_then v later)
zero_then (Ok x) later u z = z
zero_then (Err refusal) later u z = u.nowhere

zero_found : (f : Option Place) → ZeroButSix (of_found BadSample f)
zero_found None other = (refl, refl)
zero_found (Some p) other = absurd (other refl)

pub six_past : (t : Bool) (refusal : Refusal) (later : Verdict) (f : Option Place) → (number refusal ≡ 6 → ⊥) → NamesFound f later
    → NamesFound f (refused_if t refusal later)
six_past true refusal later f other named e = absurd (other e)
six_past false refusal later f other named e = named e

pub six_past_then : (v later : Verdict) (f : Option Place) → Unread v → NamesFound f later → NamesFound f (and_then v later)
six_past_then (Ok x) later f u named e = named e
six_past_then (Err refusal) later f u named e = absurd (u.not_six e)

pub six_found : (f : Option Place) → NamesFound f (of_found BadSample f)
six_found None e = absurd cc
six_found (Some p) e = refl

-- ---- the whole chain
module _ (W H : ℕ) (s : Setting) (picture : List ℤ) (result work : ℕ) where
  -- past every other test the samples alone are judged
  pub only_samples : (other : Bool) → bad_size W H ≡ false → too_short W H (length picture) result work ≡ false → other ≡ false → judged_setting W H s ≡ accepted
      → judged_on other W H s picture result work ≡ of_found BadSample (first_bad range W H picture)
  unfolding judged_on
  only_samples other size buffers same setting = rw (size, buffers, same, setting) refl

  -- a call that passes every test is accepted
  pub fit_accepted : Fit W H s picture result work → judged W H s picture result work ≡ accepted
  fit_accepted f = only_samples false (fit_size W H f.width f.height) buffers refl (setting_accepted f.setting) ∙ ap (of_found BadSample) samples
    where
      buffers : too_short W H (length picture) result work ≡ false
      buffers = unfold too_short short in
          rw (le-ltb (length picture) (W * H) f.picture_places, le-ltb result (W * H) f.result_places, le-ltb work (12 * max W H) f.work_places_lent) refl

      samples : first_bad range W H picture ≡ None
      samples = (nothing_bad range W H picture).1 (λ i l. f.samples i (omega (arith, mul_comm W H)))

module _ (other : Bool) (W H : ℕ) (s : Setting) (picture : List ℤ) (result work : ℕ) where
  -- and an accepted one passes every test
  pub accepted_fit : judged_on other W H s picture result work ≡ accepted → Fit W H s picture result work
  unfolding judged_on
  accepted_fit e =
      let one = refused_if-accepted (bad_size W H) BadSize _ tt e in
      let two = refused_if-accepted (too_short W H (length picture) result work) TooShort _ tt one.1 in
      let fourteen = refused_if-accepted other OtherSize _ tt two.1 in
      let setting = and_then-accepted (judged_setting W H s) _ tt fourteen.1 in
      let six = (nothing_bad range W H picture).0 (of_found-accepted BadSample (first_bad range W H picture) setting.1) in
      let size = size_good one.0 in
      let long = long_enough W H (length picture) result work two.0 in
      record {
        width = size.0;
        height = size.1;
        picture_places = long.0;
        result_places = long.1;
        work_places_lent = long.2;
        setting = accepted_setting W H s setting.0;
        samples = λ i l. six i (omega (arith, mul_comm W H));
      }

  -- number 6 names a sample that the scan found
  six_names_found : NamesFound (first_bad range W H picture) (judged_on other W H s picture result work)
  unfolding judged_on
  six_names_found =
      six_past (bad_size W H) BadSize _ _ (λ e. omega arith) (six_past (too_short W H (length picture) result work) TooShort _ _ (λ e. omega arith)
      (six_past other OtherSize _ _ (λ e. omega arith)
      (six_past_then (judged_setting W H s) _ _ (setting_unread W H s) (six_found (first_bad range W H picture)))))

  -- which is the first beyond the range, in row order, of a call that passes the tests before it
  pub refused_sample : let v = judged_on other W H s picture result work in number_of v ≡ 6 → BadAt range W H picture (row_of v) (column_of v)
  refused_sample e = (first_bad_lem range W H picture _ _).0 (six_names_found e)

  -- and no other number names a place
  pub refused-zero : ZeroButSix (judged_on other W H s picture result work)
  unfolding judged_on
  refused-zero =
      zero_if (bad_size W H) BadSize _ refl (zero_if (too_short W H (length picture) result work) TooShort _ refl (zero_if other OtherSize _ refl
      (zero_then (judged_setting W H s) _ (setting_unread W H s) (zero_found (first_bad range W H picture)))))

  -- no number is 0, so that 0 says that the call is accepted
  pub zero-accepted : number_of (judged_on other W H s picture result work) ≡ 0 → judged_on other W H s picture result work ≡ accepted
  zero-accepted = accepted_by_zero _

-- ---- where the answer that a verdict gives has number 0, the tests accept the call
pub answered_zero : {A : Type 0} (v : Verdict) (x : A) → number_of (answer_by v x) ≡ 0 → v ≡ accepted
answered_zero (Ok u) x e = refl
answered_zero (Err refusal) x e = absurd (some_number refusal e)
