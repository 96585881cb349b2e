-- What levelling with a picture answers, at both ends of the threshold's range and under each number, worked out by the checker; and what its tests tell, and the
-- answer that follows. Assumes nothing.
use Prim.Native.Nat.{ℕ, ◌*◌, ◌≤◌, ◌<◌, max}
use mathlib.Core.Path.{◌≡◌, refl, sym, ap, ◌∙◌, subst}
use mathlib.Core.Bool.{Bool, true, false, cond}
use mathlib.Core.List.{List, [], ◌∷◌}
use native.Mathlib.Nat.{le_trans}
use native.Mathlib.Omega.{arith}
use lib.IntN.{ℤ, pos, negsuc, nat_abs, ◌-ℤ◌}
use lib.ListN.{length}
use lib.Signed.{lt_z, ◌≤ℤ◌, ◌<ℤ◌}
use Rattle.arith.specs.Whole.{floor}
use Rattle.arith.proofs.Bridge.{bridge, all1, all2}
use Rattle.arith.proofs.Machine.{lt-false}
use Rattle.lists.proofs.Rows.{row_in}
use Rattle.std.specs.Prelude.{Option, Some, None, Result, Ok, Err}
use Rattle.refusals.specs.declared.Place.{Place}
use Rattle.refusals.specs.declared.Refusal.{Refusal}
use Rattle.refusals.specs.declared.Refusal.TheVariants.{BadSize, TooShort, BadSample, Outside, TooSteep, BelowThreshold}
use Rattle.refusals.specs.Tests.{bad_side, bad_size, short, beyond_of, first_from, first_bad}
use Rattle.refusals.specs.Judging.{Verdict, accepted, refused_if, of_found, answer_by, number_of, row_of, column_of, found_place, is_found, Figures}
use Rattle.refusals.proofs.Tests.{or_false, size_good}
use Rattle.refusals.proofs.Judging.{refused_if-accepted, and_then-accepted, accepted_by_zero, some_number}
use Rattle.refusals.proofs.Figures.{figures_found, figures_refused_if, and_then_assoc, and_then-refused_if}
use Rattle.readings.specs.Answers.{range, judged_by, judged}
use Rattle.readings.proofs.Figures.{later_figures, answer_figures}
use Rattle.readings.proofs.Passed.{passed}
use Rattle.levelling.specs.Level.{miss, first_smallest, step_at, miss_at, largest_side, outside, any_outside, steep, levelling, direction_of, level_of, Levels}
use Rattle.levelling.proofs.Judging.{inside, none_outside, plain_same}
use Rattle.levelling.proofs.Levelling.{levelled_least}
use Rattle.graticule.specs.declared.Points.{Points}
use Rattle.graticule.specs.Look.{row_at, first_below, Below, FirstBelow, Rightward, Lie}
use Rattle.graticule.specs.Checked.{points_of, judged_points, judged_others, judged_line, checked_of, step_of, lowest_of, named, LevelChecked}
use Rattle.graticule.proofs.Look.{at, small, nothing_below, found_is_first}

-- ---- answers, computed
-- from (0, 0) to (3, 2), where a sample is below the threshold, the step is 0; where none is, it is the plain call's
answer-refused : checked_of 4 3 (pos 0) (pos 0) (pos 3) (pos 2) (pos 0) small ≡ Err (BelowThreshold (record { row = 1; column = 1 }))
unfolding checked_of judged_line judged_others judged_points judged judged_by bad_size bad_side short first_bad first_from beyond_of any_outside outside steep first_below row_at floor
answer-refused = refl

answer-step : checked_of 4 3 (pos 0) (pos 0) (pos 3) (pos 2) (negsuc 2147483647) small ≡ Ok (negsuc 1239)
unfolding checked_of judged_line judged_others judged_points judged judged_by bad_size bad_side short first_bad first_from beyond_of any_outside outside steep first_below row_at floor levelling first_smallest miss_at miss step_at
answer-step = refl

-- everything is wrong, and then one number after the other is mended: a side, the places, a sample, points outside this picture, lines too steep
abbrev bad_first : List ℤ
bad_first = pos 1048577 ∷ negsuc 0 ∷ pos 5 ∷ pos 2 ∷ pos 9 ∷ pos 9 ∷ []

abbrev good : List ℤ
good = pos 1048576 ∷ negsuc 0 ∷ pos 5 ∷ pos 2 ∷ pos 9 ∷ pos 9 ∷ []

abbrev in_order : ℕ → ℤ → ℤ → ℤ → List ℤ → Result ℤ Refusal
in_order width y1 x2 y2 picture = checked_of width 3 (pos 0) y1 x2 y2 (pos 2147483647) picture

order :
    in_order 0 (negsuc 0) (pos 0) (pos 2) []
    ∷ in_order 2 (negsuc 0) (pos 0) (pos 2) []
    ∷ in_order 2 (negsuc 0) (pos 0) (pos 2) bad_first
    ∷ in_order 2 (negsuc 0) (pos 0) (pos 2) good
    ∷ in_order 2 (pos 0) (pos 2) (pos 0) good
    ∷ in_order 2 (pos 0) (pos 1) (pos 3) good
    ∷ in_order 2 (pos 0) (pos 1) (pos 2) good
    ∷ in_order 2 (pos 0) (pos 0) (pos 0) good
    ∷ in_order 2 (pos 0) (pos 1) (pos 1) good
    ∷ []
    ≡ Err BadSize
    ∷ Err TooShort
    ∷ Err (BadSample (record { row = 0; column = 0 }))
    ∷ Err Outside
    ∷ Err Outside
    ∷ Err Outside
    ∷ Err TooSteep
    ∷ Err TooSteep
    ∷ Err (BelowThreshold (record { row = 0; column = 0 }))
    ∷ []
unfolding checked_of judged_line judged_others judged_points judged judged_by bad_size bad_side short first_bad first_from beyond_of any_outside outside steep first_below row_at floor
order = refl

-- ---- the points
module _ (width height : ℕ) (x1 y1 x2 y2 : ℤ) where
  abbrev dx : ℤ
  dx = x2 -ℤ x1

  abbrev dy : ℤ
  dy = y2 -ℤ y1

  -- what 7 and 8 leave
  pub record Fit : Type 0 where
    pub natural : (pos 0 ≤ℤ x1) × (pos 0 ≤ℤ y1) × (pos 0 ≤ℤ x2) × (pos 0 ≤ℤ y2)
    pub apart : nat_abs x1 < nat_abs x2
    pub column : nat_abs x2 < width
    pub row : max (nat_abs y1) (nat_abs y2) < height

  pub fit : any_outside width height x1 y1 x2 y2 ≡ false → steep dx dy ≡ false → Fit
  unfolding steep
  fit seven eight =
      let (a, b, c, d) = none_outside width height x1 y1 x2 y2 seven in
      let (la, ha) = inside width x1 a in
      let (lb, hb) = inside height y1 b in
      let (lc, hc) = inside width x2 c in
      let (ld, hd) = inside height y2 d in
      let some = lt-false dx (pos 1) (or_false (lt_z dx (pos 1)) (lt_z dx (pos (nat_abs dy))) eight).0 in
      record {
        natural = (la, lb, lc, ld);
        apart = right x1 x2 la lc some;
        column = below x2 width lc hc;
        row = omega (arith, below y1 height lb hb, below y2 height ld hd);
      }
    where
      right : (a b : ℤ) → pos 0 ≤ℤ a → pos 0 ≤ℤ b → pos 1 ≤ℤ (b -ℤ a) → nat_abs a < nat_abs b
      right = all2 _ (simp bridge (omega arith))

      below : (c : ℤ) (side : ℕ) → pos 0 ≤ℤ c → c <ℤ pos side → nat_abs c < side
      below = all1 _ (simp bridge (omega arith))

  -- so they lie in a picture of at most 1,024 by 1,024 that has all its places
  pub rightward : Fit → width ≤ largest_side → height ≤ largest_side → Rightward (points_of x1 y1 x2 y2)
  rightward f w h = record { apart = f.apart; columns = omega (arith, f.column); rows = omega (arith, f.row) }

  pub lies : (places : ℕ) → Fit → width ≤ largest_side → height ≤ largest_side → height * width ≤ places → Lie width places (points_of x1 y1 x2 y2)
  lies places f w h room =
      record { rightward = rightward f w h; columns = f.column; rows = le_trans (row_in width height (max (nat_abs y1) (nat_abs y2)) f.row) room }

  -- the answer that `level_within` gives: refused, 7 or 8; not refused, neither applies, and it is the levelling step
  pub points_refused : (refusal : Refusal) → level_of width height x1 y1 x2 y2 ≡ Err refusal → judged_points width height x1 y1 x2 y2 ≡ Err refusal
  unfolding level_of direction_of judged_points
  points_refused refusal e = by (any_outside width height x1 y1 x2 y2) (steep dx dy) e
    where
      by : (seven eight : Bool) → refused_if seven Outside (refused_if eight TooSteep (Ok (levelling dx dy))) ≡ Err refusal
          → refused_if seven Outside (refused_if eight TooSteep accepted) ≡ Err refusal
      by true eight q = cc
      by false true q = cc
      by false false q = absurd cc

  pub points_step : (t : ℤ) → level_of width height x1 y1 x2 y2 ≡ Ok t
      → (any_outside width height x1 y1 x2 y2 ≡ false) × (steep dx dy ≡ false) × (t ≡ levelling dx dy)
  unfolding level_of direction_of
  points_step t e =
      let a = refused_if-accepted (any_outside width height x1 y1 x2 y2) Outside _ _ e in
      let b = refused_if-accepted (steep dx dy) TooSteep _ _ a.1 in
      (a.0, b.0, cc)

  -- ---- with the picture
  module _ (threshold : ℤ) (picture : List ℤ) where
    abbrev points : Points
    points = points_of x1 y1 x2 y2

    abbrev bad : Option Place
    bad = first_bad range width height picture

    abbrev found : Option Place
    found = first_below width points threshold picture

    abbrev verdict : Verdict
    verdict = judged_line width height x1 y1 x2 y2 threshold picture

    -- what every number but 15 leaves
    record Clear : Type 0 where
      sides : (width ≤ largest_side) × (height ≤ largest_side)
      seven : any_outside width height x1 y1 x2 y2 ≡ false
      eight : steep dx dy ≡ false

    clear : judged_others width height x1 y1 x2 y2 picture ≡ accepted → Clear
    unfolding judged_others judged_points
    clear e =
        let a = and_then-accepted (judged width height (length picture) picture) _ _ e in
        let b = refused_if-accepted (any_outside width height x1 y1 x2 y2) Outside _ _ a.1 in
        record {
          sides = (passed width height (length picture) picture a.0).sides;
          seven = b.0;
          eight = (refused_if-accepted (steep dx dy) TooSteep accepted _ b.1).0;
        }

    fitting : Clear → Fit
    fitting c = fit c.seven c.eight

    in_picture : Clear → Rightward points
    in_picture c = rightward (fitting c) c.sides.0 c.sides.1

    -- ---- the number, the row and the column
    figured : Figures (lowest_of width height x1 y1 x2 y2 threshold picture) (named bad found) verdict
    unfolding judged_line judged_others judged_points
    figured =
        let seven = any_outside width height x1 y1 x2 y2 in
        let eight = steep dx dy in
        let last = of_found BelowThreshold found in
        let picture-first = and_then_assoc (judged width height (length picture) picture) (refused_if seven Outside (refused_if eight TooSteep accepted)) last in
        rw (picture-first, and_then-refused_if seven Outside (refused_if eight TooSteep accepted) last, and_then-refused_if eight TooSteep accepted last)
        (later_figures width height (length picture) picture (named bad found) _ _ refl refl refl
        (figures_refused_if seven Outside _ (named bad found) _ refl
        (figures_refused_if eight TooSteep _ (named bad found) _ refl
        (figures_found BelowThreshold 15 found (named bad found) (λ p. refl) (λ p. refl) refl refl))))

    -- ---- where the number is 15, no other applies
    past : (t : Bool) (number later : ℕ) → ¬ (number ≡ 15) → cond t number later ≡ 15 → (t ≡ false) × (later ≡ 15)
    past true number later other e = absurd (other e)
    past false number later other e = (refl, e)

    told : (f : Option Place) → ◌≡◌ {A = ℕ} (cond (is_found f) 15 0) 15 → f ≡ Some (found_place f)
    told None e = absurd (omega arith)
    told (Some p) e = refl

    fifteen : number_of verdict ≡ 15 → Clear × (found ≡ at (row_of verdict) (column_of verdict))
    fifteen e =
        let number = sym figured.number ∙ e in
        let one = past (bad_size width height) 1 _ (λ q. omega arith) number in
        let two = past (short (length picture) (height * width)) 2 _ (λ q. omega arith) one.1 in
        let six = past (is_found bad) 6 _ (λ q. omega arith) two.1 in
        let seven = past (any_outside width height x1 y1 x2 y2) 7 _ (λ q. omega arith) six.1 in
        let eight = past (steep dx dy) 8 _ (λ q. omega arith) seven.1 in
        let row : row_of verdict ≡ (found_place found).row = figured.row ∙ ap (λ (n : ℕ). (found_place (named bad found n)).row) number in
        let column : column_of verdict ≡ (found_place found).column = figured.column ∙ ap (λ (n : ℕ). (found_place (named bad found n)).column) number in
        let size = size_good one.0 in
        (record { sides = (size.0.1, size.1.1); seven = seven.0; eight = eight.0 }, rw (row, column) (told found eight.1))

    first : number_of verdict ≡ 15 → FirstBelow width height points threshold picture (row_of verdict) (column_of verdict)
    first e =
        let (c, f) = fifteen e in
        found_is_first width points threshold picture (in_picture c) height (row_of verdict) (column_of verdict) (fitting c).row (fitting c).column f

    -- ---- where no other number applies, a sample below the threshold is 15
    below : judged_others width height x1 y1 x2 y2 picture ≡ accepted → (x : ℕ) → Below width points threshold picture x → number_of verdict ≡ 15
    unfolding judged_line
    below e x b = rw e (by found refl)
      where
        by : (f : Option Place) → found ≡ f → number_of (of_found BelowThreshold f) ≡ 15
        by None q = absurd ((nothing_below width points threshold picture (in_picture (clear e))).0 q x b)
        by (Some p) q = refl

    -- ---- where the number is 0, the step is the plain call's
    module _ (zero : number_of verdict ≡ 0) where
      all_passed : verdict ≡ accepted
      all_passed = accepted_by_zero verdict zero

      none_applies : Clear
      unfolding judged_line
      none_applies = clear (and_then-accepted (judged_others width height x1 y1 x2 y2 picture) (of_found BelowThreshold found) _ all_passed).0

      plain : level_of largest_side largest_side x1 y1 x2 y2 ≡ Ok (levelling dx dy)
      unfolding level_of direction_of
      plain =
          let c = none_applies in
          plain_same width height x1 y1 x2 y2 c.sides.0 c.sides.1 c.seven ∙ rw (c.seven, c.eight) refl

    -- ---- the answer tells what its verdict tells, with the step where it is accepted
    record Told (v : Verdict) (t : ℤ) : Type 0 where
      number : number_of (answer_by v t) ≡ number_of v
      row : row_of (answer_by v t) ≡ row_of v
      column : column_of (answer_by v t) ≡ column_of v
      step : number_of v ≡ 0 → step_of (answer_by v t) ≡ t
      none : ¬ (number_of v ≡ 0) → step_of (answer_by v t) ≡ pos 0

    answer_told : (v : Verdict) (t : ℤ) → Told v t
    answer_told (Ok u) t = record { number = refl; row = refl; column = refl; step = λ e. refl; none = λ h. absurd (h refl) }
    answer_told (Err refusal) t = record { number = refl; row = refl; column = refl; step = λ e. absurd (some_number refusal e); none = λ h. refl }

    pub answered : (r : Result ℤ Refusal) → r ≡ checked_of width height x1 y1 x2 y2 threshold picture → LevelChecked width height x1 y1 x2 y2 threshold picture r
    unfolding checked_of
    answered r e =
        let t = levelling dx dy in
        let a = answer_told verdict t in
        subst (LevelChecked width height x1 y1 x2 y2 threshold picture) (sym e) (record {
          answer = refl;
          figures = answer_figures _ _ verdict t figured;
          below = λ others x b. a.number ∙ below others x b;
          first = λ q. rw (a.row, a.column) (first (sym a.number ∙ q));
          plain = λ q. let zero = sym a.number ∙ q in plain zero ∙ ap Ok (sym (a.step zero));
          levels = λ q. subst (Levels dx dy) (sym (a.step (sym a.number ∙ q))) (levelled_least dx dy);
          refused = λ h. a.none (λ q. h (a.number ∙ q));
        })
