-- A pass over the lines of a slice moves its rows (`passed_treated`), rows of slices exchanged are rows of slices (`exchanged_swept`), and rows, columns and
-- rows again of every slice are document 01's three passes of it (`three_passes`), each on samples within a line's range. Assumes nothing.
use Prim.Native.Nat.{ℕ, ◌+◌, ◌*◌, ◌≤◌, ◌<◌}
use mathlib.Core.Path.{◌≡◌, refl, sym, ap, ◌∙◌, subst}
use mathlib.Core.Bool.{true, false}
use mathlib.Core.List.{List}
use native.Mathlib.Omega.{arith}
use lib.IntN.{ℤ, pos, nat_abs}
use lib.ListN.{length, get_or}
use Rattle.arith.proofs.Within.{Within, within_size, size_within}
use Rattle.lists.specs.Line.{line}
use Rattle.lists.specs.Grid.{line_of, Lines}
use Rattle.lists.proofs.Grid.{line_of_at, line_of-length, behind, passed_other}
use Rattle.settings.specs.declared.Border.{Border}
use Rattle.settings.specs.declared.Setting.{Setting}
use Rattle.kernels.specs.declared.Kernel.{Kernel}
use Rattle.moves.specs.Border.{bordered, grey}
use Rattle.moves.proofs.Border.{bordered_local, move_in_at, places_few}
use Rattle.lists.specs.Picture.{Places}
use Rattle.passes.specs.Picture.{turned, rows_moved, after_one, after_two, straightened}
use Rattle.passes.proofs.Reach.{after_one_range, after_two_range}
use Rattle.offsets.specs.declared.Moves.TheVariants.{Sheared}
use Rattle.shears.specs.declared.Shear.{Shear}
use Rattle.shears.specs.Pass.{moved_at, lines_moved}
use Rattle.planes.specs.declared.Slices.{Slices}
use Rattle.planes.specs.Slices.{slice, Everywhere, Beside, Apart, transposed, exchanged}
use Rattle.planes.specs.Sweep.{SlicesWithin, Treated, move_at, Swept, Sweepable, Workable}
use Rattle.planes.proofs.Places.{transposed-place, exchanged-place, transposed_apart, exchanged_apart, rows_local, columns_local}
use Rattle.planes.proofs.Treated.{first_slices, only, from_first}

-- ---- one slice: its rows are the lines of a pass
pub slice-lines : (s : Slices) (size : ℕ) → Apart (first_slices 1 s) size → Lines s.columns s.rows s.along s.across size
slice-lines s size lie =
    record {
      inside = λ y x hy hx. subst (λ (p : ℕ). p < size) (from_first s.step (y * s.across + x * s.along)) (lie.inside 0 y x (omega arith) hy hx);
      apart = λ y y' x x' hy hy' hx hx' e.
          let a = lie.apart 0 0 y y' x x' (omega arith) (omega arith) hy hy' hx hx' (ap (λ (q : ℕ). 0 * s.step + q) e) in
          (a.1, a.2);
    }

module _ (β : Border) (κ : Kernel) (moves : ℕ → ℤ) {n lines along across : ℕ} (list : List ℤ) (g : Lines n lines along across (length list)) (some : 0 < n) where
  -- every line is its moved line
  lines-moved_at : Places n lines
      (λ y k. get_or (lines_moved β κ moves n along across lines list) (y * across + k * along) (pos 0)
      ≡ rows_moved β κ n moves (λ y k. line list (y * across + k * along)) y k)
  unfolding rows_moved
  lines-moved_at y k hy hk =
      behind n lines along across (moved_at β κ moves) (length list) g lines list y hy (omega arith) refl k hk
      ∙ move_in_at β κ (moves y) own k (omega (arith, len))
      ∙ ap (λ (m : ℕ). bordered β κ m (moves y) (line own) k) len
      ∙ ap (λ (f : ℕ → ℤ). f k) (bordered_local β some (λ j l. line_of_at (y * across) along n list j l) κ (moves y))
    where
      own : List ℤ
      own = line_of (y * across) along n list

      len : length own ≡ n
      len = line_of-length (y * across) along n list

pub passed_treated : (β : Border) (κ : Kernel) (moves : ℕ → ℤ) (s : Slices) (list list' : List ℤ) → 0 < s.columns → Apart (first_slices 1 s) (length list)
    → list' ≡ lines_moved β κ moves s.columns s.along s.across s.rows list
    → Treated (λ j. rows_moved β κ s.columns moves) (first_slices 1 s) list list'
passed_treated β κ moves s list list' wide lie e =
    record {
      slices = λ j y x hj hy hx. at_first j (only j hj) y x hy hx;
      others = λ p none. rw e (passed_other s.columns s.rows s.along s.across (moved_at β κ moves) s.rows list p (λ y x hy hx o. none 0 y x (omega arith) hy hx (o ∙ sym (from_first s.step (y * s.across + x * s.along)))));
    }
  where
    at_first : (j : ℕ) → j ≡ 0
        → Places s.columns s.rows (λ y x. slice (first_slices 1 s) list' j y x ≡ rows_moved β κ s.columns moves (slice (first_slices 1 s) list j) y x)
    at_first j none y x hy hx =
        rw (none, e)
        (ap (line (lines_moved β κ moves s.columns s.along s.across s.rows list)) (from_first s.step (y * s.across + x * s.along))
        ∙ lines-moved_at β κ moves list (slice-lines s (length list) lie) wide y x hy hx
        ∙ rows_local β κ s.columns s.rows moves wide (λ y x. line list (y * s.across + x * s.along)) (slice (first_slices 1 s) list 0)
        (λ y x hy hx. ap (line list) (sym (from_first s.step (y * s.across + x * s.along)))) y x hy hx)

-- ---- rows of slices exchanged
pub exchanged_swept : (h : Shear) (s : Slices) (list list' : List ℤ) → 0 < s.columns
    → Swept h.border h.kernel (move_at h.moves true) (exchanged s) list list' → Swept h.border h.kernel (move_at h.moves false) s list list'
unfolding rows_moved
exchanged_swept h s list list' wide done =
    record {
      slices = λ i y x hi hy hx.
          ap (line list') (exchanged-place s i y x)
          ∙ done.slices y i x hy hi hx
          ∙ ap (λ (f : ℕ → ℤ). f x) (bordered_local h.border wide (λ k l. ap (line list) (sym (exchanged-place s i y k))) h.kernel (move_at h.moves false i y));
      others = λ p none. done.others p (λ y i x hy hi hx e. none i y x hi hy hx (e ∙ sym (exchanged-place s i y x)));
    }

-- ---- the samples of a slice, as a range
slice_within : (s : Slices) (list : List ℤ) → SlicesWithin s 32767 list → (i : ℕ) → i < s.slices → Places s.columns s.rows (λ y x. Within (pos 32767) (slice s list i y x))
slice_within s list range i hi y x hy hx = size_within (slice s list i y x) 32767 (range i y x hi hy hx)

-- ---- three passes over every slice, the first two of which left `once` and `twice`
module _ (β : Border) (κ : Kernel) (rows columns : ℕ → ℤ) (s : Slices) (list once : List ℤ) (wide : 0 < s.columns) (high : 0 < s.rows)
    (first : Swept β κ (λ i. rows) s list once) where
  abbrev W : ℕ
  W = s.columns

  abbrev H : ℕ
  H = s.rows

  -- what pass 2 is handed
  pub second_range : nat_abs (grey β) ≤ 32767 → SlicesWithin s 32767 list → SlicesWithin (transposed s) 294912 once
  second_range plain range i x y hi hx hy =
      subst (λ (z : ℤ). nat_abs z ≤ 294912) (sym (first.slices i y x hi hy hx) ∙ ap (line once) (transposed-place s i y x))
      (within_size _ 294912 (after_one_range β κ rows columns wide high (size_within (grey β) 32767 plain) (slice_within s list range i hi) y x hy hx))

  module _ (twice : List ℤ) (second : Swept β κ (λ i. columns) (transposed s) once twice) where
    after_second : Everywhere s (λ i y x. slice s twice i y x ≡ after_two β κ W H rows columns (slice s list i) y x)
    after_second i y x hi hy hx =
        ap (line twice) (transposed-place s i y x)
        ∙ second.slices i x y hi hx hy
        ∙ columns_local β κ W H columns high (turned (slice (transposed s) once i)) (after_one β κ W rows (slice s list i))
        (λ y x hy hx. ap (line once) (sym (transposed-place s i y x)) ∙ first.slices i y x hi hy hx) y x hy hx

    -- what pass 3 is handed
    pub third_range : nat_abs (grey β) ≤ 32767 → SlicesWithin s 32767 list → SlicesWithin s 294912 twice
    third_range plain range i y x hi hy hx =
        rw (after_second i y x hi hy hx)
        (within_size _ 294912 (after_two_range β κ rows columns wide high (size_within (grey β) 32767 plain) (slice_within s list range i hi) y x hy hx))

    pub three_passes : (thrice : List ℤ) → Swept β κ (λ i. rows) s twice thrice → Treated (λ i. straightened β κ W H rows columns) s list thrice
    three_passes thrice third =
        record {
          slices = λ i y x hi hy hx.
              third.slices i y x hi hy hx
              ∙ rows_local β κ W H rows wide (slice s twice i) (after_two β κ W H rows columns (slice s list i)) (λ y x hy hx. after_second i y x hi hy hx) y x hy hx;
          others = λ p none. third.others p none ∙ second.others p (transposed_beside p none) ∙ first.others p none;
        }
      where
        transposed_beside : (p : ℕ) → Beside s p → Beside (transposed s) p
        transposed_beside p none i x y hi hx hy e = none i y x hi hy hx (e ∙ sym (transposed-place s i y x))

pub first_range : (s : Slices) (list : List ℤ) → SlicesWithin s 32767 list → SlicesWithin s 294912 list
first_range s list range i y x hi hy hx = omega (arith, range i y x hi hy hx)

-- ---- what each of them asks
pub exchanged_within : (s : Slices) (M : ℕ) (list : List ℤ) → SlicesWithin s M list → SlicesWithin (exchanged s) M list
exchanged_within s M list range y i x hy hi hx = subst (λ (p : ℕ). nat_abs (line list p) ≤ M) (exchanged-place s i y x) (range i y x hi hy hx)

pub exchanged_sweepable : {h : Shear} {s : Slices} {size room : ℕ} → Sweepable h s size room → Sweepable h (exchanged s) size room
exchanged_sweepable f =
    record {
      columns = f.columns;
      rows = f.slices;
      slices = f.rows;
      lie = exchanged_apart f.lie;
      slight = f.slight;
      plain = f.plain;
      roomy = f.roomy;
    }

module _ {s : Slices} {set : Setting} {size work : ℕ} (f : Workable s set size work) (κ : Kernel) where
  pub rows_sweepable : Sweepable (record { border = set.border; kernel = κ; moves = Sheared set.a set.cy }) s size work
  rows_sweepable =
      record {
        columns = f.columns;
        rows = f.rows;
        slices = f.slices;
        lie = f.lie;
        slight = (f.setting.shears.0, omega (arith, f.setting.centre.1, f.rows.1));
        plain = omega (arith, f.setting.background);
        roomy = omega (arith, places_few set.border s.columns, f.work_places_lent);
      }

  pub columns_sweepable : Sweepable (record { border = set.border; kernel = κ; moves = Sheared set.b set.cx }) (transposed s) size work
  columns_sweepable =
      record {
        columns = f.rows;
        rows = f.columns;
        slices = f.slices;
        lie = transposed_apart f.lie;
        slight = (f.setting.shears.1, omega (arith, f.setting.centre.0, f.columns.1));
        plain = omega (arith, f.setting.background);
        roomy = omega (arith, places_few set.border s.rows, f.work_places_lent);
      }
