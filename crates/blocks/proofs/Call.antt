-- What makes up the answer of the block call, refused and accepted. Assumes nothing.
use Prim.Native.Nat.{ℕ, ◌+◌, ◌*◌, ◌/◌, ◌%◌, ◌≤◌, ◌<◌}
use mathlib.Core.Path.{◌≡◌, refl, sym, ap, ap₂, ◌∙◌, subst}
use mathlib.Core.List.{List, ◌++◌, append-nil}
use native.Mathlib.Nat.{mul-pos}
use native.Mathlib.Omega.{arith}
use borrow.Author.Tests.{ne_eqb}
use lib.Arith.{digits_div, digits_mod}
use lib.IntN.{ℤ, pos, nat_abs}
use lib.ListN.{length, take, drop, replicate, drop_of_length-le}
use lib.Seq.{get_or-take}
use Rattle.arith.specs.Whole.{min_ℤ, max_ℤ}
use Rattle.lists.specs.declared.Extremes.{Extremes}
use Rattle.lists.specs.Line.{Line, line}
use Rattle.lists.specs.Ends.{smallest, largest, extremes_of}
use Rattle.lists.proofs.Ends.{picked_same, Cover, smallest_groups, largest_groups, smallest-rows, largest-rows}
use Rattle.std.specs.Prelude.{Ok, Err}
use Rattle.refusals.specs.declared.Refusal.{Refusal}
use Rattle.refusals.specs.Tests.{AllWithin}
use Rattle.refusals.specs.Judging as verdict
use Rattle.refusals.specs.Judging.{Verdict, accepted}
use Rattle.settings.specs.declared.Setting.{Setting}
use Rattle.lists.specs.Picture.{picture}
use Rattle.passes.specs.Picture.{straighten}
use Rattle.lists.proofs.Picture.{inside, at_index, pictured_at}
use Rattle.acceptance.specs.Judge as singly
use Rattle.acceptance.proofs.Accepted as alone
use Rattle.planes.specs.declared.Slices.{Slices}
use Rattle.planes.specs.Slices.{place_in, slice, slice_of, Everywhere, Apart, Whole}
use Rattle.planes.specs.Sweep.{SlicesWithin, Workable}
use Rattle.planes.proofs.Places.{slice-length, slice-picture}
use Rattle.pictures.specs.Answer as single
use Rattle.pictures.specs.Answer.{kernel_in, row_moves, column_moves}
use Rattle.pictures.proofs.Call as single-call
use Rattle.blocks.specs.Block.{slices_of, slice_at, row_at, column_at, straight_slice, straighten_block}
use Rattle.blocks.specs.Judge.{room_of, Fit}
use Rattle.blocks.specs.Answer.{Outcome, number_of, depth_of, row_of, column_of, refused_at, count_over, slice_rows, smallest_over, largest_over, slice_outcome, verdict_of, Answered, Answer}
use Rattle.blocks.proofs.Planes.{stands, slices_whole}
use Rattle.blocks.proofs.Straight.{third_slice, straight_slice_lem, block_slice}
use Rattle.blocks.proofs.Accepted.{Side, sides_of, accepted_fit, zero-accepted, BadSample, refused_sample, sited}

-- ---- a block that no number refuses
module _ {W H D plane : ℕ} {set : Setting} {block : List ℤ} {places room : ℕ} (f : Fit W H D plane set block places room) where
  abbrev s : Slices
  s = slices_of W H D plane

  abbrev size : ℕ
  size = W * H * D

  abbrev n : ℕ
  n = s.columns * s.rows

  pub sides : Side s.columns × Side s.rows × Side s.slices
  sides = sides_of W H D plane f.width f.height f.depth

  pub whole : Whole s size
  whole = slices_whole W H D f.width.0 f.height.0 plane

  pub some_places : 1 ≤ size
  some_places = mul-pos (mul-pos f.width.0 f.height.0) f.depth.0

  -- its copy, in so many places, may be straightened slice by slice
  pub fit_workable : (long work : ℕ) → long ≡ size → room_of s ≤ work → Workable s set long work
  fit_workable long work e big =
      record {
        columns = (sides.0.0, omega (arith, sides.0.1));
        rows = (sides.1.0, omega (arith, sides.1.1));
        slices = (sides.2.0, omega (arith, sides.2.1));
        lie = subst (Apart s) (sym e) whole.lie;
        work_places_lent = big;
        setting = f.setting;
      }

  fit_within : SlicesWithin s 32767 block
  fit_within i y x hi hy hx = f.samples (place_in s i y x) (whole.lie.inside i y x hi hy hx)

  pub copy_within : (copy : List ℤ) → copy ≡ take size block → SlicesWithin s 32767 copy
  copy_within copy e i y x hi hy hx =
      rw (e, get_or-take size block (place_in s i y x) (pos 0) (whole.lie.inside i y x hi hy hx)) (fit_within i y x hi hy hx)

  -- the single call accepts every slice, with a result and work of as many places as they need
  pub slice_range : (i : ℕ) → i < s.slices → AllWithin 32767 n (slice_of s block i)
  unfolding slice_of
  slice_range i hi k l =
      rw (pictured_at s.columns s.rows (slice s block i) k l)
      (at_index (λ y x. nat_abs (slice s block i y x) ≤ 32767) sides.0.0 (λ y x hy hx. fit_within i y x hi hy hx) k l)

  pub slice_fit : (i : ℕ) → i < s.slices → (own work : ℕ) → n ≤ own → room_of s ≤ work → singly.Fit s.columns s.rows set (slice_of s block i) own work
  slice_fit i hi own work enough big =
      record {
        width = (sides.0.0, omega (arith, sides.0.1));
        height = (sides.1.0, omega (arith, sides.1.1));
        picture_places = omega (arith, slice-length s block i);
        result_places = enough;
        work_places_lent = big;
        setting = f.setting;
        samples = slice_range i hi;
      }

  -- as it does where the slices of a result are its results
  own_fit : (result : List ℤ) (work : ℕ) → room_of s ≤ work → (i : ℕ) → i < s.slices
      → singly.Fit s.columns s.rows set (slice_of s block i) (length (slice_of s result i)) work
  own_fit result work big i hi = slice_fit i hi (length (slice_of s result i)) work (omega (arith, slice-length s result i)) big

  own_accepted : (result : List ℤ) (work : ℕ) → room_of s ≤ work → (i : ℕ) → i < s.slices
      → singly.judged s.columns s.rows set (slice_of s block i) (length (slice_of s result i)) work ≡ accepted
  own_accepted result work big i hi =
      alone.fit_accepted s.columns s.rows set (slice_of s block i) (length (slice_of s result i)) work (own_fit result work big i hi)

  -- ---- and the result that it leaves
  module _ (result result' : List ℤ) (done : result' ≡ straighten_block W H D plane set block ++ drop size result) where
    left_slice : Everywhere s (λ i y x. slice s result' i y x ≡ straight_slice s set block i y x)
    left_slice i y x hi hy hx =
        ap (λ (t : List ℤ). slice s t i y x) done ∙ block_slice W H D plane set block f.width.0 f.height.0 (drop size result) i y x hi hy hx

    -- each slice is the three passes of that slice of the block
    pub slice_straight : (i : ℕ) → i < s.slices
        → slice_of s result' i ≡ straighten set.border (kernel_in set) s.columns s.rows (row_moves set) (column_moves set) (slice_of s block i)
    slice_straight i hi = straight_slice_lem s set sides.0.0 sides.1.0 block result' i (λ y x hy hx. left_slice i y x hi hy hx)

    -- ---- the whole contract of the single call on a slice
    pub slice_single : (work work' : List ℤ) → room_of s ≤ length work → work' ≡ replicate (room_of s) (pos 0) ++ drop (room_of s) work
        → (i : ℕ) → i < s.slices
        → single.Answer s.columns s.rows set (slice_of s block i) (slice_of s result i) work (slice_outcome s set (slice_of s result' i)) (slice_of s result' i) work'
    slice_single work work' big clean i hi =
        single-call.accepted-answer _ s.columns s.rows set (slice_of s block i) (slice_of s result i) work _ _ (slice_of s result' i) work'
        (own_accepted result (length work) big i hi) (own_fit result (length work) big i hi) refl refl written clean
      where
        written : slice_of s result' i
            ≡ straighten set.border (kernel_in set) s.columns s.rows (row_moves set) (column_moves set) (take n (slice_of s block i)) ++ drop n (slice_of s result i)
        written =
            slice_straight i hi
            ∙ sym (single-call.straighten_takes set.border (kernel_in set) s.columns s.rows (row_moves set) (column_moves set) (slice_of s block i) sides.0.0 sides.1.0)
            ∙ sym (append-nil _)
            ∙ ap (λ (t : List ℤ). straighten set.border (kernel_in set) s.columns s.rows (row_moves set) (column_moves set) (take n (slice_of s block i)) ++ t)
            (sym (drop_of_length-le (slice_of s result i) {i = n} (omega (arith, slice-length s result i))))

    -- ---- the samples of the result are those of pass 3 of all slices
    -- those of slice i, one row after the other
    abbrev group : ℕ → Line
    group i k = slice_rows s set block i (k / s.columns) (k % s.columns)

    third : Everywhere s (λ i y x. slice_rows s set block i y x ≡ slice s result' i y x)
    third i y x hi hy hx = third_slice s set sides.0.0 sides.1.0 block i y x hy hx ∙ sym (left_slice i y x hi hy hx)

    cover : Cover group s.slices n (line result') size
    cover =
        record {
          each = λ i k hi hk.
              let at = at_index (λ y x. (y < s.rows) × (x < s.columns)) sides.0.0 (λ y x hy hx. (hy, hx)) k hk in
              record {
                place = place_in s i (k / s.columns) (k % s.columns);
                inside = whole.lie.inside i (k / s.columns) (k % s.columns) hi at.0 at.1;
                there = third i (k / s.columns) (k % s.columns) hi at.0 at.1;
              };
          every = λ p l.
              let c = stands W H D f.width.0 f.height.0 plane p l in
              let y = row_at W H plane p in
              let x = column_at W H plane p in
              record {
                group = slice_at W H plane p;
                place = y * s.columns + x;
                group_inside = c.0;
                inside = inside s.columns s.rows y x c.1 c.2;
                there =
                    ap (line result') c.3
                    ∙ sym (third (slice_at W H plane p) y x c.0 c.1 c.2)
                    ∙ sym (ap₂ (slice_rows s set block (slice_at W H plane p)) (digits_div y c.2) (digits_mod y c.2));
              };
        }

    pub smallest_over_lem : smallest_over s set block ≡ smallest (line result') size
    smallest_over_lem =
        picked_same min_ℤ _ (λ i. smallest (group i) n) s.slices sides.2.0
        (λ i l. smallest-rows s.columns s.rows (slice_rows s set block i) (group i) sides.0.0 sides.1.0 (λ k h. refl))
        ∙ smallest_groups sides.2.0 (mul-pos sides.0.0 sides.1.0) some_places cover

    pub largest_over_lem : largest_over s set block ≡ largest (line result') size
    largest_over_lem =
        picked_same max_ℤ _ (λ i. largest (group i) n) s.slices sides.2.0
        (λ i l. largest-rows s.columns s.rows (slice_rows s set block i) (group i) sides.0.0 sides.1.0 (λ k h. refl))
        ∙ largest_groups sides.2.0 (mul-pos sides.0.0 sides.1.0) some_places cover

    -- what holds of every slice's samples holds of the result's
    pub by_slices : (P : ℤ → Type 0) → ((i : ℕ) → i < s.slices → (k : ℕ) → k < n → P (line (slice_of s result' i) k)) → (p : ℕ) → p < size → P (line result' p)
    by_slices P each p l =
        let c = stands W H D f.width.0 f.height.0 plane p l in
        let i = slice_at W H plane p in
        let y = row_at W H plane p in
        let x = column_at W H plane p in
        subst P (slice_sample i y x c.1 c.2 ∙ ap (line result') (sym c.3)) (each i c.0 (y * s.columns + x) (inside s.columns s.rows y x c.1 c.2))
      where
        slice_sample : (i y x : ℕ) → y < s.rows → x < s.columns → line (slice_of s result' i) (y * s.columns + x) ≡ slice s result' i y x
        slice_sample i y x hy hx = unfold picture in slice-picture s result' i y x hy hx

-- ---- the answer
module _ (v : Verdict) (W H D plane : ℕ) (set : Setting) (block result work : List ℤ) where
  pub refused-answer : (refusal : Refusal) → v ≡ Err refusal
      → Answered v W H D plane (slices_of W H D plane) set block result work (Err (refused_at H refusal)) result work
  refused-answer refusal e =
      let told = sited H refusal in
      record {
        outcome = rw e refl;
        number = rw e told.number;
        depth = rw e told.depth;
        row = rw e told.row;
        column = rw e told.column;
        count = rw e refl;
        smallest = rw e refl;
        largest = rw e refl;
        written = rw e refl;
        readable = λ a. absurd cc;
        cleared = rw e refl;
        single = λ a. absurd cc;
      }

  pub accepted-answer : (lines : ℕ) (extremes : Extremes) (result' work' : List ℤ) → v ≡ accepted → Fit W H D plane set block (length result) (length work)
      → lines ≡ count_over (slices_of W H D plane) set
      → extremes ≡ extremes_of (W * H * D) result'
      → result' ≡ straighten_block W H D plane set block ++ drop (W * H * D) result
      → work' ≡ replicate (room_of (slices_of W H D plane)) (pos 0) ++ drop (room_of (slices_of W H D plane)) work
      → Answered v W H D plane (slices_of W H D plane) set block result work (Ok (record { lines = lines; extremes = extremes })) result' work'
  accepted-answer lines extremes result' work' e f counted found done clean =
      let each = slice_single f result result' done work work' f.work_places_lent clean in
      record {
        outcome = rw (e, counted, found) refl;
        number = rw e refl;
        depth = rw e refl;
        row = rw e refl;
        column = rw e refl;
        count = rw e counted;
        smallest = rw (e, found) (sym (smallest_over_lem f result result' done));
        largest = rw (e, found) (sym (largest_over_lem f result result' done));
        written = rw e done;
        readable = λ a. by_slices f result result' done (λ v. nat_abs v ≤ 1048576) (λ i hi. (each i hi).readable (own_accepted f result (length work) f.work_places_lent i hi));
        cleared = rw e clean;
        single = λ a. each;
      }

-- ---- what an answer says by its number
module _ {W H D plane : ℕ} {set : Setting} {block result work : List ℤ} {r : Outcome} {result' work' : List ℤ}
    (a : Answer W H D plane set block result work r result' work') where
  abbrev verdict_of_lem : Verdict
  verdict_of_lem = verdict_of W H D plane set block result work

  -- 0: it was accepted
  pub was_accepted : number_of r ≡ 0 → verdict_of_lem ≡ accepted
  was_accepted none = zero-accepted W H D plane set block (length result) (length work) (sym a.number ∙ none)

  pub was_fit : number_of r ≡ 0 → Fit W H D plane set block (length result) (length work)
  was_fit none = accepted_fit W H D plane set block (length result) (length work) (was_accepted none)

  pub was_left : number_of r ≡ 0 → result' ≡ straighten_block W H D plane set block ++ drop (W * H * D) result
  was_left none =
      a.written ∙ ap (λ v. verdict.when_accepted v (straighten_block W H D plane set block ++ drop (W * H * D) result) result) (was_accepted none)

  -- 6: its depth, row and column are those of the first sample beyond the range, in the order of storage
  pub sample_named : number_of r ≡ 6 → BadSample W H D block (depth_of r) (row_of r) (column_of r)
  sample_named e =
      let six = sym a.number ∙ e in
      rw (a.depth, a.row, a.column, six) (refused_sample W H D plane set block (length result) (length work) six)

  -- and under every other number they are 0
  pub elsewhere_zero : (number_of r ≡ 6 → ⊥) → (depth_of r ≡ 0) × (row_of r ≡ 0) × (column_of r ≡ 0)
  elsewhere_zero not_six =
      let none = ne_eqb (verdict.number_of verdict_of_lem) 6 (λ e. not_six (a.number ∙ e)) in
      (a.depth ∙ rw none refl, a.row ∙ rw none refl, a.column ∙ rw none refl)
