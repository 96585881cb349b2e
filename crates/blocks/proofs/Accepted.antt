-- The order in which a block call is judged, that it is accepted just where no number applies, and that number 6 names the first sample beyond the range.
-- Assumes nothing.
use Prim.Native.Nat.{ℕ, zero, suc, ◌+◌, ◌*◌, ◌/◌, ◌%◌, ◌≤◌, ◌<◌}
use mathlib.Core.Path.{◌≡◌, refl, sym, ap, ◌∙◌, subst}
use mathlib.Core.Bool.{Bool, true, false, ◌||◌}
use mathlib.Core.List.{List}
use native.Mathlib.Nat.{div-add-mod', div-lt_iff_lt-mul, mod-lt, zero-div, zero-mod}
use native.Mathlib.Omega.{arith}
use borrow.Author.Tests.{ltb-false, le-ltb, ne_eqb}
use lib.IntN.{ℤ}
use lib.ListN.{length}
use Rattle.std.specs.Prelude.{Option, Some, None, Err}
use Rattle.refusals.specs.declared.Place.{Place}
use Rattle.refusals.specs.declared.Refusal.{Refusal}
use Rattle.refusals.specs.declared.Refusal.TheVariants as variants
use Rattle.refusals.specs.Judging as verdict
use Rattle.refusals.specs.Tests.{side_beyond, short, bad_kernel, first_bad}
use Rattle.refusals.specs.Judging.{Verdict, accepted, refused_if, of_found, number_of, row_of, column_of}
use Rattle.refusals.proofs.Tests.{or_false, side_within, short_good}
use Rattle.refusals.proofs.First.{nothing_bad, BadAt, FirstBeyond, first_bad_lem}
use Rattle.refusals.proofs.Judging.{refused_if-accepted, of_found-accepted, and_then-accepted, accepted_by_zero}
use Rattle.settings.specs.declared.Setting.{Setting}
use Rattle.moves.specs.Border.{bad_background}
use Rattle.acceptance.specs.Judge.{range, bad_centre, bad_shears, judged_setting}
use Rattle.acceptance.proofs.Accepted.{then_later, setting_accepted, accepted_setting, setting_unread, NamesFound, six_past, six_past_then, six_found}
use Rattle.planes.specs.declared.Slices.{Slices}
use Rattle.blocks.specs.Block.{place, slices_of}
use Rattle.blocks.specs.Judge.{bad_sides, bad_plane, room_of, work_places, too_short, judged, Fit}
use Rattle.blocks.specs.Answer.{only_six, refused_at}
use Rattle.blocks.proofs.Planes.{place_below}

-- ---- what each test that failed tells, and what makes it fail
-- a side of a block
abbrev pub Side : ℕ → Type 0
Side n = (1 ≤ n) × (n ≤ 128)

pub sides_good : (W H D : ℕ) → bad_sides W H D ≡ false → Side W × Side H × Side D
unfolding bad_sides
sides_good W H D e =
    let a = or_false (side_beyond 128 W) _ e in
    let b = or_false (side_beyond 128 H) _ a.1 in
    (side_within 128 W a.0, side_within 128 H b.0, side_within 128 D b.1)

side_accepted : (n : ℕ) → Side n → side_beyond 128 n ≡ false
side_accepted n h = rw (ne_eqb n 0 (λ e. omega arith), le-ltb 128 n h.1) refl

pub fit_sides : (W H D : ℕ) → Side W → Side H → Side D → bad_sides W H D ≡ false
unfolding bad_sides
fit_sides W H D w h d = rw (side_accepted W w, side_accepted H h, side_accepted D d) refl

pub plane_good : (plane : ℕ) → bad_plane plane ≡ false → plane ≤ 2
unfolding bad_plane
plane_good plane e = ltb-false 2 plane e

pub plane_accepted : (plane : ℕ) → plane ≤ 2 → bad_plane plane ≡ false
unfolding bad_plane
plane_accepted plane h = le-ltb 2 plane h

pub long_enough : (places room block result work : ℕ) → too_short places room block result work ≡ false → (places ≤ block) × (places ≤ result) × (room ≤ work)
unfolding too_short
long_enough places room block result work e =
    let a = or_false (short block places) _ e in
    let b = or_false (short result places) _ a.1 in
    (short_good a.0, short_good b.0, short_good b.1)

pub fit_long : (places room block result work : ℕ) → places ≤ block → places ≤ result → room ≤ work → too_short places room block result work ≡ false
unfolding too_short short
fit_long places room block result work b r w = rw (le-ltb block places b, le-ltb result places r, le-ltb work room w) refl

-- the sides of a plane, and the number of its slices, are sides of the block
pub sides_of : (W H D plane : ℕ) → Side W → Side H → Side D
    → let s = slices_of W H D plane in Side s.columns × Side s.rows × Side s.slices
sides_of W H D zero w h d = (w, h, d)
sides_of W H D (suc zero) w h d = (w, d, h)
sides_of W H D (suc (suc plane)) w h d = (h, d, w)

-- the work that number 2 asks for is what a caller is told, of every block that neither 1 nor 17 refuses
pub work_asked : (W H D plane block result work : ℕ) → bad_sides W H D ≡ false → bad_plane plane ≡ false
    → too_short (W * H * D) (room_of (slices_of W H D plane)) block result work
    ≡ (short block (W * H * D) || (short result (W * H * D) || short work (work_places W H D plane)))
unfolding too_short work_places
work_asked W H D plane block result work sides known = rw (sides, known) refl

-- and the work places of a slice
pub told_work : (W H D plane : ℕ) → Side W → Side H → Side D → plane ≤ 2 → work_places W H D plane ≡ room_of (slices_of W H D plane)
unfolding work_places
told_work W H D plane w h d known = rw (fit_sides W H D w h d, plane_accepted plane known) refl

-- as many places in one order of the sides as in the other
all-places : (W H D : ℕ) → D * H * W ≡ W * H * D
all-places W H D = omega arith

-- ---- the sample that number 6 names
module _ (W H D : ℕ) (block : List ℤ) where
  -- depth z, row y, column x holds the first sample beyond the range, in the order of storage
  pub record BadSample (z y x : ℕ) : Type 0 where
    pub depth_inside : z < D
    pub row_inside : y < H
    pub column_inside : x < W
    pub first : FirstBeyond range (W * H * D) (place W H z y x) block

  -- row r of all pictures, one below the other, is row r modulo H at the depth r / H
  bad_below : (r x : ℕ) → BadAt range W (D * H) block r x → BadSample (r / H) (r % H) x
  bad_below r x b =
      record {
        depth_inside = (div-lt_iff_lt-mul some).1 b.row_inside;
        row_inside = mod-lt r some;
        column_inside = b.column_inside;
        first = subst (λ (n : ℕ). FirstBeyond range n (place W H (r / H) (r % H) x) block) (all-places W H D) (subst (λ (n : ℕ). FirstBeyond range (D * H * W) n block) joined b.first);
      }
    where
      some : 0 < H
      some = positive H b.row_inside
        where
          positive : (h : ℕ) → r < D * h → 0 < h
          positive zero l = absurd (omega (arith, l))
          positive (suc h) l = omega arith

      joined : r * W + x ≡ place W H (r / H) (r % H) x
      joined = ap (λ (n : ℕ). n * W + x) (sym (div-add-mod' r H)) ∙ place_below W H D (r / H) (r % H) x

-- ---- what a refusal by depth, row and column says of the one that it is made of
pub record Sited (H : ℕ) (refusal : Refusal) : Type 0 where
  pub number : verdict.number (refused_at H refusal).refusal ≡ verdict.number refusal
  pub depth : (refused_at H refusal).depth ≡ only_six (verdict.number refusal) ((verdict.place refusal).row / H)
  pub row : (verdict.place (refused_at H refusal).refusal).row ≡ only_six (verdict.number refusal) ((verdict.place refusal).row % H)
  pub column : (verdict.place (refused_at H refusal).refusal).column ≡ only_six (verdict.number refusal) (verdict.place refusal).column

-- every refusal is told so, whatever place it holds, and the height may be 0
pub sited : (H : ℕ) (refusal : Refusal) → Sited H refusal
sited H variants.BadSize = record { number = refl; depth = refl; row = refl; column = refl }
sited H variants.TooShort = record { number = refl; depth = refl; row = refl; column = refl }
sited H variants.BadCentre = record { number = refl; depth = refl; row = refl; column = refl }
sited H variants.TooFar = record { number = refl; depth = refl; row = refl; column = refl }
sited H variants.BadKernel = record { number = refl; depth = refl; row = refl; column = refl }
sited H (variants.BadSample p) = record { number = refl; depth = refl; row = refl; column = refl }
sited H variants.TooLarge = record { number = refl; depth = sym (zero-div H); row = sym (zero-mod H); column = refl }
sited H variants.Outside = record { number = refl; depth = refl; row = refl; column = refl }
sited H variants.TooSteep = record { number = refl; depth = refl; row = refl; column = refl }
sited H variants.Malformed = record { number = refl; depth = refl; row = refl; column = refl }
sited H variants.BadBackground = record { number = refl; depth = refl; row = refl; column = refl }
sited H variants.OtherSize = record { number = refl; depth = refl; row = refl; column = refl }
sited H (variants.BelowThreshold p) = record { number = refl; depth = refl; row = refl; column = refl }
sited H variants.BadMove = record { number = refl; depth = refl; row = refl; column = refl }
sited H variants.BadPlane = record { number = refl; depth = refl; row = refl; column = refl }

-- ---- the whole chain
module _ (W H D plane : ℕ) (set : Setting) (block : List ℤ) (result work : ℕ) where
  abbrev s : Slices
  s = slices_of W H D plane

  -- number 2
  abbrev two : Bool
  two = too_short (W * H * D) (room_of s) (length block) result work

  -- the verdict on the samples alone
  abbrev samples : Verdict
  samples = of_found variants.BadSample (first_bad range W (D * H) block)

  -- the numbers in their order: 1, 17, 2, 3, 4, 5, 12 and 6
  pub in_order : judged W H D plane set block result work
      ≡ refused_if (bad_sides W H D) variants.BadSize
      (refused_if (bad_plane plane) variants.BadPlane
      (refused_if (too_short (W * H * D) (room_of (slices_of W H D plane)) (length block) result work) variants.TooShort
      (refused_if (bad_centre (slices_of W H D plane).columns (slices_of W H D plane).rows set) variants.BadCentre
      (refused_if (bad_shears set) variants.TooFar
      (refused_if (bad_kernel set.kernel) variants.BadKernel
      (refused_if (bad_background set.border) variants.BadBackground
      (of_found variants.BadSample (first_bad range W (D * H) block))))))))
  unfolding judged
  in_order =
      ap (λ (v : Verdict). refused_if (bad_sides W H D) variants.BadSize (refused_if (bad_plane plane) variants.BadPlane (refused_if two variants.TooShort v)))
      (then_later (bad_centre s.columns s.rows set) (bad_shears set) (bad_kernel set.kernel) (bad_background set.border) samples)

  -- past every other test the samples alone are judged
  pub only_samples : bad_sides W H D ≡ false → bad_plane plane ≡ false → two ≡ false → judged_setting s.columns s.rows set ≡ accepted
      → judged W H D plane set block result work ≡ samples
  unfolding judged
  only_samples sides known buffers setting = rw (sides, known, buffers, setting) refl

  -- a call that passes every test is accepted
  pub fit_accepted : Fit W H D plane set block result work → judged W H D plane set block result work ≡ accepted
  fit_accepted f =
      only_samples (fit_sides W H D f.width f.height f.depth) (plane_accepted plane f.known)
      (fit_long (W * H * D) (room_of s) (length block) result work f.block_places f.result_places f.work_places_lent) (setting_accepted f.setting)
      ∙ ap (of_found variants.BadSample) ((nothing_bad range W (D * H) block).1 (λ i l. f.samples i (subst (λ (n : ℕ). i < n) (all-places W H D) l)))

  -- and an accepted one passes every test
  pub accepted_fit : judged W H D plane set block result work ≡ accepted → Fit W H D plane set block result work
  unfolding judged
  accepted_fit e =
      let one = refused_if-accepted (bad_sides W H D) variants.BadSize _ tt e in
      let seventeen = refused_if-accepted (bad_plane plane) variants.BadPlane _ tt one.1 in
      let buffers = refused_if-accepted two variants.TooShort _ tt seventeen.1 in
      let setting = and_then-accepted (judged_setting s.columns s.rows set) _ tt buffers.1 in
      let six = (nothing_bad range W (D * H) block).0 (of_found-accepted variants.BadSample (first_bad range W (D * H) block) setting.1) in
      let sides = sides_good W H D one.0 in
      let long = long_enough (W * H * D) (room_of s) (length block) result work buffers.0 in
      record {
        width = sides.0;
        height = sides.1;
        depth = sides.2;
        known = plane_good plane seventeen.0;
        block_places = long.0;
        result_places = long.1;
        work_places_lent = long.2;
        setting = accepted_setting s.columns s.rows set setting.0;
        samples = λ i l. six i (subst (λ (n : ℕ). i < n) (sym (all-places W H D)) l);
      }

  -- no number is 0, so that 0 says that the call is accepted
  pub zero-accepted : number_of (judged W H D plane set block result work) ≡ 0 → judged W H D plane set block result work ≡ accepted
  zero-accepted = accepted_by_zero _

  -- number 6 names a sample that the scan found
  six_names_found : NamesFound (first_bad range W (D * H) block) (judged W H D plane set block result work)
  unfolding judged
  six_names_found =
      six_past (bad_sides W H D) variants.BadSize _ _ (λ e. omega arith) (six_past (bad_plane plane) variants.BadPlane _ _ (λ e. omega arith)
      (six_past two variants.TooShort _ _ (λ e. omega arith)
      (six_past_then (judged_setting s.columns s.rows set) _ _ (setting_unread s.columns s.rows set) (six_found (first_bad range W (D * H) block)))))

  -- which is the first beyond the range, in the order of storage
  pub refused_sample : let v = judged W H D plane set block result work in number_of v ≡ 6 → BadSample W H D block (row_of v / H) (row_of v % H) (column_of v)
  refused_sample e = bad_below W H D block _ _ ((first_bad_lem range W (D * H) block _ _).0 (six_names_found e))
