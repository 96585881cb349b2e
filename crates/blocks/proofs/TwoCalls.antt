-- Two calls: the same block call twice; and a block call that is accepted, with the single call on one of its slices. Assumes nothing.
use Prim.Native.Nat.{ℕ, ◌*◌, ◌/◌, ◌%◌, ◌≤◌, ◌<◌, min}
use mathlib.Core.Path.{◌≡◌, refl, sym, ap, ◌∙◌, subst}
use mathlib.Core.List.{List, ◌++◌}
use native.Mathlib.Nat.{mul-pos}
use native.Mathlib.Omega.{arith}
use lib.IntN.{ℤ, pos}
use lib.ListN.{length, take, drop, length-take}
use lib.Seq.{get_or-take}
use lib.Signed.{◌≤ℤ◌}
use Rattle.arith.specs.Whole.{min_ℤ, max_ℤ}
use Rattle.lists.specs.Line.{line}
use Rattle.lists.specs.Ends.{picked, smallest, largest, extremes_of}
use Rattle.lists.proofs.Ends.{Extreme, picked_same, smallest_is, largest_is}
use Rattle.refusals.specs.Judging as verdict
use Rattle.refusals.specs.Judging.{Verdict}
use Rattle.settings.specs.declared.Setting.{Setting}
use Rattle.passes.specs.Picture.{straighten}
use Rattle.lists.proofs.Picture.{at_index, pictured_at}
use Rattle.acceptance.specs.Judge as singly
use Rattle.acceptance.proofs.Accepted as alone
use Rattle.planes.specs.declared.Slices.{Slices}
use Rattle.planes.specs.Slices.{place_in, slice, slice_of}
use Rattle.planes.proofs.Places.{slice-length}
use Rattle.pictures.specs.Answer as single
use Rattle.pictures.specs.Answer.{kernel_in, row_moves, column_moves}
use Rattle.pictures.proofs.Call as single-call
use Rattle.blocks.specs.Block.{slices_of}
use Rattle.blocks.specs.Judge.{Fit}
use Rattle.blocks.specs.Answer.{Outcome, number_of, count_of, smallest_of, largest_of, outcome_by, count_in, count_over, Answered, Answer}
use Rattle.blocks.specs.TwoCalls.{Copied, Kept}
use Rattle.blocks.proofs.Call.{sides, whole, some_places, slice_fit, slice_straight, was_accepted, was_fit, was_left}

-- the answer leaves nothing open: two calls with one verdict, on the same block and buffers, come to the same and leave the same
pub answered_once : {v : Verdict} {W H D plane : ℕ} {s : Slices} {set : Setting} {block result work : List ℤ} {r r₂ : Outcome} {result' work' result₂ work₂ : List ℤ}
    → Answered v W H D plane s set block result work r result' work' → Answered v W H D plane s set block result work r₂ result₂ work₂
    → (r ≡ r₂) × (result' ≡ result₂) × (work' ≡ work₂)
answered_once {v} {W} {H} {D} {plane} {s} {set} a b =
    let w = a.written ∙ sym b.written in
    (a.outcome ∙ ap (λ (t : List ℤ). outcome_by H v (count_over s set) (extremes_of (W * H * D) t)) w ∙ sym b.outcome, w, a.cleared ∙ sym b.cleared)

-- ---- an accepted block call, and the single call on a picture that slice i of its block was copied into
module _ {W H D plane : ℕ} {set : Setting} {block result work : List ℤ} {r : Outcome} {result' work' : List ℤ}
    (a : Answer W H D plane set block result work r result' work') (none : number_of r ≡ 0)
    {i : ℕ} {picture own own-work : List ℤ} {q : single.Outcome} {own' own-work' : List ℤ}
    (b : Copied (slices_of W H D plane) set block i picture own own-work q own' own-work') where
  abbrev s : Slices
  s = slices_of W H D plane

  abbrev n : ℕ
  n = s.columns * s.rows

  fit : Fit W H D plane set block (length result) (length work)
  fit = was_fit a none

  -- ---- the picture that the slice was copied into
  copied_at : (k : ℕ) → k < n → line picture k ≡ line (slice_of s block i) k
  copied_at k l = sym (get_or-take n picture k (pos 0) l) ∙ ap (λ (t : List ℤ). line t k) b.copied

  long : n ≤ length picture
  long = whole_of (sym (length-take n picture) ∙ ap length b.copied ∙ slice-length s block i)
    where
      whole_of : {m l : ℕ} → min m l ≡ m → m ≤ l
      whole_of e = omega arith

  own_fit : singly.Fit s.columns s.rows set picture (length own) (length own-work)
  own_fit =
      let f = slice_fit fit i b.some_slice (length own) (length own-work) b.result_places b.work_places_lent in
      record {
        width = f.width;
        height = f.height;
        picture_places = long;
        result_places = f.result_places;
        work_places_lent = f.work_places_lent;
        setting = f.setting;
        samples = λ k l. rw (copied_at k l) (f.samples k l);
      }

  -- ---- the single call is accepted
  accepted : singly.judged s.columns s.rows set picture (length own) (length own-work) ≡ verdict.accepted
  accepted = alone.fit_accepted s.columns s.rows set picture (length own) (length own-work) own_fit

  own_number : verdict.number_of q ≡ 0
  own_number = b.answer.number ∙ ap verdict.number_of accepted

  -- ---- and leaves slice i of the block's result
  abbrev passes : List ℤ → List ℤ
  passes = straighten set.border (kernel_in set) s.columns s.rows (row_moves set) (column_moves set)

  samples : take n own' ≡ slice_of s result' i
  samples =
      single-call.first-places own_fit own own' (b.answer.written ∙ ap (λ v. verdict.when_accepted v (passes (take n picture) ++ drop n own) own) accepted)
      ∙ sym (single-call.straighten_takes set.border (kernel_in set) s.columns s.rows (row_moves set) (column_moves set) picture own_fit.width.0 own_fit.height.0)
      ∙ ap passes b.copied
      ∙ sym (slice_straight fit result result' (was_left a none) i b.some_slice)

  -- ---- its figures
  some : 1 ≤ n
  some = mul-pos (sides fit).0.0 (sides fit).1.0

  own_picked : (of : ℤ → ℤ → ℤ) → picked of (line own') n ≡ picked of (line (slice_of s result' i)) n
  own_picked of =
      picked_same of (line own') (line (slice_of s result' i)) n some (λ k l. sym (get_or-take n own' k (pos 0) l) ∙ ap (λ (t : List ℤ). line t k) samples)

  told : (single.smallest_of q ≡ smallest (line own') n) × (single.largest_of q ≡ largest (line own') n) × (single.count_of q ≡ count_in s set)
  told = single-call.was_told _ b.answer own_number

  counted : count_of r ≡ s.slices * single.count_of q
  counted = a.count ∙ rw (was_accepted a none, told.2) refl

  -- each sample of the slice is one of the block's
  own_place : (k : ℕ) → k < n → line (slice_of s result' i) k ≡ line result' (place_in s i (k / s.columns) (k % s.columns))
  unfolding slice_of
  own_place k l = pictured_at s.columns s.rows (slice s result' i) k l

  own_inside : (k : ℕ) → k < n → place_in s i (k / s.columns) (k % s.columns) < W * H * D
  own_inside k l =
      at_index (λ y x. place_in s i y x < W * H * D) (sides fit).0.0 (λ y x hy hx. (whole fit).lie.inside i y x b.some_slice hy hx) k l

  among : (R : ℤ → ℤ → Type 0) (v w : ℤ) → Extreme R (line result') (W * H * D) v → Extreme R (line (slice_of s result' i)) n w → R v w
  among R v w e d = subst (R v) (sym (d.there ∙ own_place d.place d.inside)) (e.each _ (own_inside d.place d.inside))

  own_smallest : single.smallest_of q ≡ smallest (line (slice_of s result' i)) n
  own_smallest = told.0 ∙ own_picked min_ℤ

  own_largest : single.largest_of q ≡ largest (line (slice_of s result' i)) n
  own_largest = told.1 ∙ own_picked max_ℤ

  block_smallest : smallest_of r ≡ smallest (line result') (W * H * D)
  block_smallest = ap smallest_of a.outcome ∙ rw (was_accepted a none) refl

  block_largest : largest_of r ≡ largest (line result') (W * H * D)
  block_largest = ap largest_of a.outcome ∙ rw (was_accepted a none) refl

  pub kept : Kept s r result' i q own'
  kept =
      record {
        accepted = own_number;
        samples = samples;
        count = counted;
        smallest = own_smallest;
        largest = own_largest;
        within = (
          rw (block_smallest, own_smallest)
              (among (λ x y. x ≤ℤ y) _ _ (smallest_is (line result') (W * H * D) (some_places fit)) (smallest_is (line (slice_of s result' i)) n some)),
          rw (block_largest, own_largest)
              (among (λ x y. y ≤ℤ x) _ _ (largest_is (line result') (W * H * D) (some_places fit)) (largest_is (line (slice_of s result' i)) n some)),
        );
      }
