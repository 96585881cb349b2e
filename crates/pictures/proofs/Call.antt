-- What makes up the answer of the three-pass call, refused and accepted. Assumes nothing.
use Prim.Native.Nat.{ℕ, ◌+◌, ◌*◌, ◌/◌, ◌%◌, ◌≤◌, ◌<◌, max}
use mathlib.Core.Path.{◌≡◌, refl, sym, ap, ◌∙◌, subst}
use mathlib.Core.Bool.{Bool}
use mathlib.Core.List.{List, ◌++◌}
use native.Mathlib.Nat.{mul-pos}
use native.Mathlib.Omega.{arith}
use lib.IntN.{ℤ, pos, nat_abs}
use lib.ListN.{length, take, drop, replicate}
use lib.Seq.{get_or-take, take_at}
use Rattle.lists.specs.declared.Extremes.{Extremes}
use Rattle.lists.specs.Line.{line}
use Rattle.lists.specs.Ends.{smallest, largest, extremes_of}
use Rattle.lists.proofs.Ends.{smallest-rows, largest-rows}
use Rattle.std.specs.Prelude.{Ok, Err}
use Rattle.refusals.specs.declared.Refusal.{Refusal}
use Rattle.refusals.specs.Judging.{Verdict, accepted, number_of, row_of, column_of, when_accepted}
use Rattle.refusals.proofs.First.{BadAt}
use Rattle.settings.specs.declared.Setting.{Setting}
use Rattle.settings.specs.declared.Border.{Border}
use Rattle.kernels.specs.declared.Kernel.{Kernel}
use Rattle.moves.specs.Range.{InRange}
use Rattle.moves.proofs.Range.{extremes_in_range, kernel_linear}
use Rattle.lists.specs.Picture.{Picture, picture, Places}
use Rattle.passes.specs.Picture.{straighten, rows_moved}
use Rattle.passes.specs.Count.{count}
use Rattle.lists.proofs.Picture.{inside, pictured_same}
use Rattle.passes.proofs.Places.{straighten_at}
use Rattle.passes.proofs.Rows.{moved_row_alone}
use Rattle.passes.proofs.Count.{count_bound}
use Rattle.passes.proofs.Stages.{rows_pass, columns_pass, rows-pass-length, straighten_stages}
use Rattle.passes.proofs.Range.{straighten_in_range}
use Rattle.passes.proofs.Reach.{straighten_size}
use Rattle.exact.specs.Limits.{Demand3}
use Rattle.exact.proofs.Demand.{straighten-demand3}
use Rattle.acceptance.specs.Judge.{range, judged_on, Fit}
use Rattle.acceptance.proofs.Accepted.{fit_range, accepted_fit, zero-accepted, refused_sample, refused-zero}
use Rattle.pictures.specs.Answer.{Outcome, count_of, smallest_of, largest_of, outcome_of, kernel_in, row_moves, column_moves, third_rows, Answered, AnswerOn}

-- ---- the places of the picture after its first W·H are not read
module _ (β : Border) (κ : Kernel) (W H : ℕ) (rows columns : ℕ → ℤ) (s : List ℤ) (hW : 0 < W) (hH : 0 < H) where
  places_same : Places W H (λ y x. picture W (take (W * H) s) y x ≡ picture W s y x)
  unfolding picture
  places_same y x hy hx = get_or-take (W * H) s (y * W + x) (pos 0) (inside W H y x hy hx)

  first_same : rows_pass β κ W H rows (take (W * H) s) ≡ rows_pass β κ W H rows s
  unfolding rows_pass
  first_same =
      pictured_same (rows_moved β κ W rows (picture W (take (W * H) s))) (rows_moved β κ W rows (picture W s)) hW
      (λ y x hy hx. moved_row_alone β κ W rows (picture W (take (W * H) s)) (picture W s) y hW (λ k l. places_same y k hy l) x)

  pub straighten_takes : straighten β κ W H rows columns (take (W * H) s) ≡ straighten β κ W H rows columns s
  straighten_takes =
      straighten_stages β κ rows columns (take (W * H) s) hW hH
      ∙ ap (λ (t : List ℤ). rows_pass β κ W H rows (columns_pass β κ W H columns t)) first_same
      ∙ sym (straighten_stages β κ rows columns s hW hH)

  pub straighten-length : length (straighten β κ W H rows columns s) ≡ W * H
  straighten-length = ap length (straighten_stages β κ rows columns s hW hH) ∙ rows-pass-length β κ W H rows _

-- ---- what stands in the first W·H places of the result that an accepted call leaves
module _ {W H : ℕ} {s : Setting} {picture : List ℤ} {places work : ℕ} (f : Fit W H s picture places work) (result result' : List ℤ)
    (done : result' ≡ straighten s.border (kernel_in s) W H (row_moves s) (column_moves s) (take (W * H) picture) ++ drop (W * H) result) where
  pub first-places : take (W * H) result' ≡ straighten s.border (kernel_in s) W H (row_moves s) (column_moves s) picture
  first-places =
      ap (take (W * H)) done
      ∙ take_at (straighten s.border (kernel_in s) W H (row_moves s) (column_moves s) (take (W * H) picture)) (drop (W * H) result) (W * H)
      (straighten-length s.border (kernel_in s) W H (row_moves s) (column_moves s) (take (W * H) picture) f.width.0 f.height.0)
      ∙ straighten_takes s.border (kernel_in s) W H (row_moves s) (column_moves s) picture f.width.0 f.height.0

  pub written_at : (i : ℕ) → i < W * H → line result' i ≡ line (straighten s.border (kernel_in s) W H (row_moves s) (column_moves s) picture) i
  written_at i l = sym (get_or-take (W * H) result' i (pos 0) l) ∙ ap (λ (t : List ℤ). line t i) first-places

  -- under linear they lie in the range of the picture's samples and the background
  pub written_in_range : s.kernel ≡ 0 → InRange s.border (W * H) picture result'
  written_in_range linear i l =
      rw (written_at i l, kernel_linear s.kernel linear) (straighten_in_range s.border (row_moves s) (column_moves s) f.width.0 f.height.0 picture i l)

-- ---- the answer, whatever the call was judged by
module _ (v : Verdict) (W H : ℕ) (s : Setting) (picture result work : List ℤ) where
  pub refused-answer : (refusal : Refusal) → v ≡ Err refusal → Answered v W H s picture result work (Err refusal) result work
  refused-answer refusal e =
      record {
        outcome = rw e refl;
        number = rw e refl;
        row = rw e refl;
        column = rw e refl;
        count = rw e refl;
        smallest = rw e refl;
        largest = rw e refl;
        few = omega arith;
        written = rw e refl;
        readable = λ a. absurd cc;
        cleared = rw e refl;
        demand3 = λ a. absurd cc;
        no_overshoot = λ a. absurd cc;
        told_in_range = λ a. absurd cc;
      }

  pub accepted-answer : (lines : ℕ) (extremes : Extremes) (result' work' : List ℤ) → v ≡ accepted → Fit W H s picture (length result) (length work)
      → lines ≡ count s.border W H (row_moves s) (column_moves s)
      → extremes ≡ extremes_of (W * H) result'
      → result' ≡ straighten s.border (kernel_in s) W H (row_moves s) (column_moves s) (take (W * H) picture) ++ drop (W * H) result
      → work' ≡ replicate (12 * max W H) (pos 0) ++ drop (12 * max W H) work
      → Answered v W H s picture result work (Ok (record { lines = lines; extremes = extremes })) result' work'
  accepted-answer lines extremes result' work' e f counted found done zero =
      record {
        outcome = rw (e, counted, found) refl;
        number = rw e refl;
        row = rw e refl;
        column = rw e refl;
        count = rw e counted;
        smallest = rw (e, found) (sym (smallest-rows W H third (line result') f.width.0 f.height.0 same));
        largest = rw (e, found) (sym (largest-rows W H third (line result') f.width.0 f.height.0 same));
        few = omega (arith, counted, count_bound s.border W H s.cx s.cy s.a s.b f.setting.centre.0 f.setting.centre.1);
        written = rw e done;
        readable = λ a i l. rw (sym (get_or-take (W * H) result' i (pos 0) l), first) (straighten_size β κ rows columns picture f.width.0 f.height.0 f.setting.background in_range i l);
        cleared = rw e zero;
        demand3 = λ a. subst (Demand3 β κ W H rows columns picture) (sym first) (straighten-demand3 β κ W H rows columns picture f.width.0 f.height.0 f.setting.background in_range);
        no_overshoot = λ a linear. within (omega (arith, linear));
        told_in_range = λ a linear. rw found (extremes_in_range β (W * H) picture result' (mul-pos f.width.0 f.height.0) (within (omega (arith, linear))));
      }
    where
      β : Border
      β = s.border

      κ : Kernel
      κ = kernel_in s

      rows : ℕ → ℤ
      rows = row_moves s

      columns : ℕ → ℤ
      columns = column_moves s

      in_range : (i : ℕ) → i < W * H → nat_abs (line picture i) ≤ 32767
      in_range = fit_range f

      first : take (W * H) result' ≡ straighten β κ W H rows columns picture
      first = first-places f result result' done

      within : s.kernel ≡ 0 → InRange β (W * H) picture result'
      within = written_in_range f result result' done

      third : Picture
      third = third_rows W H s picture

      -- the first W·H places of the result are the rows of pass 3, one after the other
      same : (i : ℕ) → i < W * H → third (i / W) (i % W) ≡ line result' i
      same i l = sym (written_at f result result' done i l ∙ straighten_at β κ W H rows columns picture i l)

-- the answer leaves nothing open: two calls with one verdict, on the same picture and buffers, come to the same and leave the same
pub answered_once : {v : Verdict} {W H : ℕ} {s : Setting} {picture result work : List ℤ} {r r₂ : Outcome} {result' work' result₂ work₂ : List ℤ}
    → Answered v W H s picture result work r result' work' → Answered v W H s picture result work r₂ result₂ work₂
    → (r ≡ r₂) × (result' ≡ result₂) × (work' ≡ work₂)
answered_once {v} {W} {H} {s} a b =
    let w = a.written ∙ sym b.written in
    (a.outcome ∙ ap (outcome_of v W H s) w ∙ sym b.outcome, w, a.cleared ∙ sym b.cleared)

-- the figures of an accepted call: the extremes of the first W·H samples that it left, and the lines interpolated
abbrev pub Told : ℕ → ℕ → Setting → List ℤ → Outcome → Type 0
Told W H s result' r =
    (smallest_of r ≡ smallest (line result') (W * H)) × (largest_of r ≡ largest (line result') (W * H)) × (count_of r ≡ count s.border W H (row_moves s) (column_moves s))

-- ---- a call that answers number 0: it was accepted, and its result holds the straightened picture
module _ (other : Bool) {W H : ℕ} {s : Setting} {picture result work : List ℤ} {r : Outcome} {result' work' : List ℤ}
    (a : AnswerOn other W H s picture result work r result' work') (zero : number_of r ≡ 0) where
  pub was_accepted : judged_on other W H s picture (length result) (length work) ≡ accepted
  was_accepted = zero-accepted other W H s picture (length result) (length work) (sym a.number ∙ zero)

  pub was_fit : Fit W H s picture (length result) (length work)
  was_fit = accepted_fit other W H s picture (length result) (length work) was_accepted

  pub was_straightened : (i : ℕ) → i < W * H → line result' i ≡ line (straighten s.border (kernel_in s) W H (row_moves s) (column_moves s) picture) i
  was_straightened =
      written_at was_fit result result'
      (a.written ∙ ap (λ v. when_accepted v (straighten s.border (kernel_in s) W H (row_moves s) (column_moves s) (take (W * H) picture) ++ drop (W * H) result) result) was_accepted)

  pub was_told : Told W H s result' r
  was_told = rw (a.outcome, was_accepted) (refl, refl, refl)

-- ---- the row and the column of an answer: those of the first sample beyond the range, in row order, under 6, and 0 otherwise
module _ (other : Bool) {W H : ℕ} {s : Setting} {picture result work : List ℤ} {r : Outcome} {result' work' : List ℤ}
    (a : AnswerOn other W H s picture result work r result' work') where
  pub sample_named : number_of r ≡ 6 → BadAt range W H picture (row_of r) (column_of r)
  sample_named e =
      rw (a.row, a.column) (refused_sample other W H s picture (length result) (length work) (sym a.number ∙ e))

  pub elsewhere_zero : (number_of r ≡ 6 → ⊥) → (row_of r ≡ 0) × (column_of r ≡ 0)
  elsewhere_zero not_six =
      let z = refused-zero other W H s picture (length result) (length work) (λ e. not_six (a.number ∙ e)) in
      (a.row ∙ z.0, a.column ∙ z.1)
