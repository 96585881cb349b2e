-- What makes up a move's answer, and what an accepted move leaves. Assumes nothing.
use Prim.Native.Nat.{ℕ, ◌*◌, ◌≤◌, ◌<◌, min}
use mathlib.Core.Path.{◌≡◌, refl, sym, ap, ap₂, ◌∙◌, subst}
use mathlib.Core.Bool.{Bool, true, false}
use mathlib.Core.List.{List, ◌++◌}
use native.Mathlib.Nat.{mul_comm}
use native.Mathlib.Omega.{arith}
use lib.IntN.{ℤ}
use lib.ListN.{length, take, drop, length-append, length-drop}
use lib.Seq.{take_at}
use Rattle.std.specs.Prelude.{Ok, Err}
use Rattle.refusals.specs.declared.Refusal.{Refusal}
use Rattle.refusals.specs.declared.Refusal.TheVariants.{BadMove}
use Rattle.refusals.specs.Judging.{accepted, number_of}
use Rattle.refusals.proofs.Judging.{some_number}
use Rattle.readings.proofs.Passed.{Passed}
use Rattle.readings.proofs.Figures.{by_figures, answer_figures}
use Rattle.arrangements.specs.Moves.{Screen, screen, stored, moved}
use Rattle.arrangements.specs.Views.{swaps, from_right, from_below, viewed}
use Rattle.arrangements.proofs.Screens.{Same, stored-length, stored_same, screen-stored}
use Rattle.arrangements.proofs.Views.{moved-viewed, moved_sides, moved_size}
use Rattle.arrangements.proofs.Places.{source_width, source_height, moved-through, moved_bijection}
use Rattle.turns.specs.declared.View.{View}
use Rattle.quarters.specs.Answer.{bad_move, judged, Moved, width_of, height_of, size_after, moved_answer, Arranged, PictureMoved, view_of}
use Rattle.quarters.proofs.Accepted.{accepted_fit, zero-accepted}

-- ---- what is written is the moved picture
pub seen-moved : (W H m : ℕ) (t : Bool) → swaps m ≡ t → m < 8 → 1 ≤ W → 1 ≤ H → (s : List ℤ)
    → stored (viewed t (from_right m) (from_below m) (screen W H s)) ≡ stored (moved m (screen W H s))
seen-moved W H m t e l wide tall s = sym (stored_same (moved m p) (viewed t (from_right m) (from_below m) p) (moved_sides p m l (λ n. 0 < n) wide tall).0 same)
  where
    p : Screen ℤ
    p = screen W H s

    same : Same (moved m p) (viewed t (from_right m) (from_below m) p)
    same = subst (λ (b : Bool). Same (moved m p) (viewed b (from_right m) (from_below m) p)) e (moved-viewed p m l)

-- by the view that the code goes by
pub view_moved : (v : View) (W H m : ℕ) (t : Bool) → v ≡ view_of W H m → swaps m ≡ t → m < 8 → 1 ≤ W → 1 ≤ H → (s old new : List ℤ)
    → new ≡ stored (viewed t v.right v.below (screen v.width v.height s)) ++ drop (v.width * v.height) old
    → new ≡ stored (moved m (screen W H s)) ++ drop (W * H) old
view_moved v W H m t ev e l wide tall s old new w = w ∙ rw ev (ap (λ (x : List ℤ). x ++ drop (W * H) old) (seen-moved W H m t e l wide tall s))

-- the size of the moved picture: width and height trade places where columns and rows do
pub swapped_size : (W H m : ℕ) → m < 8 → swaps m ≡ true → (s : List ℤ) → (H ≡ (moved m (screen W H s)).width) × (W ≡ (moved m (screen W H s)).height)
swapped_size W H m l e s = let v = moved-viewed (screen W H s) m l in (sym (v.width ∙ rw e refl), sym (v.height ∙ rw e refl))

pub kept_size : (W H m : ℕ) → m < 8 → swaps m ≡ false → (s : List ℤ) → (W ≡ (moved m (screen W H s)).width) × (H ≡ (moved m (screen W H s)).height)
kept_size W H m l e s = let v = moved-viewed (screen W H s) m l in (sym (v.width ∙ rw e refl), sym (v.height ∙ rw e refl))

-- ---- every sample has one place
arranged_by : (W H m : ℕ) (s old new : List ℤ) (r : Moved) → m < 8 → 1 ≤ W → 1 ≤ H → new ≡ stored (moved m (screen W H s)) ++ drop (W * H) old
    → width_of r ≡ (moved m (screen W H s)).width → height_of r ≡ (moved m (screen W H s)).height → Arranged W H m s new r
arranged_by W H m s old new r l wide tall w ew eh =
    record {
      samples = rw w (take_at (stored (moved m p)) (drop (W * H) old) (W * H) (stored-length (moved m p) ∙ moved_size p m l)) ∙ moved-through W H m s l;
      one_place = rw (ew, eh, ← source_width W H m s, ← source_height W H m s) (moved_bijection W H m l wide tall);
    }
  where
    p : Screen ℤ
    p = screen W H s

-- ---- what makes up the answer
module _ (W H m : ℕ) (picture old : List ℤ) where
  pub moved-refused : (refusal : Refusal) → Err refusal ≡ judged W H m (min (length picture) (length old)) picture → PictureMoved W H m picture old old (Err refusal)
  unfolding moved_answer
  moved-refused refusal e =
      record {
        answer = rw (← e) refl;
        figures =
            answer_figures _ _ (Err refusal) (size_after W H m picture)
            (rw e (by_figures W H (min (length picture) (length old)) (bad_move m) BadMove picture refl));
        written = refl;
        arranged = λ z. absurd (some_number refusal z);
        refused = λ z. (refl, refl, refl);
      }

  pub moved-accepted : {u : Unit} (new : List ℤ) (w h : ℕ) → Ok u ≡ judged W H m (min (length picture) (length old)) picture
      → w ≡ (moved m (screen W H picture)).width → h ≡ (moved m (screen W H picture)).height
      → new ≡ stored (moved m (screen W H picture)) ++ drop (W * H) old → PictureMoved W H m picture old new (Ok (record { width = w; height = h }))
  unfolding moved_answer
  moved-accepted new w h e ew eh n =
      let f = accepted_fit W H m (min (length picture) (length old)) picture (sym e) in
      record {
        answer = rw (← e, ew, eh) refl;
        figures =
            answer_figures _ _ accepted (record { width = w; height = h })
            (rw e (by_figures W H (min (length picture) (length old)) (bad_move m) BadMove picture refl));
        written = n;
        arranged = λ z. arranged_by W H m picture old new _ f.1 f.0.wide f.0.tall n ew eh;
        refused = λ z. absurd (z refl);
      }

-- ---- what an accepted move leaves
module _ {W H m : ℕ} {s old new : List ℤ} {r : Moved} (o : PictureMoved W H m s old new r) (none : number_of r ≡ 0) where
  abbrev p : Screen ℤ
  p = screen W H s

  pub was_judged : judged W H m (min (length s) (length old)) s ≡ accepted
  unfolding moved_answer
  was_judged = zero-accepted (judged W H m (min (length s) (length old)) s) (size_after W H m s) (ap number_of (sym o.answer) ∙ none)

  pub was_accepted : r ≡ Ok (size_after W H m s)
  unfolding moved_answer
  was_accepted = o.answer ∙ rw was_judged refl

  pub was_fit : Passed W H (min (length s) (length old)) s × (m < 8)
  was_fit = accepted_fit W H m (min (length s) (length old)) s was_judged

  pub was_width : width_of r ≡ (moved m p).width
  was_width = ap width_of was_accepted

  pub was_height : height_of r ≡ (moved m p).height
  was_height = ap height_of was_accepted

  pub was_written : new ≡ stored (moved m p) ++ drop (W * H) old
  was_written = o.written ∙ rw was_accepted refl

  pub was_area : width_of r * height_of r ≡ W * H
  was_area = ap₂ (λ (w h : ℕ). w * h) was_width was_height ∙ moved_size p m was_fit.1

  -- the places of the picture itself, as it is lent and as it is written
  pub was_room : (W * H ≤ length s) × (W * H ≤ length old)
  was_room = let room = was_fit.0.room in (omega (arith, mul_comm H W), omega (arith, mul_comm H W))

  pub was_long : length new ≡ length old
  was_long = ap length was_written ∙ simp (length-append, length-drop) (omega (arith, stored-length (moved m p), moved_size p m was_fit.1, was_room.1))

  pub was_front : take (W * H) new ≡ stored (moved m p)
  was_front = rw was_written (take_at (stored (moved m p)) (drop (W * H) old) (W * H) (stored-length (moved m p) ∙ moved_size p m was_fit.1))

  -- what is left, read with the size that was answered, is the moved picture
  pub was_screen : Same (screen (width_of r) (height_of r) new) (moved m p)
  was_screen = subst (λ (q : Screen ℤ). Same q (moved m p)) (rw (was_width, was_height, was_written) refl) (screen-stored (moved m p) (drop (W * H) old))
