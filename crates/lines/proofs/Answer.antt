-- The call that moves one line: what an accepted call has passed, what its buffers hold at each step, and the answer in either case.
-- Assumes nothing.
use mathlib.Core.Path.{◌≡◌, refl, sym, ap, ap₂, ◌∙◌, subst}
use mathlib.Core.Bool.{Bool, true, false, ◌||◌, cond, or_assoc}
use mathlib.Core.List.{List, ◌++◌}
use Prim.Native.Nat.{ℕ, zero, suc, ◌+◌, ◌*◌, ◌-◌, ◌≤◌, ◌<◌, min}
use native.Mathlib.Omega.{arith}
use borrow.Author.Tests.{lt-ltb, le-ltb, ltb-true, ltb-false, ne_eqb}
use lib.Dec.{ltb}
use lib.IntN.{ℤ, pos, nat_abs}
use lib.ListN.{length, get_or, take, drop, replicate, get_or-append, length-append, length-drop}
use lib.Seq.{length-take-le, get_or-take, drop_at, drop-drop}
use Rattle.std.specs.Prelude.{Result, Ok, Err}
use Rattle.arith.specs.Move.{fraction}
use Rattle.arith.proofs.Within.{size_within}
use Rattle.lists.specs.Line.{line, rolled}
use Rattle.lists.specs.declared.Extremes.{Extremes}
use Rattle.lists.specs.Ends.{extremes_of}
use Rattle.lists.specs.Grid.{placed, line_of, put}
use Rattle.lists.proofs.Tab.{tab_ext, tab-take}
use Rattle.lists.proofs.Ends.{extremes_first}
use Rattle.lists.proofs.Grid.{put_front, put_cong}
use Rattle.refusals.specs.declared.Refusal.{Refusal}
use Rattle.refusals.specs.declared.Refusal.TheVariants.{BadSize, TooShort, TooFar, BadKernel, BadSample, BadBackground}
use Rattle.refusals.specs.Tests.{bad_side, short, bad_kernel, beyond_of, first_bad}
use Rattle.refusals.specs.Judging.{Verdict, accepted, refused_if, of_found, and_then, answer_by, when_accepted, number_of, row_of, column_of}
use Rattle.refusals.proofs.Tests.{or_false, side_good, short_good, kernel_good, beyond_good, good_beyond}
use Rattle.refusals.proofs.First.{nothing_bad}
use Rattle.refusals.proofs.Figures.{and_then-refused_if}
use Rattle.refusals.proofs.Judging.{refused_if-accepted, of_found-accepted, and_then-accepted, accepted_by_zero}
use Rattle.settings.specs.declared.Border.{Border}
use Rattle.kernels.specs.declared.Kernel.{Kernel}
use Rattle.kernels.specs.declared.Kernel.TheVariants.{Linear}
use Rattle.kernels.specs.Kernel.{kernel_at, kernel_of}
use Rattle.moves.specs.declared.Part.{Part}
use Rattle.moves.specs.Border.{bordered, move_in, bad_background, grey}
use Rattle.moves.specs.InPlace.{prepared}
use Rattle.moves.specs.Range.{lowest, highest, Between, InRange}
use Rattle.moves.specs.Row.{places, set_in, start_at, held, Covers, loaded_of, weighed_part, Alike}
use Rattle.moves.proofs.Border.{move_in-length, held-fraction, background_good}
use Rattle.moves.proofs.Kept.{kept_in_place}
use Rattle.moves.proofs.Range.{background_between, samples_between, extremes_in_range, move_in-between, kernel_linear}
use Rattle.lines.specs.declared.Moved.{Moved}
use Rattle.lines.specs.Answer.{farthest, range, work_places, too_short, judged_as, judged_by, Passed, judged, Movable, is_interpolated, outcome_of, LineMoved}

-- the work that number 2 asks for is what a caller is told, of every length that number 1 does not refuse
pub work_asked : (n held work : ℕ) → bad_side n ≡ false → too_short n held work ≡ (short held n || short work (work_places n))
unfolding too_short work_places
work_asked n held work good = rw good refl

-- ---- the numbers of a move in their order: 1, 2, 4, 5, 12 and 6. Line and result are judged by the shorter of the two
shorter : (a b n : ℕ) (t u : Bool) → ltb a n ≡ t → ltb b n ≡ u → ltb (min a b) n ≡ (t || u)
shorter a b n true u e f = lt-ltb (min a b) n (omega (arith, ltb-true a n e))
shorter a b n false true e f = lt-ltb (min a b) n (omega (arith, ltb-true b n f))
shorter a b n false false e f = le-ltb (min a b) n (omega (arith, ltb-false a n e, ltb-false b n f))

pub in_order : (n kernel : ℕ) (d : ℤ) (β : Border) (line : List ℤ) (result work : ℕ)
    → judged n kernel d β line result work
    ≡ refused_if (bad_side n) BadSize
    (refused_if (short (length line) n || (short result n || short work (6 * n))) TooShort
    (refused_if (beyond_of farthest d) TooFar
    (refused_if (bad_kernel kernel) BadKernel
    (refused_if (bad_background β) BadBackground
    (of_found BadSample (first_bad range n 1 line))))))
unfolding judged judged_by too_short short
in_order n kernel d β line result work =
    rw (
      shorter (length line) result n (ltb (length line) n) (ltb result n) refl refl,
      or_assoc (ltb (length line) n) (ltb result n) (ltb work (6 * n)),
      and_then-refused_if (bad_background β) BadBackground accepted (of_found BadSample (first_bad range n 1 line)),
    )
    refl

-- number 5: a caller's number of a kernel is refused, or is that of the kernel
pub kernel_refused : (n : ℕ) (refusal : Refusal) → kernel_at n ≡ Err refusal → (bad_kernel n ≡ true) × (refusal ≡ BadKernel)
unfolding bad_kernel
kernel_refused zero refusal e = absurd cc
kernel_refused (suc zero) refusal e = absurd cc
kernel_refused (suc (suc zero)) refusal e = absurd cc
kernel_refused (suc (suc (suc n))) refusal e = (lt-ltb 2 (suc (suc (suc n))) (omega arith), cc)

pub kernel_taken : (n : ℕ) (κ : Kernel) → kernel_at n ≡ Ok κ → (bad_kernel n ≡ false) × (κ ≡ kernel_of n)
unfolding bad_kernel
kernel_taken zero κ e = (refl, cc)
kernel_taken (suc zero) κ e = (refl, cc)
kernel_taken (suc (suc zero)) κ e = (refl, cc)
kernel_taken (suc (suc (suc n))) κ e = absurd cc

-- what a verdict answers with x tells of the verdict
pub answered_err : {A : Type 0} (v : Verdict) (x : A) (refusal : Refusal) → answer_by v x ≡ Err refusal → v ≡ Err refusal
answered_err (Ok u) x refusal e = absurd cc
answered_err (Err own) x refusal e = cc

pub answered_ok : {A : Type 0} (v : Verdict) (x y : A) → answer_by v x ≡ Ok y → (v ≡ accepted) × (y ≡ x)
answered_ok (Ok u) x y e = (refl, cc)
answered_ok (Err own) x y e = absurd cc

-- ---- what an accepted call has passed, whatever the type of its own refusals
module _ {E : Type 0} (told : Refusal → E) (n kernel : ℕ) (d : ℤ) (own : Result Unit E) (line : List ℤ) (held work : ℕ) where
  pub passed_as : judged_as told n kernel d own line held work ≡ Ok tt → (own ≡ Ok tt) × (kernel ≤ 2) × Passed n d line held work
  unfolding too_short
  passed_as e =
      let one = refused_if-accepted (bad_side n) (told BadSize) _ _ e in
      let two = refused_if-accepted (too_short n held work) (told TooShort) _ _ one.1 in
      let four = refused_if-accepted (beyond_of farthest d) (told TooFar) _ _ two.1 in
      let five = refused_if-accepted (bad_kernel kernel) (told BadKernel) _ _ four.1 in
      let other = and_then-accepted own _ _ five.1 in
      let six = (nothing_bad range n 1 line).0 (of_found-accepted (λ p. told (BadSample p)) (first_bad range n 1 line) other.1) in
      let buffers = or_false (short held n) _ two.0 in
      let side = side_good one.0 in (
        other.0,
        kernel_good five.0,
        record {
          some = side.0;
          few = side.1;
          held_room = short_good buffers.0;
          work_room = short_good buffers.1;
          near = beyond_good d four.0;
          samples = λ k l. six k (omega arith);
        },
      )

  -- and one that has passed all the others is judged by its own test alone
  pub only_own_as : kernel ≤ 2 → Passed n d line held work → judged_as told n kernel d own line held work ≡ own
  unfolding too_short bad_side short bad_kernel
  only_own_as known p =
      rw (
        ne_eqb n 0 (λ e. omega (arith, p.some)),
        le-ltb 1024 n p.few,
        le-ltb held n p.held_room,
        le-ltb work (6 * n) p.work_room,
        good_beyond d p.near,
        le-ltb 2 kernel known,
        (nothing_bad range n 1 line).1 (λ i l. p.samples i (omega arith)),
      )
      (alone own)
    where
      alone : (v : Result Unit E) → and_then v (Ok tt) ≡ v
      alone (Ok u) = refl
      alone (Err refusal) = refl

-- the same where they are among the shared ones
module _ (n kernel : ℕ) (d : ℤ) (own : Verdict) (line : List ℤ) (held work : ℕ) where
  pub passed : judged_by n kernel d own line held work ≡ accepted → (own ≡ accepted) × (kernel ≤ 2) × Passed n d line held work
  unfolding judged_by
  passed e = passed_as (λ refusal. refusal) n kernel d own line held work e

  pub only_own : kernel ≤ 2 → Passed n d line held work → judged_by n kernel d own line held work ≡ own
  unfolding judged_by
  only_own known p = only_own_as (λ refusal. refusal) n kernel d own line held work known p

-- the same of a move
module _ (n kernel : ℕ) (d : ℤ) (β : Border) (line : List ℤ) (result work : ℕ) where
  pub movable : judged n kernel d β line result work ≡ accepted → Movable n d β line result work
  unfolding judged
  movable e =
      let (plain, known, p) = passed n kernel d (refused_if (bad_background β) BadBackground accepted) line (min (length line) result) work e in
      record {
        some = p.some;
        few = p.few;
        line_room = omega (arith, p.held_room);
        result_room = omega (arith, p.held_room);
        work_room = p.work_room;
        near = p.near;
        plain = background_good β (refused_if-accepted (bad_background β) BadBackground accepted _ plain).0;
        samples = p.samples;
      }

  pub known : judged n kernel d β line result work ≡ accepted → kernel ≤ 2
  unfolding judged
  known e = (passed n kernel d (refused_if (bad_background β) BadBackground accepted) line (min (length line) result) work e).1

  -- number 0 says that the move is accepted
  pub zero-accepted : number_of (judged n kernel d β line result work) ≡ 0 → judged n kernel d β line result work ≡ accepted
  zero-accepted = accepted_by_zero _

-- ---- the places of the result that hold the moved line
module _ {n : ℕ} {d : ℤ} {β : Border} {line₀ : List ℤ} {result work : ℕ} (m : Movable n d β line₀ result work) where
  pub taken : length (take n line₀) ≡ n
  taken = length-take-le n line₀ m.line_room

  pub moved_at : (κ : Kernel) (later : List ℤ) (k : ℕ) → k < n → line (move_in β κ d (take n line₀) ++ later) k ≡ line (move_in β κ d (take n line₀)) k
  moved_at κ later k l = get_or-append (move_in β κ d (take n line₀)) later (pos 0) k (omega (arith, move_in-length β κ d (take n line₀), taken))

  -- under linear they lie in the range of the line's samples and the background
  pub moved_in_range : (later : List ℤ) → InRange β n line₀ (move_in β Linear d (take n line₀) ++ later)
  moved_in_range later k l =
      rw (moved_at Linear later k l)
      (move_in-between β _ _ d (take n line₀) (background_between n line₀ m.some β)
      (λ j i. subst (Between (lowest β n line₀) (highest β n line₀)) (sym (get_or-take n line₀ j (pos 0) (omega (arith, taken)))) (samples_between n line₀ m.some β j (omega (arith, taken))))
      k (omega (arith, taken)))

-- ---- the answer, refused and accepted
module _ (n kernel : ℕ) (d : ℤ) (β : Border) (line result work : List ℤ) where
  pub line_refused : (refusal : Refusal) → judged n kernel d β line (length result) (length work) ≡ Err refusal
      → LineMoved n kernel d β line result work result work (Err refusal)
  unfolding outcome_of
  line_refused refusal e =
      record {
        outcome = rw e refl;
        number = ap number_of (sym e);
        row = ap row_of (sym e);
        column = ap column_of (sym e);
        count = ap (λ v. when_accepted v (cond (is_interpolated β n d) 1 0) 0) (sym e);
        smallest = rw e refl;
        largest = rw e refl;
        result = ap (λ v. when_accepted v (move_in β (kernel_of kernel) d (take n line) ++ drop n result) result) (sym e);
        work = ap (λ v. when_accepted v (replicate (6 * n) (pos 0) ++ drop (6 * n) work) work) (sym e);
        no_overshoot = λ a. absurd cc;
        told_in_range = λ a. absurd cc;
      }

  pub line-moved : (result' work' : List ℤ) (interpolated : Bool) (extremes : Extremes) → judged n kernel d β line (length result) (length work) ≡ accepted
      → interpolated ≡ is_interpolated β n d → extremes ≡ extremes_of n result' → result' ≡ move_in β (kernel_of kernel) d (take n line) ++ drop n result
      → work' ≡ replicate (6 * n) (pos 0) ++ drop (6 * n) work
      → LineMoved n kernel d β line result work result' work' (Ok (record { interpolated = interpolated; extremes = extremes }))
  unfolding outcome_of
  line-moved result' work' interpolated extremes e i x r w =
      record {
        outcome = rw (e, i, x) refl;
        number = ap number_of (sym e);
        row = ap row_of (sym e);
        column = ap column_of (sym e);
        count = ap (λ b. cond b 1 0) i ∙ ap (λ v. when_accepted v (cond (is_interpolated β n d) 1 0) 0) (sym e);
        smallest = rw (e, moved) refl;
        largest = rw (e, moved) refl;
        result = r ∙ ap (λ v. when_accepted v (move_in β (kernel_of kernel) d (take n line) ++ drop n result) result) (sym e);
        work = w ∙ ap (λ v. when_accepted v (replicate (6 * n) (pos 0) ++ drop (6 * n) work) work) (sym e);
        no_overshoot = λ a linear. within (omega (arith, linear));
        told_in_range = λ a linear. rw x (extremes_in_range β n line result' m.some (within (omega (arith, linear))));
      }
    where
      m : Movable n d β line (length result) (length work)
      m = movable n kernel d β line (length result) (length work) e

      -- the extremes of the samples written are those of the moved line
      moved : extremes ≡ extremes_of n (move_in β (kernel_of kernel) d (take n line))
      moved =
          x ∙ ap (extremes_of n) r
          ∙ extremes_first n (move_in β (kernel_of kernel) d (take n line)) (drop n result) m.some (omega (arith, move_in-length β (kernel_of kernel) d (take n line), taken m))

      within : kernel ≡ 0 → InRange β n line result'
      within linear = subst (InRange β n line) (sym r) (rw (kernel_linear kernel linear) (moved_in_range m (drop n result)))

-- ---- a call that answers number 0: it was accepted, and its result holds the moved line
module _ {n kernel : ℕ} {d : ℤ} {β : Border} {line₁ result work result' work' : List ℤ} {r : Result Moved Refusal}
    (a : LineMoved n kernel d β line₁ result work result' work' r) (zero : number_of r ≡ 0) where
  pub was_accepted : judged n kernel d β line₁ (length result) (length work) ≡ accepted
  was_accepted = zero-accepted n kernel d β line₁ (length result) (length work) (sym a.number ∙ zero)

  pub was_movable : Movable n d β line₁ (length result) (length work)
  was_movable = movable n kernel d β line₁ (length result) (length work) was_accepted

  pub was_known : kernel ≤ 2
  was_known = known n kernel d β line₁ (length result) (length work) was_accepted

  pub was_moved : (k : ℕ) → k < n → line result' k ≡ line (move_in β (kernel_of kernel) d (take n line₁)) k
  was_moved k l =
      ap (λ (t : List ℤ). line t k) (a.result ∙ ap (λ v. when_accepted v (move_in β (kernel_of kernel) d (take n line₁) ++ drop n result) result) was_accepted)
      ∙ moved_at was_movable (kernel_of kernel) (drop n result) k l

-- ---- the buffers
-- the first n places of a line are the line from its first place on
pub front_line : (n : ℕ) (s : List ℤ) → n ≤ length s → line_of 0 1 n s ≡ take n s
unfolding line_of placed
front_line n s h = tab_ext (λ k. get_or s (0 + k * 1) (pos 0)) (λ k. get_or s k (pos 0)) n (λ k l. ap (λ (j : ℕ). get_or s j (pos 0)) (place k)) ∙ tab-take s (pos 0) n h
  where
    place : (k : ℕ) → 0 + k * 1 ≡ k
    place k = omega arith

-- a line of which the part that is needed was set into a row, weighed there and stored from its start on
pub stored_kept : (β : Border) (κ : Kernel) (d : ℤ) (part : Part) (s row result : List ℤ) → 0 < length s → length s ≤ length result → length row ≡ places β (length s)
    → nat_abs (grey β) ≤ 294912 → ((k : ℕ) → k < length s → nat_abs (line s k) ≤ 294912)
    → Covers β (length s) (start_at β (length s) (held β (length s) d)) part → Alike (loaded_of κ (places β (length s)) part) row (set_in β s)
    → put 0 1 (rolled (start_at β (length s) (held β (length s) d)) (weighed_part κ (pos (fraction (held β (length s) d))) part (prepared κ row))) (length s) result
    ≡ move_in β κ d s ++ drop (length s) result
unfolding move_in
stored_kept β κ d part s row result some h long plain small covers alike =
    put_cong 0 1 _ (bordered β κ (length s) d (line s)) (length s) result
    (λ k l. sym (kept_in_place β κ d part s row some long (size_within (grey β) 294912 plain) (λ j m. size_within (line s j) 294912 (small j m)) covers alike k l))
    ∙ put_front (bordered β κ (length s) d (line s)) (length s) result h

-- a line is interpolated where the move that is made has an f
pub held-interpolated : (β : Border) (n : ℕ) (d : ℤ) → ltb 0 (fraction (held β n d)) ≡ is_interpolated β n d
unfolding is_interpolated
held-interpolated β n d = ap (ltb 0) (sym (held-fraction β n d))

-- what was in the first m places does not matter past them
pub past_room : (m l : ℕ) (room work : List ℤ) → length room ≡ m → m ≤ l → drop l (room ++ drop m work) ≡ drop l work
past_room m l room work e h =
    ap (λ (j : ℕ). drop j (room ++ drop m work)) (split m l h)
    ∙ sym (drop-drop (l - m) m (room ++ drop m work))
    ∙ ap (drop (l - m)) (drop_at room (drop m work) m e)
    ∙ drop-drop (l - m) m work
    ∙ ap (λ (j : ℕ). drop j work) (sym (split m l h))
  where
    split : (m l : ℕ) → m ≤ l → l ≡ m + (l - m)
    split m l h = omega arith

-- and once the first l places are cleared they hold 0, whatever was in the first m of them
pub cleared_room : (m l : ℕ) (room work places : List ℤ) → length room ≡ m → m ≤ l → l ≤ length work
    → places ≡ replicate (length (take l (room ++ drop m work))) (pos 0) → places ++ drop l (room ++ drop m work) ≡ replicate l (pos 0) ++ drop l work
cleared_room m l room work places e h k p =
    let long : l ≤ length (room ++ drop m work) = simp (length-append, length-drop) (omega (arith, e, h, k)) in
    ap₂ (λ (x y : List ℤ). x ++ y) (p ∙ ap (λ (j : ℕ). replicate j (pos 0)) (length-take-le l (room ++ drop m work) long)) (past_room m l room work e h)

-- the part of the work that is lent suffices
pub room_lent : {n : ℕ} {d : ℤ} {β : Border} {line : List ℤ} {result work : ℕ} → Movable n d β line result work
    → Movable n d β line result (6 * n)
room_lent m =
    record {
      some = m.some;
      few = m.few;
      line_room = m.line_room;
      result_room = m.result_room;
      work_room = omega arith;
      near = m.near;
      plain = m.plain;
      samples = m.samples;
    }
