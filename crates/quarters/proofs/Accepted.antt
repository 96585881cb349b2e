-- What an accepted call has passed, and back; and the moves that are named. Assumes nothing.
use Prim.Native.Nat.{ℕ, ◌<◌}
use mathlib.Core.Path.{◌≡◌, refl, sym}
use mathlib.Core.Bool.{Bool, true, false, ◌||◌}
use mathlib.Core.List.{List}
use native.Mathlib.Omega.{arith}
use borrow.Author.Tests.{le-ltb, ltb-false}
use lib.IntN.{ℤ}
use Rattle.std.specs.Prelude.{Ok, Err}
use Rattle.refusals.specs.declared.Refusal.{Refusal}
use Rattle.refusals.specs.declared.Refusal.TheVariants.{BadMove}
use Rattle.refusals.specs.Judging.{Verdict, accepted, refused_if, answer_by, number_of}
use Rattle.refusals.proofs.Tests.{or_false}
use Rattle.refusals.proofs.Judging.{refused_if-accepted, some_number}
use Rattle.readings.proofs.Passed.{Passed, passed_by, by_accepted}
use Rattle.arrangements.specs.Table.{entry, inverse_of}
use Rattle.quarters.specs.Answer.{bad_move, own_verdict, judged, joined_answer, inverse_answer, quarter_of}

-- one of the eight moves
pub move_good : {m : ℕ} → bad_move m ≡ false → m < 8
unfolding bad_move
move_good {m} e = omega (arith, ltb-false _ m e)

good_move : {m : ℕ} → m < 8 → bad_move m ≡ false
unfolding bad_move
good_move {m} l = le-ltb _ m (omega arith)

module _ (W H m places : ℕ) (picture : List ℤ) where
  -- the picture and the shortest buffer, and the move
  pub accepted_fit : judged W H m places picture ≡ accepted → Passed W H places picture × (m < 8)
  accepted_fit e = let p = passed_by W H places (own_verdict m) picture e in (p.0, move_good (refused_if-accepted (bad_move m) BadMove accepted _ p.1).0)

  pub fit_accepted : Passed W H places picture → m < 8 → judged W H m places picture ≡ accepted
  fit_accepted p l = by_accepted W H places (own_verdict m) picture p (rw (good_move l) refl)

-- number 0 says that a call is accepted
pub zero-accepted : {A : Type 0} (v : Verdict) (x : A) → number_of (answer_by v x) ≡ 0 → v ≡ accepted
zero-accepted (Ok u) x e = refl
zero-accepted (Err refusal) x e = absurd (some_number refusal e)

-- ---- the test of a move's number
pub taken : (m : ℕ) {u : Unit} → Ok u ≡ own_verdict m → bad_move m ≡ false
taken m e = (refused_if-accepted (bad_move m) BadMove accepted _ (sym e)).0

pub refused : (m : ℕ) (refusal : Refusal) → Err refusal ≡ own_verdict m → (bad_move m ≡ true) × (refusal ≡ BadMove)
refused m refusal e = by (bad_move m) e
  where
    by : (t : Bool) → Err refusal ≡ refused_if t BadMove accepted → (t ≡ true) × (refusal ≡ BadMove)
    by true e = (refl, cc)
    by false e = absurd cc

-- ---- the moves that are named
-- where number 0 is answered, the second move is among the eight, and the table names the one that both are; one of the eight is told what undoes it
pub joined_known : (a b : ℕ) → number_of (joined_answer a b) ≡ 0 → (b < 8) × (quarter_of (joined_answer a b) ≡ entry a b)
unfolding joined_answer
joined_known a b e =
    let v = zero-accepted (refused_if (bad_move a || bad_move b) BadMove accepted) (entry a b) e in
    let t = (refused_if-accepted (bad_move a || bad_move b) BadMove accepted _ v).0 in
    (move_good (or_false (bad_move a) (bad_move b) t).1, rw t refl)

pub inverse-named : (m : ℕ) → m < 8 → quarter_of (inverse_answer m) ≡ inverse_of m
unfolding inverse_answer
inverse-named m l = rw (good_move l) refl
