-- `readings::summary_of` meets its contract: accepted, the smallest and the largest sample are in their range. Assumes nothing.
use Prim.Native.Nat.{ℕ, ◌*◌, ◌≤◌}
use native.Mathlib.Omega.{arith}
use borrow.Author.Rules.{rules}
use mathlib.Core.Path.{◌≡◌, sym, ap, ◌∙◌}
use mathlib.Core.List.{List}
use lib.IntN.{ℤ, nat_abs}
use lib.ListN.{length, take}
use lib.Seq.{length-take-le}
use mir.Syntax.{w32}
use Rattle.std.specs.Prelude.{Err}
use Rattle.arith.proofs.Machine.{read_back}
use Rattle.lists.specs.declared.Extremes.{Extremes}
use Rattle.lists.specs.Line.{line}
use Rattle.lists.specs.Ends.{smallest, largest, extremes_of}
use Rattle.lists.proofs.Ends.{smallest_is, largest_is, extreme_has, extremes_take}
use Rattle.readings.specs.Answers.{range}
use Rattle.readings.proofs.Passed.{Passed, passed}
use Rattle.readings.proofs.Calls.{summary_refused, summary_accepted}
use Rattle.readings.proofs.summary_of.Goals as goal
use Rattle.readings.proofs.summary_of.Goals.{In_ok-judge}

-- accepted, the picture has samples, and they are in their range
accepted : (c : In_ok-judge) → let a = c.args in Passed a.width a.height (length a.picture.now) a.picture.now
accepted c = passed _ _ _ _ (sym c.in_ok-judge.ensures)

-- and so are the smallest and the largest
module _ {width height : ℕ} {picture : List ℤ} (p : Passed width height (length picture) picture) (x : Extremes)
    (e : x ≡ extremes_of (length (take (height * width) picture)) (take (height * width) picture)) where
  ends : x ≡ extremes_of (height * width) picture
  ends = e ∙ extremes_take _ _ p.some p.room

  low : x.smallest ≡ smallest (line picture) (height * width)
  low = ap (λ (y : Extremes). y.smallest) ends

  high : x.largest ≡ largest (line picture) (height * width)
  high = ap (λ (y : Extremes). y.largest) ends

  low_size : nat_abs x.smallest ≤ 2 * range
  low_size = rw low (omega (arith, extreme_has _ (λ z. nat_abs z ≤ range) (line picture) _ _ (smallest_is (line picture) (height * width) p.some) p.within))

  high_size : nat_abs x.largest ≤ 2 * range
  high_size = rw high (omega (arith, extreme_has _ (λ z. nat_abs z ≤ range) (line picture) _ _ (largest_is (line picture) (height * width) p.some) p.within))

pub returns-in_err-judge : goal.returns-in_err-judge
returns-in_err-judge c =
    let up : c.from_residual.result ≡ Err c.in_err-judge.field-0.0 = search rules in
    rw up (summary_refused _ _ _ _ c.in_err-judge.ensures)

pub overflow_mul-height : goal.overflow_mul-height
overflow_mul-height c = omega (arith, (accepted c).few)

pub slice_bounds-extremes_of-end : goal.slice_bounds-extremes_of-end
slice_bounds-extremes_of-end c = sym (length-take-le _ _ (accepted c).room)

pub extremes_of-extremes-requires : goal.extremes_of-extremes-requires
extremes_of-extremes-requires c = let p = accepted c in rw (length-take-le _ c.args.picture.now p.room) p.some

pub float-requires : goal.float-requires
float-requires c =
    let x = c.extremes_of-extremes in
    rw (read_back w32 x.result.smallest (search rules)) (low_size (passed _ _ _ _ (sym c.in_ok-judge.ensures)) x.result x.ensures)

pub float-requires-2 : goal.float-requires-2
float-requires-2 c =
    let x = c.extremes_of-extremes in
    rw (read_back w32 x.result.largest (search rules)) (high_size (passed _ _ _ _ (sym c.in_ok-judge.ensures)) x.result x.ensures)

pub returns : goal.returns
returns c =
    let x = c.extremes_of-extremes in
    let p = passed _ _ _ _ (sym c.in_ok-judge.ensures) in
    summary_accepted _ _ _ x.result.smallest x.result.largest _ _ c.in_ok-judge.ensures (low p x.result x.ensures) (high p x.result x.ensures)
    (rw (read_back w32 x.result.smallest (search rules)) at c.float.ensures)
    (rw (read_back w32 x.result.largest (search rules)) at c.float-2.ensures)
    (low_size p x.result x.ensures) (high_size p x.result x.ensures)
