-- `readings::forms_out` meets its contract: refused, nothing is written; accepted, there is room for W·H places, which are filled. Assumes nothing.
use Prim.Native.Nat.{◌*◌}
use mathlib.Core.Path.{◌≡◌, sym, ap, ◌∙◌}
use mathlib.Core.List.{◌++◌}
use native.Mathlib.Omega.{arith}
use borrow.Author.Rules.{rules}
use lib.ListN.{length, drop}
use lib.Seq.{length-take-le}
use Rattle.std.specs.Prelude.{Err, min}
use Rattle.refusals.specs.Judging.{accepted}
use Rattle.readings.specs.Answers.{judged}
use Rattle.readings.proofs.Passed.{passed, within_first}
use Rattle.readings.proofs.Calls.{forms_first, out_refused, out_accepted}
use Rattle.readings.proofs.forms_out.Goals as goal

pub returns-in_err-judge : goal.returns-in_err-judge
returns-in_err-judge g c =
    let up : c.from_residual.result ≡ Err c.in_err-judge.field-0.0 = search rules in
    rw up (out_refused g.T.Form.form_of _ _ _ _ _ (rw c.min.ensures at c.in_err-judge.ensures))

pub overflow_mul-n : goal.overflow_mul-n
overflow_mul-n g c = omega (arith, (passed _ _ _ _ (sym c.in_ok-judge.ensures)).few)

pub slice_bounds-fill-end : goal.slice_bounds-fill-end
slice_bounds-fill-end g c =
    let p = passed _ _ _ _ (sym (rw c.min.ensures at c.in_ok-judge.ensures)) in
    sym (length-take-le _ _ (omega (arith, p.room)))

pub slice_bounds-fill-end-2 : goal.slice_bounds-fill-end-2
slice_bounds-fill-end-2 g c =
    let p = passed _ _ _ _ (sym (rw c.min.ensures at c.in_ok-judge.ensures)) in
    omega (arith, p.room)

pub slice_bounds-fill-end-3 : goal.slice_bounds-fill-end-3
slice_bounds-fill-end-3 g c =
    let p = passed _ _ _ _ (sym (rw c.min.ensures at c.in_ok-judge.ensures)) in
    sym (length-take-le _ _ (omega (arith, p.room)))

pub fill-requires : goal.fill-requires
fill-requires g c =
    let p = passed _ _ _ _ (sym (rw c.min.ensures at c.in_ok-judge.ensures)) in
    (length-take-le _ _ (omega (arith, p.room)) ∙ sym (length-take-le _ _ (omega (arith, p.room))), within_first _ _ (omega (arith, p.room)) p.within)

pub returns : goal.returns
returns g c =
    let a = c.args in
    let e : accepted ≡ judged a.width a.height (min (length a.picture.now) (length a.places.now)) a.picture.now = rw c.min.ensures at c.in_ok-judge.ensures in
    let p = passed a.width a.height _ a.picture.now (sym e) in
    out_accepted g.T.Form.form_of a.width a.height a.picture.now a.places.now _ e
    (ap (λ s. s ++ drop (a.height * a.width) a.places.now) (c.fill.ensures ∙ forms_first g.T.Form.form_of _ _ (omega (arith, p.room))))
