-- `hexlines::respond` meets its contract.
use native.Mathlib.Omega.{arith}
use lib.ListN.{length-take}
use Rattle.format.proofs.Judged.{well, small}
use Rattle.hexlines.proofs.Called.{text_accepted, text_refused, left}
use Rattle.hexlines.proofs.respond.Goals as goal

pub field-w-requires : goal.field-w-requires
field-w-requires c = let f = well c.args.line.now c.requires.line_value in (omega arith, omega (arith, f.long), f.digits)

pub field-h-requires : goal.field-h-requires
field-h-requires c = let f = well c.args.line.now c.requires.line_value in (omega arith, omega (arith, f.long), f.digits)

pub accept-requires : goal.accept-requires
accept-requires c =
    let n = small c.args.line.now _ _ c.requires.line_value c.field-w.ensures.0 c.field-h.ensures.0 in simp length-take (omega (arith, n))

pub returns-in-Ok-clause-text : goal.returns-in-Ok-clause-text
returns-in-Ok-clause-text c =
    let a = c.args in
    rw (text_accepted c.requires.line_value c.field-w.ensures.0 c.field-h.ensures.0 a.picture.now a.res.now c.straighten_in-answer.ensures _ c.in-Ok.is) at c.accept.ensures

pub returns-in-Ok-clause-places : goal.returns-in-Ok-clause-places
returns-in-Ok-clause-places c =
    let a = c.args in
    left c.requires.line_value c.field-w.ensures.0 c.field-h.ensures.0 a.picture.now a.res.now c.straighten_in-answer.ensures
    (rw (text_accepted c.requires.line_value c.field-w.ensures.0 c.field-h.ensures.0 a.picture.now a.res.now c.straighten_in-answer.ensures _ c.in-Ok.is) at c.accept.ensures)

pub returns-in-Err-clause-text : goal.returns-in-Err-clause-text
returns-in-Err-clause-text c =
    let a = c.args in
    rw (text_refused c.requires.line_value c.field-w.ensures.0 c.field-h.ensures.0 a.picture.now a.res.now c.straighten_in-answer.ensures _ c.in-Err.is) at c.refuse.ensures

pub returns-in-Err-clause-places : goal.returns-in-Err-clause-places
returns-in-Err-clause-places c =
    let a = c.args in
    left c.requires.line_value c.field-w.ensures.0 c.field-h.ensures.0 a.picture.now a.res.now c.straighten_in-answer.ensures
    (rw (text_refused c.requires.line_value c.field-w.ensures.0 c.field-h.ensures.0 a.picture.now a.res.now c.straighten_in-answer.ensures _ c.in-Err.is) at c.refuse.ensures)
