-- `explanations::explain` meets its contract: refused, nothing is written; accepted, the tests give what the parts ask. Assumes nothing.
use mathlib.Core.Path.{◌≡◌, refl, sym, ◌∙◌}
use borrow.Author.Rules.{rules}
use borrow.Author.Tests.{le-leb, lt-leb}
use lib.Dec.{leb}
use lib.ListN.{length}
use mir.Facts.{to_z-of_z}
use Rattle.std.specs.Prelude.{Err}
use Rattle.refusals.specs.declared.Refusal.TheVariants.{Outside}
use Rattle.refusals.specs.Judging.{Verdict, accepted, refused_if, answer_by}
use Rattle.kernels.specs.Kernel.{kernel_of}
use Rattle.lines.specs.Answer.{judged_by}
use Rattle.lines.proofs.Answer.{answered_err, answered_ok}
use Rattle.explanations.specs.Answer.{judged}
use Rattle.explanations.proofs.Call.{explainable, refused-answer, accepted-answer}
use Rattle.explanations.proofs.explain.Goals as goal
use Rattle.explanations.proofs.explain.Goals.{After-judge, In_ok-kernel, then-n-k, else-n-k}

-- the verdict, at what was given
module _ (c : After-judge) where
  own_is : c.if-n-k.own ≡ refused_if (leb c.args.n c.args.k) Outside accepted
  own_is =
      elim c.if-n-k.branch
      [ then-n-k w ↦ w.own-is ∙ rw (le-leb c.args.n c.args.k w.if-n-k.true) refl | else-n-k w ↦ w.own-is ∙ rw (lt-leb c.args.n c.args.k w.if-n-k.false) refl ]

  abbrev verdict : Verdict
  verdict = let a = c.args in judged a.n a.kernel a.d a.k a.line.now (length a.work.now)

  verdict_is : c.judge.result ≡ answer_by verdict (kernel_of c.args.kernel)
  unfolding judged judged_by
  verdict_is = rw (to_z-of_z c.ranges.d, own_is) at c.judge.ensures

-- an accepted call: its verdict, and that the kernel handed back is that of its number
answered : (c : In_ok-kernel) → (verdict c.before.before ≡ accepted) × (c.in_ok-kernel.kernel ≡ kernel_of c.args.kernel)
answered c = answered_ok _ _ _ (sym (verdict_is c.before.before) ∙ c.in_ok-kernel.was)

pub returns-in_err-kernel : goal.returns-in_err-kernel
returns-in_err-kernel c =
    let a = c.args in
    let up : c.from_residual.result ≡ Err c.in_err-kernel.field-0.0 = search rules in
    rw up
    (refused-answer a.n a.kernel a.d a.k a.line.now a.work.now _
    (answered_err _ _ _ (sym (verdict_is (goal.at.returns-in_err-kernel c).After-judge) ∙ c.in_err-kernel.was)))

pub parts_cleared-requires : goal.parts_cleared-requires
parts_cleared-requires c =
    let a = c.args in
    rw (to_z-of_z c.ranges.d) (explainable a.n a.kernel a.d a.k a.line.now (length a.work.now) (answered (goal.at.parts_cleared-requires c).In_ok-kernel).0)

pub returns : goal.returns
returns c =
    let a = c.args in
    let k = answered (goal.at.returns c).In_ok-kernel in
    let e = rw (to_z-of_z c.ranges.d, k.1) at c.parts_cleared.ensures in
    accepted-answer a.n a.kernel a.d a.k a.line.now a.work.now _ _ k.0 e.value e.work_after
