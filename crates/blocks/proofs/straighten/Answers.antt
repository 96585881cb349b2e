-- `straighten` answers as the tests say. Assumes nothing.
use Prim.Native.Nat.{ℕ, ◌≤◌, ◌<◌}
use mathlib.Core.Path.{sym, ap, ◌∙◌}
use native.Mathlib.Omega.{arith}
use Rattle.refusals.specs.Judging.{number_of}
use Rattle.blocks.proofs.Accepted.{accepted_fit, refused_sample}
use Rattle.blocks.proofs.Call.{refused-answer, accepted-answer}
use Rattle.blocks.proofs.straighten.Goals as goal

inside : {y h : ℕ} → y < h → 1 ≤ h
inside l = omega arith

pub refused-requires : goal.refused-requires
refused-requires c six =
    let a = c.args in
    let told = sym c.judge-verdict.ensures ∙ c.in-Err.is in
    inside (refused_sample a.width a.height a.depth a.plane a.setting a.block.now _ _ (ap number_of told ∙ six)).row_inside

pub straighten_accepted-requires : goal.straighten_accepted-requires
straighten_accepted-requires c =
    let a = c.args in
    accepted_fit a.width a.height a.depth a.plane a.setting a.block.now _ _ (sym c.judge-verdict.ensures ∙ c.in-Ok.is)

pub returns-in-Err : goal.returns-in-Err
returns-in-Err c =
    let a = c.args in
    let told = sym c.judge-verdict.ensures ∙ c.in-Err.is in
    rw c.refused.ensures
    (refused-answer _ a.width a.height a.depth a.plane a.setting a.block.now a.res.now a.work.now c.in-Err.refusal told)

pub returns-in-Ok : goal.returns-in-Ok
returns-in-Ok c =
    let a = c.args in
    let told = sym c.judge-verdict.ensures ∙ c.in-Ok.is in
    let e = c.straighten_accepted.ensures in
    accepted-answer _ a.width a.height a.depth a.plane a.setting a.block.now a.res.now a.work.now _ _ _ _ told
    (accepted_fit a.width a.height a.depth a.plane a.setting a.block.now _ _ told) e.lines e.extremes e.res_after e.work_after
