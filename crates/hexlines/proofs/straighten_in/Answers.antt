-- `hexlines::straighten_in` meets its contract.
use Prim.Native.Nat.{ℕ}
use mathlib.Core.Path.{◌≡◌, sym, ap₂, ◌∙◌}
use mathlib.Core.List.{List}
use native.Mathlib.Omega.{arith}
use borrow.Author.Rules.{rules}
use lib.IntN.{ℤ, neg_ℤ}
use mir.Syntax.{w32}
use Rattle.arith.proofs.Machine.{read_back}
use Rattle.std.specs.Prelude.{Result, Err}
use Rattle.refusals.specs.declared.Refusal.{Refusal}
use Rattle.settings.specs.declared.Setting.{Setting}
use Rattle.settings.specs.Setting.{with_shears}
use Rattle.steps.specs.Step.{S}
use Rattle.format.specs.Line.{step_in}
use Rattle.format.specs.Answer.{unchanged_in, setting_in}
use Rattle.format.specs.Answered.{judged}
use Rattle.format.proofs.Judged.{well}
use Rattle.hexlines.proofs.Called.{Called, refused, straightened, never_refused}
use Rattle.hexlines.proofs.straighten_in.Goals as goal
use Rattle.hexlines.proofs.straighten_in.Goals.{After-straighten}

-- what the judge says of the line's setting and step is what it says of the line
of_the_line : (line : List ℕ) (w h : ℕ) (s : Setting) (t : ℤ) {r : Result Setting Refusal} → s ≡ unchanged_in line → t ≡ step_in line
    → r ≡ judged w h s t (with_shears s (neg_ℤ t) (S t)) → r ≡ judged w h (unchanged_in line) (step_in line) (setting_in line)
unfolding unchanged_in setting_in
of_the_line line w h s t e f j = j ∙ ap₂ (λ (s : Setting) (t : ℤ). judged w h s t (with_shears s (neg_ℤ t) (S t))) e f

-- at the call of the straightener
called : (t : After-straighten) → Called t.args.line.now t.args.w t.args.h t.in_ok-setting.setting t.read_greys.new.picture t.args.res.now t.args.work.now t.straighten.new.res t.straighten.new.work t.straighten.result
called t =
    let q = t.requires in
    let e = t.straighten.ensures in
    record {
      well = q.line_value;
      width = q.size.0;
      height = q.size.1;
      accepts = sym (of_the_line t.args.line.now t.args.w t.args.h _ _ t.unchanged_in.ensures (read_back w32 t.step_in.result t.step_in.type_inv ∙ t.step_in.ensures) t.judge.ensures) ∙ t.in_ok-setting.was;
      filled = rw q.picture_len.0 at t.read_greys.ensures;
      result_places = q.picture_len.1;
      work_places_lent = q.work_len;
      outcome = e.outcome;
      written = e.written;
      cleared = e.cleared;
    }

pub unchanged_in-requires : goal.unchanged_in-requires
unchanged_in-requires c = let f = well c.args.line.now c.requires.line_value in (f.long, f.digits)

pub step_in-requires : goal.step_in-requires
step_in-requires c = let f = well c.args.line.now c.requires.line_value in (f.long, f.digits)

pub returns-in_err-setting : goal.returns-in_err-setting
returns-in_err-setting c =
    let up : c.from_residual.result ≡ Err c.in_err-setting.field-0.0 = search rules in
    rw up (refused c.args.picture.now c.args.res.now c.args.work.now c.requires.size.0 c.requires.size.1 (sym (of_the_line c.args.line.now c.args.w c.args.h _ _ c.unchanged_in.ensures (read_back w32 c.step_in.result c.step_in.type_inv ∙ c.step_in.ensures) c.judge.ensures) ∙ c.in_err-setting.was))

pub read_greys-requires : goal.read_greys-requires
read_greys-requires c =
    let f = well c.args.line.now c.requires.line_value in
    (omega (arith, f.whole, c.requires.picture_len.0), f.digits)

pub returns-in_err-told : goal.returns-in_err-told
returns-in_err-told c =
    let j = (goal.at.returns-in_err-told c).After-straighten in
    absurd (never_refused (called j) _ c.in_err-told.was)

pub returns : goal.returns
returns c =
    let j = (goal.at.returns c).After-straighten in
    straightened (called j) c.in_ok-told.told c.args.picture.now c.in_ok-told.was
