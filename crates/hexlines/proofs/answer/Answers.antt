-- `hexlines::answer` meets its contract.
use mathlib.Core.Path.{sym, ◌∙◌}
use Rattle.format.proofs.Judged.{answer_ill, line_answered}
use Rattle.hexlines.proofs.answer.Goals as goal

pub returns-then-well_formed : goal.returns-then-well_formed
returns-then-well_formed c = line_answered _ _ _ _ c.respond_own.ensures

pub returns-else-well_formed : goal.returns-else-well_formed
returns-else-well_formed c =
    line_answered _ _ _ _ (rw (answer_ill _ (sym c.well_formed-2.ensures ∙ c.if-well_formed.false)) at c.refuse.ensures)
