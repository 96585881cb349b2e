-- `hexlines::answer_in` meets its contract.
use mathlib.Core.Path.{refl, sym, ◌∙◌}
use borrow.Author.Rules.{rules}
use Rattle.format.proofs.Judged.{roomy_in, answer_ill, ill_line, line_fitted}
use Rattle.hexlines.proofs.Called.{bytes_or}
use Rattle.hexlines.proofs.answer_in.Goals as goal

pub respond-requires-clause-roomy : goal.respond-requires-clause-roomy
respond-requires-clause-roomy c =
    roomy_in _ (sym c.well_formed-2.ensures ∙ c.if-well_formed.true) _ _ _ (search rules) (search rules) (search rules)

pub returns-else-well_formed : goal.returns-else-well_formed
returns-else-well_formed c =
    let l = c.args.line.now in
    let ill = sym c.well_formed-2.ensures ∙ c.if-well_formed.false in
    let no = ill_line l ill in
    let f = line_fitted l _ _ _ (rw (answer_ill l ill) at c.refuse.ensures) in
    record { text = rw (c.unwrap_or-else-well_formed.ensures, bytes_or) f; samples = rw no refl; straightened = rw no refl; cleared = rw no refl }
