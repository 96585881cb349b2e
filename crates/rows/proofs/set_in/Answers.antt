-- `rows::set_in` reads the line straight, or between background samples. Assumes nothing.
use mathlib.Core.Path.{◌≡◌, refl, ap, ◌∙◌}
use lib.ListN.{length}
use Rattle.lists.specs.Line.{line}
use Rattle.moves.specs.Row.{set_in}
use Rattle.rows.proofs.set_in.Goals as goal

pub returns-in-Wrapped : goal.returns-in-Wrapped
unfolding set_in
returns-in-Wrapped c =
    let a = c.args in
    let e = c.in-Wrapped.is in
    let m : length a.row.now ≡ a.n = c.requires.n_bound.1 ∙ rw e refl in
    rw e (λ p low high. ap (λ t. line t p) (rw m at c.load_line.ensures))
