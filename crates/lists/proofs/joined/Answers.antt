-- `joined` picks of both. Assumes nothing.
use mathlib.Core.Path.{refl, ◌∙◌}
use borrow.Author.Rules.{rules}
use mir.Syntax.{w32}
use Rattle.arith.proofs.Machine.{read_back}
use Rattle.lists.proofs.Ends.{least, most}
use Rattle.lists.proofs.joined.Goals as goal

pub returns : goal.returns
returns c =
    let a = c.args.a in
    let b = c.args.b in
    let low = rw (read_back w32 a.smallest (search rules), read_back w32 b.smallest (search rules)) at c.min.ensures.value in
    let high = rw (read_back w32 a.largest (search rules), read_back w32 b.largest (search rules)) at c.max.ensures.value in
    rw (read_back w32 _ c.min.type_inv ∙ low ∙ least a.smallest b.smallest, read_back w32 _ c.max.type_inv ∙ high ∙ most a.largest b.largest) refl
