-- `rows::treat`: the row prepared is within what its kernel weighs. Assumes nothing.
use Rattle.moves.proofs.Kept.{prepared_within}
use Rattle.rows.proofs.treat.Goals as goal

pub weigh_part-requires-clause-part_within : goal.weigh_part-requires-clause-part_within
weigh_part-requires-clause-part_within c =
    let a = c.args in
    rw c.prepare.ensures (prepared_within a.kernel a.part a.row.now c.requires.row_len_bound.1 c.requires.row_len_bound.2 c.requires.part_within)
