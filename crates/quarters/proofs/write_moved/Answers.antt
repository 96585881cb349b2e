-- `quarters::write_moved` writes the picture as the move sees it. Assumes nothing.
use mathlib.Core.Path.{sym, ◌∙◌}
use Rattle.quarters.proofs.Calls.{view_moved}
use Rattle.quarters.proofs.write_moved.Goals as goal

pub write_columns-requires : goal.write_columns-requires
write_columns-requires c = rw c.view_of-view.ensures c.requires.0

pub returns-then-swap : goal.returns-then-swap
returns-then-swap c =
    let p = c.requires in
    view_moved c.view_of-view.result _ _ _ _ c.view_of-view.ensures (sym c.swap.ensures ∙ c.if-swap.true) p.1 p.0.wide p.0.tall _ _ _
    c.write_columns.ensures

pub write_rows-requires : goal.write_rows-requires
write_rows-requires c = rw c.view_of-view.ensures c.requires.0

pub returns : goal.returns
returns c =
    let p = c.requires in
    view_moved c.view_of-view.result _ _ _ _ c.view_of-view.ensures (sym c.swap.ensures ∙ c.if-swap.false) p.1 p.0.wide p.0.tall _ _ _
    c.write_rows.ensures
