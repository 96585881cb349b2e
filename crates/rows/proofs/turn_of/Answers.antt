-- `rows::turn_of` meets its contract: q, taken modulo n. Assumes nothing.
use mathlib.Core.Path.{ap, ◌∙◌}
use mir.Syntax.{w64}
use mir.Facts.{to_z-of_z}
use Rattle.arith.specs.Whole.{remainder}
use Rattle.arith.specs.Move.{whole}
use Rattle.arith.proofs.Machine.{read_back}
use Rattle.moves.specs.InPlace.{turn}
use Rattle.rows.proofs.turn_of.Goals as goal

pub returns : goal.returns
unfolding turn
returns c =
    let q = c.whole_part in (
      c.wrapped.ensures.0
          ∙ ap (λ z. remainder z c.args.n)
          (read_back w64 q.result q.type_inv ∙ q.ensures ∙ ap whole (to_z-of_z c.ranges.d)),
      c.wrapped.ensures.1,
    )
