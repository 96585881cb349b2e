-- `explanations::weights_at` meets its contract: the kernel's weights at the f of the move. Assumes nothing.
use mathlib.Core.Path.{◌≡◌, ap, ◌∙◌}
use native.Mathlib.Omega.{arith}
use lib.IntN.{pos}
use mir.Syntax.{w32, w64}
use mir.Val.{to_z, of_z}
use mir.Facts.{to_z-of_z}
use Rattle.arith.specs.Move.{fraction}
use Rattle.arith.proofs.Machine.{read_back}
use Rattle.arith.proofs.Move.{move_parts}
use Rattle.explanations.proofs.weights_at.Goals as goal
use Rattle.explanations.proofs.weights_at.Goals.{After-from, After-from-2}

-- d and f as they were given
far_is : (c : After-from) → to_z w64 (of_z w64 c.from.result) ≡ c.args.d
far_is c = read_back w64 _ c.from.type_inv ∙ c.from.ensures ∙ to_z-of_z c.ranges.d

f_is : (c : After-from-2) → to_z w64 (of_z w64 c.from-2.result) ≡ pos (fraction c.args.d)
f_is c =
    let g = c.fraction_part-f in
    read_back w64 _ c.from-2.type_inv ∙ c.from-2.ensures ∙ read_back w32 _ g.type_inv ∙ g.ensures ∙ ap (λ d. pos (fraction d)) (far_is c.before.before)

pub four_weights-requires : goal.four_weights-requires
four_weights-requires c = rw (f_is c) (omega (arith, (move_parts c.args.d).1))
