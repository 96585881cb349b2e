use mathlib.Core.Path.{sym, ap, ◌∙◌}
use Prim.Native.Nat.{ℕ, ◌%◌}
use native.Mathlib.Nat.{mod-eq_of_lt, add-zero}
use mir.Facts.{to_z-of_z}
use Rattle.moves.specs.InPlace.{turn}
use Rattle.moves.specs.Row.{start_at}
use Rattle.rows.proofs.start_of.Goals as goal

pub returns-in-Wrapped : goal.returns-in-Wrapped
returns-in-Wrapped c = unfold start_at in
    let e = rw (to_z-of_z c.ranges.d) at c.turn_of.ensures.0 in
    rw c.in-Wrapped.is
    (sym (ap (λ (r : ℕ). r % c.args.n) (add-zero (turn c.args.n c.args.d) ∙ sym e) ∙ mod-eq_of_lt c.turn_of.ensures.1), c.turn_of.ensures.1)

pub returns-in-Background : goal.returns-in-Background
returns-in-Background c = unfold start_at in
    rw c.in-Background.is (rw (to_z-of_z c.ranges.d) at c.turn_on.ensures)
