-- `load_places` gathers the lines as their border has them. Assumes nothing.
use Prim.Native.Nat.{ℕ, ◌*◌, ◌≤◌, ◌<◌}
use mathlib.Core.Path.{sym, ap, ◌∙◌, subst}
use mathlib.Core.List.{List}
use lib.IntN.{ℤ}
use lib.ListN.{length}
use Rattle.lists.specs.Line.{line}
use Rattle.lists.specs.Grid.{row_of}
use Rattle.settings.specs.declared.Border.{Border}
use Rattle.settings.specs.declared.Border.TheVariants.{Wrapped}
use Rattle.moves.specs.Row.{places}
use Rattle.grid.specs.Four.{FourLoaded}
use Rattle.grid.proofs.Rows.{gathered_row}
use Rattle.grid.proofs.load_places.Goals as goal

pub returns-in-Wrapped : goal.returns-in-Wrapped
returns-in-Wrapped c =
    let a = c.args in
    let e = c.in-Wrapped.is in
    let room = subst (λ (β : Border). 4 * places β a.s.n ≤ length a.work.now) e c.requires.le_n.2 in
    let loaded : FourLoaded Wrapped a.at a.s a.part a.picture.now c.gather.new.work =
    λ (i : ℕ) (l : i < 4) (p : ℕ) (low : a.part.lo ≤ p) (high : p < a.part.hi).
    ap (λ (t : List ℤ). line t p) (ap (λ (t : List ℤ). row_of a.s.n t i) c.gather.ensures ∙ gathered_row a.at a.s.along a.s.across a.s.n a.picture.now a.work.now room i l) in
    subst (λ (β : Border). FourLoaded β a.at a.s a.part a.picture.now c.gather.new.work) (sym e) loaded
