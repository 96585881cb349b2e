-- `levelling::span` meets its contract. Assumes nothing.
use mathlib.Core.Path.{refl, ◌∙◌}
use mir.Syntax.{w64}
use mir.Facts.{to_z-of_z}
use Rattle.arith.proofs.Machine.{read_back}
use Rattle.levelling.proofs.Judging.{span-range}
use Rattle.levelling.proofs.span.Goals as goal

pub returns : goal.returns
returns c =
    let to = read_back w64 _ c.from.type_inv ∙ c.from.ensures ∙ to_z-of_z c.ranges.to in
    let from = read_back w64 _ c.from-2.type_inv ∙ c.from-2.ensures ∙ to_z-of_z c.ranges.from in
    let range = span-range c.args.from c.args.to c.requires.0 c.requires.1 in
    rw (to, from, to_z-of_z range.0) (refl, range.1)
