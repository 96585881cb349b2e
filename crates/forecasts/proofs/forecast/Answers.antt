-- An accepted forecast has passed what its figures ask. Assumes nothing.
use mathlib.Core.Path.{sym, ◌∙◌}
use Rattle.forecasts.proofs.Accepted.{accepted_ahead}
use Rattle.forecasts.proofs.forecast.Goals as goal

pub figures_of-requires : goal.figures_of-requires
figures_of-requires c =
    let a = c.args in
    let f = accepted_ahead a.width a.height a.setting a.largest (sym c.judge.ensures ∙ c.in_ok-judge.was) in
    (f.width.1, f.height.1, f.small, f.setting)
