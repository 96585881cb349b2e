-- An accepted asking is fit, and so its lines may be counted. Assumes nothing.
use mathlib.Core.Path.{sym, ◌∙◌}
use mathlib.Core.Bool.{false}
use Rattle.acceptance.proofs.Accepted.{accepted_fit}
use Rattle.tickets.proofs.ask.Goals as goal

pub count_of-count-requires : goal.count_of-count-requires
count_of-count-requires c =
    let a = c.args in
    let f = accepted_fit false a.width a.height a.setting a.picture.now _ _ (sym c.judge.ensures ∙ c.in_ok-judge.was) in
    record { width_bound = (f.width.1, f.height.1, f.setting.centre.0, f.setting.centre.1); a_bound = f.setting.shears }
