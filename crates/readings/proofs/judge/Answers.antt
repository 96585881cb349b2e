-- `readings::judge` has no number of its own: under an accepted own verdict both definitions say the same. Assumes nothing.
use Rattle.readings.specs.Answers.{judged, judged_by}
use Rattle.readings.proofs.judge.Goals as goal

pub returns : goal.returns
unfolding judged judged_by
returns c = c.judge_by.ensures
