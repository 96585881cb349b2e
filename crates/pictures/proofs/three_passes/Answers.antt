-- `three_passes` straightens the one slice that a picture is. Assumes nothing.
use mathlib.Core.Path.{◌∙◌}
use Rattle.pictures.proofs.Three.{own_workable, own_within, own_straightened}
use Rattle.pictures.proofs.three_passes.Goals as goal

pub straighten_slices-requires : goal.straighten_slices-requires
straighten_slices-requires c =
    record {
      workable = own_workable c.args.picture.now c.requires.fit c.requires.picture_len;
      slices_within = own_within c.args.picture.now c.requires.fit;
    }

pub returns : goal.returns
returns c =
    let v = c.straighten_slices in
    let f = c.requires.fit in
    record {
      picture_after = own_straightened c.args.width c.args.height c.args.setting c.args.picture.now v.new.list f.width.0 f.height.0 (v.auto.list ∙ c.requires.picture_len) v.ensures;
      value = c.count_of.ensures.0;
    }
