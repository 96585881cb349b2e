-- `fields::read_greys` meets its contract: the first k places are filled with the samples of the line.
use Prim.Native.Nat.{◌+◌, ◌*◌}
use mathlib.Core.Path.{◌≡◌, ◌∙◌}
use native.Mathlib.Omega.{arith}
use lib.ListN.{length}
use mir.Facts.{to_z-of_z}
use mir.Syntax.{w32}
use Rattle.digits.proofs.Test.{all_at}
use Rattle.lists.proofs.Tab.{fill_start, fill_step, fill_end}
use Rattle.format.specs.Line.{sample_at}
use Rattle.fields.proofs.read_greys.Goals as goal

pub loop-k-init : goal.loop-k-init
loop-k-init c = fill_start _ _

pub grey_sample-requires : goal.grey_sample-requires
grey_sample-requires c =
    (all_at c.args.line.now (22 + 2 * c.loop-k.k) c.requires.1 (omega arith), all_at c.args.line.now (23 + 2 * c.loop-k.k) c.requires.1 (omega arith))

pub loop-k-preserved : goal.loop-k-preserved
unfolding sample_at
loop-k-preserved c =
    let l = c.loop-k in
    fill_step (sample_at c.args.line.now) c.args.picture.now l.k l.picture _ l.invariant (omega arith)
    (to_z-of_z {w = w32} (record { sfits = c.grey_sample.type_inv }) ∙ c.grey_sample.ensures)

pub returns : goal.returns
returns c =
    let l = c.loop-k in
    let e : length c.args.picture.now ≡ l.k = omega arith in
    rw e (fill_end (sample_at c.args.line.now) c.args.picture.now l.k l.picture l.invariant (omega arith))
