-- The first k places hold the forms of their samples. Assumes nothing.
use mathlib.Core.Path.{◌≡◌}
use native.Mathlib.Omega.{arith}
use borrow.Author.Rules.{rules}
use lib.ListN.{length}
use mir.Syntax.{w32}
use Rattle.arith.proofs.Machine.{read_back}
use Rattle.lists.specs.Line.{line}
use Rattle.lists.proofs.Tab.{fill_start, fill_step, fill_end}
use Rattle.readings.proofs.fill.Goals as goal

pub loop-k-init : goal.loop-k-init
loop-k-init g c = fill_start _ _

pub of_sample-requires : goal.of_sample-requires
of_sample-requires g c =
    let k = c.loop-k.k in
    rw (read_back w32 (line c.args.picture.now k) (search rules)) (c.requires.1 k (omega arith))

pub loop-k-preserved : goal.loop-k-preserved
loop-k-preserved g c =
    let l = c.loop-k in
    fill_step (λ k. g.T.Form.form_of (line c.args.picture.now k)) c.args.places.now l.k l.places c.of_sample.result l.invariant (omega arith)
    (rw (read_back w32 (line c.args.picture.now l.k) (search rules)) at c.of_sample.ensures)

pub returns : goal.returns
returns g c =
    let l = c.loop-k in
    let e : length c.args.picture.now ≡ l.k = omega arith in
    rw e (fill_end (λ k. g.T.Form.form_of (line c.args.picture.now k)) c.args.places.now l.k l.places l.invariant (omega arith))
