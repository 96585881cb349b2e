-- The smallest and the largest of the samples so far. Assumes nothing.
use mathlib.Core.Path.{sym, ◌∙◌}
use borrow.Author.Rules.{rules}
use mir.Syntax.{w32}
use Rattle.arith.specs.Whole.{min_ℤ, max_ℤ}
use Rattle.arith.proofs.Machine.{read_back}
use Rattle.lists.specs.Line.{line}
use Rattle.lists.proofs.Ends.{least, most, picked_none, picked_more}
use Rattle.lists.proofs.extremes_of.Goals as goal

pub loop-v-init : goal.loop-v-init
loop-v-init c =
    let f = line c.args.samples.now in
    let e = read_back w32 (f 0) (search rules) in
    (e ∙ picked_none min_ℤ f, e ∙ picked_none max_ℤ f)

pub loop-v-preserved : goal.loop-v-preserved
loop-v-preserved c =
    let l = c.loop-v in
    let f = line c.args.samples.now in
    let v = read_back w32 (f l.v-index) (search rules) in
    let low = rw (v, l.smallest-is) at c.min-smallest.ensures.value in
    let high = rw (v, l.largest-is) at c.max-largest.ensures.value in (
      read_back w32 _ c.min-smallest.type_inv ∙ low ∙ least l.smallest (f l.v-index) ∙ rw (sym l.smallest-is ∙ l.invariant.0) (picked_more min_ℤ f l.v-index),
      read_back w32 _ c.max-largest.type_inv ∙ high ∙ most l.largest (f l.v-index) ∙ rw (sym l.largest-is ∙ l.invariant.1) (picked_more max_ℤ f l.v-index),
    )
