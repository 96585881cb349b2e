-- `store_places` lays the rows of work place by place, which is laying them line after line. Assumes nothing.
use Prim.Native.Nat.{ℕ, ◌<◌}
use mathlib.Core.Path.{◌≡◌, sym, ap, ◌∙◌}
use native.Mathlib.Nat.{mod-eq_of_lt, zero-add}
use native.Mathlib.Omega.{arith}
use lib.ListN.{get_or}
use lib.IntN.{pos}
use Rattle.lists.specs.Line.{rolled}
use Rattle.lists.specs.Grid.{row_of}
use Rattle.grid.specs.Four.{laid}
use Rattle.grid.proofs.Laid.{laid_none, laid_more, laid_inside, laid-turned}
use Rattle.grid.proofs.Rows.{next_place, rolled_at}
use Rattle.grid.proofs.store_places.Goals as goal

pub loop-k-init : goal.loop-k-init
loop-k-init c = record {
  places = λ (i : ℕ) (l : i < 4). (sym (rw zero-add (mod-eq_of_lt (c.requires.by_index i l))), c.requires.by_index i l);
  laid = laid_none _ _ _ _ _ _;
}

pub overflow_mul-k : goal.overflow_mul-k
overflow_mul-k c = omega (arith, laid_inside c.args.at c.requires.lines 0 c.loop-k.k (omega arith) (omega arith))

pub overflow_add-at : goal.overflow_add-at
overflow_add-at c = omega (arith, laid_inside c.args.at c.requires.lines 0 c.loop-k.k (omega arith) (omega arith))

pub loop-k-preserved : goal.loop-k-preserved
loop-k-preserved c =
    let v = c.copy_four in
    let a = c.args in
    let inv = c.loop-k.invariant in record {
      places = λ (i : ℕ) (m : i < 4).
          ((c.after_four-next.ensures i m).0 ∙ next_place c.loop-k.k (get_or a.starts i 0) a.m (get_or c.loop-k.j i 0) (inv.places i m).0, (c.after_four-next.ensures i m).1);
      laid = laid_more a.at a.s.across a.s.along 4 _ c.loop-k.k a.picture.now c.loop-k.picture _ _ inv.laid v.ensures
          (λ (i : ℕ) (m : i < 4). ap (λ (p : ℕ). get_or a.work.now p (pos 0)) (omega (arith, (inv.places i m).0)) ∙ rolled_at a.m a.work.now c.requires.n_le_m.1 i (get_or a.starts i 0) c.loop-k.k m (omega (arith, c.requires.n_le_m.0)));
    }

pub returns : goal.returns
returns c =
    let a = c.args in
    let e : c.loop-k.k ≡ a.s.n = omega arith in
    c.loop-k.invariant.laid
    ∙ ap (λ (k : ℕ). laid a.at a.s.across a.s.along 4 (λ (k i : ℕ). rolled (get_or a.starts i 0) (row_of a.m a.work.now i) k) k a.picture.now) e
    ∙ sym (laid-turned a.at a.s.along a.s.across _ _ a.picture.now a.s.n 4 c.requires.lines)
