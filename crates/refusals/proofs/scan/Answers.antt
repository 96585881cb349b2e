-- Nothing is found yet, and every sample before the place that is reached is within the limit. Assumes nothing.
use Prim.Native.Nat.{ℕ, ◌+◌, ◌*◌, ◌-◌, ◌≤◌, ◌<◌}
use mathlib.Core.Path.{◌≡◌, ◌∙◌, sym}
use mathlib.Core.List.{List}
use native.Mathlib.Nat.{add-mul, one-mul, add_assoc}
use native.Mathlib.Omega.{arith}
use borrow.Author.Count.{below_more}
use borrow.Author.Rules.{rules}
use lib.ListN.{length, get_or, take, drop, length-drop}
use lib.Seq.{get_or-take, get_or-drop, length-take-le}
use lib.IntN.{ℤ, pos, nat_abs}
use mir.Syntax.{w32}
use mir.Facts.{to_z-of_z}
use Rattle.arith.proofs.Machine.{read_back}
use Rattle.lists.proofs.Rows.{row_in}
use Rattle.refusals.proofs.Tests.{beyond_good, beyond_bad}
use Rattle.refusals.proofs.First.{nothing_bad, first_bad_lem, within_then}
use Rattle.refusals.proofs.scan.Goals as goal

-- row y of the picture, where it lies inside
row_long : (y w h : ℕ) (s : List ℤ) → y < h → h * w ≤ length s → length (take (y * w + w - y * w) (drop (y * w) s)) ≡ w
row_long y w h s l room =
    let inside = row_in w h y l in
    let few : y * w + w - y * w ≡ w = omega arith in
    rw few (length-take-le w (drop (y * w) s) (rw length-drop (omega (arith, inside))))

-- its sample in a column
row_sample : (y w x : ℕ) (s : List ℤ) → x < w → get_or (take (y * w + w - y * w) (drop (y * w) s)) x (pos 0) ≡ get_or s (y * w + x) (pos 0)
row_sample y w x s l = get_or-take (y * w + w - y * w) (drop (y * w) s) x (pos 0) (omega arith) ∙ get_or-drop (y * w) s x (pos 0)

pub rows-preserved-then-seen_within : goal.rows-preserved-then-seen_within
rows-preserved-then-seen_within c =
    let a = c.args in
    let y = c.rows.row in
    let seen = rw (row_long y a.width a.height a.picture.now c.rows-test.true (omega arith)) at (c.seen_within.ensures c.if-seen_within.true) in
    (c.rows.invariant.0, rw (add-mul, one-mul) (within_then _ (y * a.width) a.width _ a.picture.now (omega arith) c.rows.invariant.1 seen))

pub loop-column-preserved : goal.loop-column-preserved
loop-column-preserved c =
    let a = c.args in
    let y = c.rows.row in
    let x = c.loop-column.column in
    let l : x < a.width = rw (row_long y a.width a.height a.picture.now c.rows-test.true (omega arith)) at c.loop-column-test.true in
    let e = rw (read_back w32 (get_or (take (y * a.width + a.width - y * a.width) (drop (y * a.width) a.picture.now)) x (pos 0)) (search rules), row_sample y a.width x a.picture.now l) at c.beyond.ensures in
    let inv = c.loop-column.invariant in
    (inv.0, rw (← add_assoc) (below_more _ _ inv.1 (beyond_good _ (sym e ∙ c.if-beyond.false))))

pub returns-after-rows : goal.returns-after-rows
returns-after-rows c =
    let e : c.rows.row ≡ c.args.height = omega arith in
    c.rows.invariant.0 ∙ sym ((nothing_bad (nat_abs c.args.limit) c.args.width c.args.height c.args.picture.now).1 (rw (to_z-of_z c.ranges.limit, e) at c.rows.invariant.1))

pub returns-then-beyond : goal.returns-then-beyond
returns-then-beyond c =
    let a = c.args in
    let y = c.rows.row in
    let x = c.loop-column.column in
    let l : x < a.width = rw (row_long y a.width a.height a.picture.now c.rows-test.true (omega arith)) at c.loop-column-test.true in
    let v = get_or (take (y * a.width + a.width - y * a.width) (drop (y * a.width) a.picture.now)) x (pos 0) in
    let e = rw (to_z-of_z c.ranges.limit, read_back w32 v (search rules), row_sample y a.width x a.picture.now l) at c.beyond.ensures in
    sym ((first_bad_lem (nat_abs a.limit) a.width a.height a.picture.now y x).1
    (record {
      row_inside = c.rows-test.true;
      column_inside = l;
      first = record {
        inside = omega (arith, row_in a.width a.height y c.rows-test.true, l);
        earlier = rw (to_z-of_z c.ranges.limit) at c.loop-column.invariant.1;
        here = beyond_bad (get_or a.picture.now (y * a.width + x) (pos 0)) (sym e ∙ c.if-beyond.true);
      };
    }))
