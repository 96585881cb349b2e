-- `store_line` is one run of `store_part`, or two that `put-rolled` joins. Assumes nothing.
use Prim.Native.Nat.{ℕ, ◌+◌, ◌*◌, ◌-◌, ◌<◌}
use mathlib.Core.Path.{◌≡◌, ap, ◌∙◌}
use mathlib.Core.List.{List}
use native.Mathlib.Omega.{arith}
use lib.IntN.{ℤ}
use lib.ListN.{length, take, length-take, length-drop}
use Rattle.lists.specs.Line.{line}
use Rattle.lists.specs.Grid.{put}
use Rattle.lists.proofs.Grid.{put-run, put-rolled}
use Rattle.lists.proofs.store_line.Goals as goal
use Rattle.lists.proofs.store_line.Goals.{After-store_part-arg-4-1}

pub store_part-requires : goal.store_part-requires
store_part-requires c = λ k l. c.requires.by_index k (omega (arith, simp (length-take, length-drop) at l))

pub returns-then-n-run : goal.returns-then-n-run
returns-then-n-run c =
    let a = c.args in
    c.store_part.ensures ∙ put-run a.at a.along a.samples.now a.turn a.n a.picture.now (omega arith)

pub store_part-requires-2 : goal.store_part-requires-2
store_part-requires-2 c = λ k l. c.requires.by_index k (omega (arith, simp (length-take, length-drop) at l))

-- the second run starts inside
second_in : (c : After-store_part-arg-4-1) → c.args.at + (length c.args.samples.now - c.args.turn) * c.args.along < length c.args.picture.now
second_in c = c.requires.by_index (length c.args.samples.now - c.args.turn) (omega arith)

pub overflow_mul-run : goal.overflow_mul-run
overflow_mul-run c = omega (arith, second_in c)

pub overflow_add-at : goal.overflow_add-at
overflow_add-at c = omega (arith, second_in c)

pub store_part-requires-3 : goal.store_part-requires-3
store_part-requires-3 c =
    let m = length c.args.samples.now - c.args.turn in
    λ k l.
    step c.args.at m k c.args.along (length c.args.picture.now) _
    (c.requires.by_index (m + k) (omega (arith, simp length-take at l)))
    c.store_part-2.auto.picture
  where
    step : (at m k along n n' : ℕ) → at + (m + k) * along < n → n' ≡ n → at + m * along + k * along < n'
    step at m k along n n' h e = omega arith

pub returns : goal.returns
returns c =
    let a = c.args in
    let m = length a.samples.now - a.turn in
    let rest = a.n - m in
    let one = c.store_part-2 in
    c.store_part-3.ensures
    ∙ ap (λ (p : List ℤ). put (a.at + m * a.along) a.along (line (take rest a.samples.now)) (length (take rest a.samples.now)) p) one.ensures
    ∙ put-rolled a.at a.along a.samples.now a.turn a.n a.picture.now c.requires.turn_in_bounds.0 c.requires.turn_in_bounds.1 (omega arith)
