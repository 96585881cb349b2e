-- `count` adds up the lines one by one. Assumes nothing.
use Prim.Native.Nat.{ℕ, zero, suc}
use mathlib.Core.Path.{◌≡◌, refl, ap, ◌∙◌}
use native.Mathlib.Numerals.{add-one}
use native.Mathlib.Omega.{arith}
use borrow.Author.Tests.{le-leb}
use lib.Dec.{leb}
use mir.Val.{bool_byte}
use Rattle.std.specs.Prelude.{min}
use Rattle.moves.specs.Border.{fraction_in}
use Rattle.passes.specs.Count.{interpolated}
use Rattle.offsets.specs.Moves.{move_of}
use Rattle.offsets.proofs.Moves.count.Goals as goal
use Rattle.offsets.proofs.Moves.count.Goals.{After-from-count}

-- a line adds 1 where its f is not 0
byte : (f : ℕ) → bool_byte (leb 1 f) ≡ min 1 f
byte zero = refl
byte (suc f) = ap bool_byte (le-leb 1 (suc f) (omega arith)) ∙ one f
  where
    one : (f : ℕ) → 1 ≡ min 1 (suc f)
    one f = omega arith

added : (c : After-from-count) → c.from-count.result ≡ min 1 (fraction_in c.args.border c.args.n (move_of c.args.self c.loop-y.y))
added c = c.from-count.ensures ∙ ap bool_byte c.is_interpolated.ensures ∙ byte _

pub overflow_add-count : goal.overflow_add-count
overflow_add-count c = omega (arith, added c)

pub loop-y-init : goal.loop-y-init
loop-y-init c = (omega arith, unfold interpolated in refl)

pub loop-y-preserved : goal.loop-y-preserved
loop-y-preserved c = (omega (arith, added c), unfold interpolated in rw (add-one, c.loop-y.invariant.1, added c) refl)

pub returns : goal.returns
returns c =
    let e : c.loop-y.y ≡ c.args.lines = omega arith in
    (rw e at c.loop-y.invariant.1, omega arith)
