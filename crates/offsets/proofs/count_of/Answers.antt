-- `count_of` adds the lines of the three passes: pass 3 moves the rows as pass 1 does. Assumes nothing.
use Prim.Native.Nat.{◌+◌}
use mathlib.Core.Path.{ap₂}
use native.Mathlib.Omega.{arith}
use borrow.Author.Rules.{rules}
use mir.Syntax.{w32}
use Rattle.arith.proofs.Machine.{read_back}
use Rattle.passes.specs.Count.{count}
use Rattle.offsets.proofs.count_of.Goals as goal

pub returns : goal.returns
unfolding count
returns c =
    let s = c.args.setting in
    let rows = c.count-rows.ensures.0 in
    let lines = ap₂ ◌+◌ (ap₂ ◌+◌ rows c.count-columns.ensures.0) rows in
    (rw (read_back w32 s.a (search rules), read_back w32 s.b (search rules)) at lines, omega (arith, c.count-rows.ensures.1, c.count-columns.ensures.1))
