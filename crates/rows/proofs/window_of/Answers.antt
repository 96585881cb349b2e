-- `rows::window_of` answers a part that covers the outputs. Assumes nothing.
use Prim.Native.Nat.{◌+◌, ◌≤◌}
use native.Mathlib.Omega.{arith}
use Rattle.moves.specs.Row.{places}
use Rattle.moves.proofs.Kept.{covers_window}
use Rattle.rows.proofs.window_of.Goals as goal

pub returns : goal.returns
returns c =
    let a = c.args in
    let room : a.start + a.n + 2 ≤ places a.border a.n = omega (arith, c.places_of-m.ensures) in
    rw (c.min.ensures, c.max.ensures) (covers_window a.border a.n a.start (omega arith) room)
