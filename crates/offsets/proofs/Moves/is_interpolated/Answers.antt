-- `is_interpolated` asks whether f of the held move is 0, by its bits. Assumes nothing.
use mathlib.Core.Path.{sym}
use native.Mathlib.Omega.{arith}
use Rattle.std.proofs.lemmas.Bool.Decides.{nat_tests}
use Rattle.moves.proofs.Border.{held-fraction}
use Rattle.offsets.specs.Moves.{move_of}
use Rattle.offsets.proofs.Moves.is_interpolated.Goals as goal

pub returns : goal.returns
returns c =
    let a = c.args in
    rw (c.fraction.ensures, sym (held-fraction a.border a.n (move_of a.self a.y))) (grind (arith, nat_tests))
