-- `wrapped` casts the floor remainder to an index. Assumes nothing.
use mathlib.Core.Path.{◌≡◌, refl, ap₂, ◌∙◌}
use native.Mathlib.Omega.{arith}
use lib.IntN.{pos, nat_abs}
use mir.Syntax.{w64}
use mir.Val.{to_z, of_z}
use mir.Facts.{to_z_pos, to_z-of_z}
use Rattle.arith.specs.Whole.{remainder}
use Rattle.arith.proofs.Laws.{pos-≤ℤ}
use Rattle.arith.proofs.Round.{remainder_is}
use Rattle.arith.proofs.Machine.{read_back}
use Rattle.arith.proofs.wrapped.Goals as goal
use Rattle.arith.proofs.wrapped.Goals.{After-floor_remainder, Start}

-- the length, cast
length_is : (s : Start) → to_z w64 s.args.n ≡ pos s.args.n
length_is s = to_z_pos w64 (omega arith)

-- what is returned, as the integer that it is cast from
left_is : (c : After-floor_remainder) → to_z w64 (of_z w64 c.floor_remainder.result) ≡ pos (remainder c.args.k c.args.n)
left_is c =
    read_back w64 c.floor_remainder.result c.floor_remainder.type_inv ∙ c.floor_remainder.ensures
    ∙ ap₂ (λ k m. pos (remainder k (nat_abs m))) (to_z-of_z {w = w64} c.ranges.k) (length_is c.before)

pub floor_remainder-requires : goal.floor_remainder-requires
floor_remainder-requires c = rw (length_is c) (pos-≤ℤ {n = c.args.n} (omega arith))

pub overflow_cast-result : goal.overflow_cast-result
overflow_cast-result c = rw (left_is c) (tt, record { fits = omega (arith, (remainder_is c.args.k c.args.n (omega arith)).1) })

pub returns : goal.returns
returns c = rw (left_is c) (refl, (remainder_is c.args.k c.args.n (omega arith)).1)
