-- `Direction::miss_at` meets its contract: Compute mirrors its arithmetic, with ranges by sizes. Assumes nothing.
use native.Mathlib.Omega.{arith}
use lib.IntN.{ℤ}
use Prim.Native.Nat.{ℕ, ◌≤◌}
use mir.Syntax.{w64}
use Rattle.arith.proofs.Machine.{sfits-nat_abs}
use Rattle.arith.proofs.Compute.{Code, arg, nat, num, ◌+ᵐ◌, ◌-ᵐ◌, ◌*ᵐ◌, Sized, At, asked, done, arg_sized, nat_sized, num_sized, plus_sized, minus_sized, times_sized, fit, reads}
use Rattle.levelling.specs.Level.{miss, step_at}
use Rattle.levelling.specs.Search.{Flat}
use Rattle.levelling.proofs.Levelling.{flat_small}
use Rattle.levelling.proofs.Direction.miss_at.Goals as goal

abbrev code : ℕ → ℤ → ℤ → Code w64
code u dx dy =
    num 8192 *ᵐ (nat u -ᵐ num 1697) *ᵐ arg dx
    +ᵐ (num 16777216 -ᵐ (nat u -ᵐ num 1697) *ᵐ (nat u -ᵐ num 1697)) *ᵐ arg dy

sized : (u : ℕ) (dx dy : ℤ) → u ≤ 3394 → Flat dx dy → Sized (code u dx dy) 86342191287
sized u dx dy h flat =
    let small = flat_small dx dy flat in
    plus_sized (times_sized (times_sized (num_sized 8192 tt) t_sized tt) (arg_sized 1023 (sfits-nat_abs dx small.0 (omega arith)) small.0) tt)
    (times_sized (minus_sized (num_sized 16777216 tt) (times_sized t_sized t_sized tt) tt) (arg_sized 1023 (sfits-nat_abs dy small.1 (omega arith)) small.1) tt) tt
  where
    t_sized : Sized {w = w64} (nat u -ᵐ num 1697) 5091
    t_sized = minus_sized (nat_sized 3394 h tt) (num_sized 1697 tt) tt

-- goal k of the mirror, which asks of u - 1,697 three times
answer : (k u : ℕ) (dx dy : ℤ) → u ≤ 3394 → Flat dx dy → At k (asked (code u dx dy) done)
answer k u dx dy h flat = fit k (sized u dx dy h flat)

pub overflow_mul-result-4 : goal.overflow_mul-result-4
overflow_mul-result-4 c = answer 7 c.args.u c.args.self.dx c.args.self.dy c.requires c.args.self.flat

pub overflow_add-result : goal.overflow_add-result
overflow_add-result c = answer 8 c.args.u c.args.self.dx c.args.self.dy c.requires c.args.self.flat

pub returns : goal.returns
unfolding miss step_at
returns c =
    let s = sized c.args.u c.args.self.dx c.args.self.dy c.requires c.args.self.flat in
    record { is = reads s; size = rw (reads s) (omega (arith, s.size)) }
