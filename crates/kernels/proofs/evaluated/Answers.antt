-- `kernels::evaluated` meets its contract: entries up to 6 and f up to 4,096 keep every step within 64 bits.
-- Assumes nothing.
use Prim.Native.Nat.{ℕ}
use lib.Dec.{lit<}
use lib.IntN.{pos}
use lib.ListN.{get_or}
use mir.Syntax.{w64}
use Rattle.arith.proofs.Machine.{sfits-nat_abs}
use Rattle.arith.proofs.Compute.{Code, arg, num, ◌+ᵐ◌, ◌*ᵐ◌, At, asked, done, Sized, fit, reads, arg_sized, num_sized, plus_sized, times_sized}
use Rattle.kernels.proofs.evaluated.Goals as goal
use Rattle.kernels.proofs.evaluated.Goals.{Start}

module _ (s : Start) where
  abbrev entry : ℕ → Code w64
  entry j = arg (get_or s.args.row j (pos 0))

  abbrev f : Code w64
  f = arg s.args.f

  abbrev code : Code w64
  code = entry 0 *ᵐ num 68719476736 +ᵐ entry 1 *ᵐ f *ᵐ num 16777216 +ᵐ entry 2 *ᵐ f *ᵐ f *ᵐ num 4096 +ᵐ entry 3 *ᵐ f *ᵐ f *ᵐ f

  six : (j : ℕ) → Sized (entry j) 6
  six j = arg_sized 6 (sfits-nat_abs (get_or s.args.row j (pos 0)) (s.requires.by_index j) (lit< tt)) (s.requires.by_index j)

  part : Sized f 4096
  part = arg_sized 4096 s.ranges.f s.requires.f_bound

  sized : Sized code 1649267441664
  sized =
      plus_sized
      (plus_sized
      (plus_sized (times_sized (six 0) (num_sized 68719476736 tt) tt) (times_sized (times_sized (six 1) part tt) (num_sized 16777216 tt) tt) tt)
      (times_sized (times_sized (times_sized (six 2) part tt) part tt) (num_sized 4096 tt) tt) tt)
      (times_sized (times_sized (times_sized (six 3) part tt) part tt) part tt) tt

  answer : (k : ℕ) → At k (asked code done)
  answer k = fit k sized

pub overflow_mul-result : goal.overflow_mul-result
overflow_mul-result c = answer (goal.at.overflow_mul-result c).Start 0

pub overflow_mul-result-2 : goal.overflow_mul-result-2
overflow_mul-result-2 c = answer (goal.at.overflow_mul-result-2 c).Start 1

pub overflow_mul-result-3 : goal.overflow_mul-result-3
overflow_mul-result-3 c = answer (goal.at.overflow_mul-result-3 c).Start 2

pub overflow_add-result : goal.overflow_add-result
overflow_add-result c = answer (goal.at.overflow_add-result c).Start 3

pub overflow_mul-result-4 : goal.overflow_mul-result-4
overflow_mul-result-4 c = answer (goal.at.overflow_mul-result-4 c).Start 4

pub overflow_mul-result-5 : goal.overflow_mul-result-5
overflow_mul-result-5 c = answer (goal.at.overflow_mul-result-5 c).Start 5

pub overflow_mul-result-6 : goal.overflow_mul-result-6
overflow_mul-result-6 c = answer (goal.at.overflow_mul-result-6 c).Start 6

pub overflow_add-result-2 : goal.overflow_add-result-2
overflow_add-result-2 c = answer (goal.at.overflow_add-result-2 c).Start 7

pub overflow_mul-result-7 : goal.overflow_mul-result-7
overflow_mul-result-7 c = answer (goal.at.overflow_mul-result-7 c).Start 8

pub overflow_mul-result-8 : goal.overflow_mul-result-8
overflow_mul-result-8 c = answer (goal.at.overflow_mul-result-8 c).Start 9

pub overflow_mul-result-9 : goal.overflow_mul-result-9
overflow_mul-result-9 c = answer (goal.at.overflow_mul-result-9 c).Start 10

pub overflow_add-result-3 : goal.overflow_add-result-3
overflow_add-result-3 c = answer (goal.at.overflow_add-result-3 c).Start 11

pub returns : goal.returns
returns c = reads (sized (goal.at.returns c).Start)
