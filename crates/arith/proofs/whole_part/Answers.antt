-- `whole_part` shifts -d, which is in range by its size. Assumes nothing.
use mathlib.Core.Path.{ap, ◌∙◌}
use lib.IntN.{pos, neg_ℤ, ◌-ℤ◌, +ℤ_idl}
use mir.Syntax.{w64}
use Rattle.arith.specs.Whole.{floor}
use Rattle.arith.specs.Move.{whole}
use Rattle.arith.proofs.Round.{shr-floor}
use Rattle.arith.proofs.Compute.{arg, num, ◌-ᵐ◌, ◌>>ᵐ◌, Sized, arg_sized, num_sized, minus_sized, shr_sized, fit, reads}
use Rattle.arith.proofs.whole_part.Goals as goal
use Rattle.arith.proofs.whole_part.Goals.{Start}

shifted : (s : Start) → Sized {w = w64} (num 0 -ᵐ arg s.args.d >>ᵐ 12) 1099511627776
shifted s = shr_sized 12 (minus_sized (num_sized 0 tt) (arg_sized 1099511627776 s.ranges.d s.requires) tt)

pub overflow_sub-result : goal.overflow_sub-result
overflow_sub-result c = fit 0 (shifted c)

pub returns : goal.returns
unfolding whole
returns c = reads (shifted c) ∙ shr-floor (pos 0 -ℤ c.args.d) 4096 ∙ ap (λ z. floor z 4096) (+ℤ_idl (neg_ℤ c.args.d))
