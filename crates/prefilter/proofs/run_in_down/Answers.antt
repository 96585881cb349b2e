-- `run_in_down`: j is the place that the next turn reads, and x the value after the turns so far. Assumes nothing.
use Prim.Native.Nat.{ℕ, ◌%◌}
use mathlib.Core.Path.{◌≡◌, refl, sym, ap, ◌∙◌}
use native.Mathlib.Nat.{mod-lt}
use native.Mathlib.Omega.{arith}
use lib.ListN.{length}
use Rattle.lists.specs.Line.{line}
use Rattle.spline.specs.Coefficients.{run_in}
use Rattle.spline.proofs.Rules.{down_start}
use Rattle.prefilter.specs.InPlace.{run_in_down}
use Rattle.prefilter.proofs.InPlace.{place_prior, down_asks, down_leaves}
use Rattle.prefilter.proofs.run_in_down.Goals as goal

pub loop-init : goal.loop-init
loop-init c =
    let u = c.args.u.now in record {
      inside = mod-lt _ (omega arith);
      place = ap (λ (i : ℕ). i % length u) (omega arith);
      carried = sym (down_start (length u) (line u));
    }

pub fall-x-requires : goal.fall-x-requires
fall-x-requires c = let i = c.loop.invariant in down_asks c.requires c.loop.counter c.loop.j _ i.inside i.carried

pub loop-preserved : goal.loop-preserved
loop-preserved c =
    let i = c.loop.invariant in record {
      inside = c.prior-j.ensures.1;
      place = c.prior-j.ensures.0 ∙ place_prior (length c.args.u.now) c.loop.counter c.loop.j (omega arith) (omega arith) i.place;
      carried = down_leaves c.requires c.loop.counter c.loop.j _ i.inside i.carried i.place c.fall-x.result c.fall-x.type_inv c.fall-x.ensures;
    }

pub returns : goal.returns
unfolding run_in_down
returns c =
    let e : c.loop.counter ≡ run_in = omega arith in
    rw (c.loop.invariant.carried, e) refl
