-- `run_in_up`: j is the place that the next turn reads, and x the value after the turns so far. Assumes nothing.
use Prim.Native.Nat.{ℕ, ◌%◌}
use mathlib.Core.Path.{◌≡◌, refl, sym, ap, ◌∙◌}
use native.Mathlib.Nat.{mod-lt}
use native.Mathlib.Omega.{arith}
use lib.ListN.{length}
use Rattle.lists.specs.Line.{line}
use Rattle.spline.specs.Coefficients.{run_in}
use Rattle.spline.proofs.Rules.{run_start}
use Rattle.prefilter.specs.InPlace.{run_in_up}
use Rattle.prefilter.proofs.InPlace.{place_after, run_asks, run_leaves}
use Rattle.prefilter.proofs.run_in_up.Goals as goal

pub loop-init : goal.loop-init
loop-init c =
    let s = c.args.s.now in record {
      inside = mod-lt _ (omega arith);
      place = ap (λ (i : ℕ). i % length s) (omega arith);
      carried = sym (run_start (length s) (line s));
    }

pub rise-x-requires : goal.rise-x-requires
rise-x-requires c = let i = c.loop.invariant in run_asks c.requires c.loop.counter c.loop.j _ i.inside i.carried

pub loop-preserved : goal.loop-preserved
loop-preserved c =
    let i = c.loop.invariant in record {
      inside = c.after-j.ensures.1;
      place = c.after-j.ensures.0 ∙ place_after (length c.args.s.now) c.loop.counter c.loop.j i.place;
      carried = run_leaves c.requires c.loop.counter c.loop.j _ i.inside i.carried i.place c.rise-x.result c.rise-x.type_inv c.rise-x.ensures;
    }

pub returns : goal.returns
unfolding run_in_up
returns c =
    let e : c.loop.counter ≡ run_in = omega arith in
    rw (c.loop.invariant.carried, e) refl
