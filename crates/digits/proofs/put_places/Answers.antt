-- `digits::put_places` meets its contract.
use Prim.Native.Nat.{suc, ◌-◌}
use mathlib.Core.Path.{◌≡◌, ◌∙◌}
use native.Mathlib.Omega.{arith}
use Rattle.digits.proofs.Place.{places_none, places_more, places-all}
use Rattle.digits.proofs.put_places.Goals as goal

pub loop-n-init : goal.loop-n-init
loop-n-init c = places_none c.args.out.now c.args.v

pub loop-n-preserved : goal.loop-n-preserved
loop-n-preserved c =
    let l = c.loop-n in
    let m : suc (l.n - 1) ≡ l.n = omega arith in
    places_more l.out (l.n - 1) l.rest (omega arith) ∙ rw m l.invariant

pub returns : goal.returns
returns c =
    let e : c.loop-n.n ≡ 0 = omega arith in
    places-all c.loop-n.out c.loop-n.n c.loop-n.rest _ e c.loop-n.invariant
