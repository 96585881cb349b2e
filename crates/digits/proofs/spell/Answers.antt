-- `digits::spell` meets its contract.
use mathlib.Core.Path.{◌≡◌, refl, ◌∙◌}
use native.Mathlib.Omega.{arith}
use lib.ListN.{get_or}
use Rattle.lists.proofs.Fill.{filled_none, filled_more}
use Rattle.digits.proofs.Filled.{filled_next, filled_all}
use Rattle.digits.specs.Digit.{spelt}
use Rattle.digits.proofs.spell.Goals as goal

pub loop-place-init : goal.loop-place-init
loop-place-init c = filled_none spelt _ _

pub loop-place-preserved : goal.loop-place-preserved
loop-place-preserved c =
    let a = c.args.out.now in
    let i = c.loop-place.place-index in
    let e : c.digit_of.result ≡ spelt (get_or a i 0) = c.digit_of.ensures ∙ unfold spelt in rw (c.loop-place.invariant, filled_next spelt i a a 0 (omega arith) (omega arith)) refl in
    rw (c.loop-place.invariant, e) (filled_more spelt i a a 0 (omega arith) (omega arith))

pub returns : goal.returns
returns c = c.loop-place.invariant ∙ filled_all spelt c.loop-place.place-index _ _ (omega arith) (omega arith)
