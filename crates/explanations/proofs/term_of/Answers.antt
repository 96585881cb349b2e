-- `explanations::term_of` meets its contract: the product fits, since no weight is over 6·D³ and no value over that of the coefficients. Assumes nothing.
use mathlib.Core.Path.{◌≡◌, refl, ap, ◌∙◌}
use Prim.Native.Nat.{ℕ}
use borrow.Author.Rules.{rules}
use lib.IntN.{ℤ, ◌*ℤ◌}
use lib.ListN.{length}
use mir.Syntax.{w32, w64}
use mir.Val.{to_z, of_z}
use mir.Facts.{to_z-of_z}
use Rattle.arith.proofs.Compute.{arg, ◌*ᵐ◌, Sized, arg_sized, times_sized, fit, reads}
use Rattle.lists.specs.Line.{line}
use Rattle.explanations.specs.Made.{place_of, term_by}
use Rattle.explanations.proofs.term_of.Goals as goal
use Rattle.explanations.proofs.term_of.Goals.{After-from}

-- a term from its figures
term_is : {p p' : ℕ} {w w' v v' z : ℤ} → p ≡ p' → w ≡ w' → v ≡ v' → z ≡ w' *ℤ v' → record { place = p; weight = w; value = v; product = z } ≡ term_by p' w' v'
term_is ep ew ev ez = rw (ep, ew, ev, ez) refl

module _ (c : After-from) where
  abbrev place : ℕ
  place = c.place_of-place.result

  place_is : place ≡ place_of (length c.args.weighed.now) c.args.d c.args.k c.args.i
  place_is = rw (to_z-of_z c.ranges.d) at c.place_of-place.ensures.0

  -- the value, as it was read and as a wider number
  value_is : to_z w32 (of_z w32 (line c.args.weighed.now place)) ≡ line c.args.weighed.now place
  value_is = search rules

  wide_is : c.from.result ≡ line c.args.weighed.now place
  wide_is = c.from.ensures ∙ value_is

  product : Sized {w = w64} (arg c.args.weight *ᵐ arg c.from.result) 5836666354022744064
  product =
      times_sized (arg_sized 412316860416 c.ranges.weight c.requires.2)
      (arg_sized 14155779 (record { sfits = c.from.type_inv }) (rw wide_is (c.requires.0.small place c.place_of-place.ensures.1))) tt

pub overflow_mul-result : goal.overflow_mul-result
overflow_mul-result c = fit 0 (product c)

pub returns : goal.returns
returns c =
    let a = c.args in
    let x = line a.weighed.now in
    term_is (place_is c) (to_z-of_z c.ranges.weight) (value_is c ∙ ap x (place_is c)) (reads (product c) ∙ ap (λ v. a.weight *ℤ v) (wide_is c ∙ ap x (place_is c)))
