-- `kernels::weights_of` meets its contract: each weight is a row evaluated. Assumes nothing.
use mathlib.Core.Path.{◌≡◌, refl, ap, ◌∙◌}
use mathlib.Core.List.{List, []}
use Prim.Native.Nat.{ℕ, ◌^◌, ◌≤◌, ◌<◌}
use lib.IntN.{ℤ, nat_abs}
use lib.ListN.{get_or}
use lib.Signed.{mag}
use mir.Syntax.{w64}
use mir.Val.{to_z, of_z, hbits}
use mir.Facts.{to_z-of_z}
use Rattle.arith.proofs.Machine.{read_back}
use Rattle.kernels.specs.Kernel.{evaluate}
use Rattle.kernels.proofs.weights_of.Goals as goal
use Rattle.kernels.proofs.weights_of.Goals.{Start}

-- the row of each place: what its weight asks, and what it is
module _ (s : Start) (place : ℕ) where
  abbrev row : List ℤ
  row = get_or s.args.rows place []

  asks : nat_abs (to_z w64 (of_z w64 s.args.f)) ≤ 4096
  asks = rw (to_z-of_z s.ranges.f) s.requires.f_bound

  is : (r : ℤ) → mag r < 2 ^ hbits w64 → r ≡ evaluate row (to_z w64 (of_z w64 s.args.f)) → to_z w64 (of_z w64 r) ≡ evaluate row s.args.f
  is r k e = read_back w64 r k ∙ e ∙ ap (evaluate row) (to_z-of_z s.ranges.f)

pub returns : goal.returns
returns c =
    let s = (goal.at.returns c).Start in
    rw (
      is s 0 c.evaluated.result c.evaluated.type_inv c.evaluated.ensures,
      is s 1 c.evaluated-2.result c.evaluated-2.type_inv c.evaluated-2.ensures,
      is s 2 c.evaluated-3.result c.evaluated-3.type_inv c.evaluated-3.ensures,
      is s 3 c.evaluated-4.result c.evaluated-4.type_inv c.evaluated-4.ensures,
    )
    refl

pub evaluated-requires : goal.evaluated-requires
evaluated-requires c = let s = (goal.at.evaluated-requires c).Start in record { by_index = s.requires.by_index 0; f_bound = asks s 0 }

pub evaluated-requires-2 : goal.evaluated-requires-2
evaluated-requires-2 c = let s = (goal.at.evaluated-requires-2 c).Start in record { by_index = s.requires.by_index 1; f_bound = asks s 1 }

pub evaluated-requires-3 : goal.evaluated-requires-3
evaluated-requires-3 c = let s = (goal.at.evaluated-requires-3 c).Start in record { by_index = s.requires.by_index 2; f_bound = asks s 2 }

pub evaluated-requires-4 : goal.evaluated-requires-4
evaluated-requires-4 c = let s = (goal.at.evaluated-requires-4 c).Start in record { by_index = s.requires.by_index 3; f_bound = asks s 3 }
