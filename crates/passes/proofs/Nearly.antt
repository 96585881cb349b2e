-- Q-12's second sentence under the spline, of a pass and of three, under both borders: pictures that differ by a number to within m units differ by it to within
-- 3·m + 1 after a pass; so one number added to every sample and to the background is added to every sample of three passes to within 13 units
-- (`straighten_nearly`). Assumes nothing.
use mathlib.Core.Path.{sym, subst₂}
use mathlib.Core.List.{List}
use Prim.Native.Nat.{ℕ, ◌+◌, ◌*◌, ◌≤◌, ◌<◌}
use native.Mathlib.Omega.{arith}
use lib.IntN.{ℤ, pos, nat_abs}
use lib.Signed.{◌≤ℤ◌, le_z_yes}
use Rattle.arith.proofs.Within.{Within, within_size, size_within}
use Rattle.lists.specs.Line.{line}
use Rattle.settings.specs.declared.Border.{Border}
use Rattle.kernels.specs.declared.Kernel.TheVariants.{Spline}
use Rattle.moves.specs.Border.{grey}
use Rattle.moves.specs.Range.{raised, Raised, RaisedWithin}
use Rattle.moves.proofs.Nearly.{Nearly, nearly_equal, onward, bordered_nearly}
use Rattle.lists.specs.Picture.{Picture, picture, Places}
use Rattle.passes.specs.Picture.{rows_moved, after_one, after_two, straightened, straighten}
use Rattle.lists.proofs.Picture.{inside, at_index}
use Rattle.passes.proofs.Places.{straighten_at}
use Rattle.passes.proofs.Reach.{row_small, grey_small, sample_range, after_one_range, after_two_range}

-- ---- one pass
rows_nearly : (β : Border) {W H : ℕ} (move : ℕ → ℤ) {X Y : Picture} (c m : ℤ) → 0 < W → pos 0 ≤ℤ m → Within (pos 294912) (grey β) → Within (pos 294912) (grey (raised c β))
    → Places W H (λ y x. Within (pos 294912) (X y x)) → Places W H (λ y x. Within (pos 294912) (Y y x)) → Places W H (λ y x. Nearly m c (X y x) (Y y x))
    → Places W H (λ y x. Nearly (onward m) c (rows_moved β Spline W move X y x) (rows_moved (raised c β) Spline W move Y y x))
unfolding rows_moved
rows_nearly β move c m h hm outer outer' small small' each y x hy hx =
    bordered_nearly β c m h hm outer outer' (λ k l. small y k hy l) (λ k l. small' y k hy l) (λ k l. each y k hy l) (move y) x

-- ---- three: 0 becomes 1, 4 and 13
module _ (β : Border) {W H : ℕ} (rows columns : ℕ → ℤ) (hW : 0 < W) (hH : 0 < H) (c : ℤ) (plain : nat_abs (grey β) ≤ 32767) (plain' : nat_abs (grey (raised c β)) ≤ 32767) where
  outer : Within (pos 32767) (grey β)
  outer = size_within (grey β) 32767 plain

  outer' : Within (pos 32767) (grey (raised c β))
  outer' = size_within (grey (raised c β)) 32767 plain'

  straightened_nearly : {X Y : Picture} → Places W H (λ y x. Within (pos 32767) (X y x)) → Places W H (λ y x. Within (pos 32767) (Y y x))
      → Places W H (λ y x. Nearly (pos 0) c (X y x) (Y y x))
      → Places W H (λ y x. Nearly (pos 13) c (straightened β Spline W H rows columns X y x) (straightened (raised c β) Spline W H rows columns Y y x))
  straightened_nearly {X} {Y} range range' each =
      rows_nearly β rows c (pos 4) hW (le_z_yes tt) small small' (after_two_range β Spline rows columns hW hH outer range) (after_two_range (raised c β) Spline rows columns hW hH outer' range') two
    where
      small : Within (pos 294912) (grey β)
      small = grey_small β (omega arith) outer

      small' : Within (pos 294912) (grey (raised c β))
      small' = grey_small (raised c β) (omega arith) outer'

      one : Places W H (λ y x. Nearly (pos 1) c (after_one β Spline W rows X y x) (after_one (raised c β) Spline W rows Y y x))
      one =
          rows_nearly β rows c (pos 0) hW (le_z_yes tt) small small'
          (λ y x hy hx. row_small (omega arith) (record { place = range }) y hy x hx) (λ y x hy hx. row_small (omega arith) (record { place = range' }) y hy x hx) each

      two : Places W H (λ y x. Nearly (pos 4) c (after_two β Spline W H rows columns X y x) (after_two (raised c β) Spline W H rows columns Y y x))
      two y x hy hx =
          rows_nearly β columns c (pos 1) hH (le_z_yes tt) small small'
          (λ x y hx hy. after_one_range β Spline rows columns hW hH outer range y x hy hx) (λ x y hx hy. after_one_range (raised c β) Spline rows columns hW hH outer' range' y x hy hx)
          (λ x y hx hy. one y x hy hx) x y hx hy

  pub straighten_nearly : (s t : List ℤ) → ((i : ℕ) → i < W * H → nat_abs (line s i) ≤ 32767) → ((i : ℕ) → i < W * H → nat_abs (line t i) ≤ 32767) → Raised c (W * H) s t
      → RaisedWithin 13 c (W * H) (straighten β Spline W H rows columns s) (straighten (raised c β) Spline W H rows columns t)
  unfolding picture
  straighten_nearly s t small small' each i l =
      within_size _ 13 (subst₂ (Nearly (pos 13) c) (sym (straighten_at β Spline W H rows columns s i l)) (sym (straighten_at (raised c β) Spline W H rows columns t i l))
      (at_index (λ y x. Nearly (pos 13) c (straightened β Spline W H rows columns (picture W s) y x) (straightened (raised c β) Spline W H rows columns (picture W t) y x)) hW
      (straightened_nearly (sample_range s small) (sample_range t small')
      (λ y x hy hx. nearly_equal (line s (y * W + x)) (line t (y * W + x)) c (each (y * W + x) (inside W H y x hy hx)))) i l))
