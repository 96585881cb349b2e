-- A picture of its own is one slice, and straightened as such it is document 01's three passes. Assumes nothing.
use Prim.Native.Nat.{ℕ, ◌+◌, ◌*◌, ◌<◌}
use mathlib.Core.Path.{◌≡◌, sym, ap, ◌∙◌, subst}
use mathlib.Core.List.{List}
use native.Mathlib.Nat.{mul-one}
use native.Mathlib.Omega.{arith}
use lib.IntN.{ℤ, pos}
use lib.ListN.{length, get_or}
use lib.Seq.{ext_get_or}
use Rattle.lists.specs.Line.{line}
use Rattle.lists.proofs.Grid.{one_place}
use Rattle.settings.specs.declared.Setting.{Setting}
use Rattle.lists.specs.Picture.{Picture, picture, pictured, Places}
use Rattle.passes.specs.Picture.{straightened, straighten}
use Rattle.lists.proofs.Picture.{inside, length-pictured, pictured_at, picture_at, at_index}
use Rattle.acceptance.specs.Judge.{Fit}
use Rattle.planes.specs.declared.Slices.{Slices}
use Rattle.planes.specs.Slices.{place_in, slice, Apart}
use Rattle.planes.specs.Sweep.{SlicesWithin, Straightened, Workable}
use Rattle.planes.proofs.Places.{straightened_local}
use Rattle.planes.proofs.Treated.{only}
use Rattle.pictures.specs.Answer.{kernel_in, row_moves, column_moves}

abbrev pub own : ℕ → ℕ → Slices
own W H = record { columns = W; rows = H; slices = 1; along = 1; across = W; step = W * H }

own_place : (W H i y x : ℕ) → i < 1 → place_in (own W H) i y x ≡ y * W + x
own_place W H i y x l = ap (λ (n : ℕ). n * (W * H) + (y * W + x * 1)) (only i l) ∙ ap (λ (n : ℕ). 0 * (W * H) + (y * W + n)) (mul-one x) ∙ drops (W * H) (y * W + x)
  where
    drops : (step q : ℕ) → 0 * step + q ≡ q
    drops step q = omega arith

own_apart : (W H : ℕ) → Apart (own W H) (W * H)
own_apart W H =
    record {
      inside = λ i y x hi hy hx. subst (λ (p : ℕ). p < W * H) (sym (own_place W H i y x hi)) (inside W H y x hy hx);
      apart = λ i i' y y' x x' hi hi' hy hy' hx hx' e.
          let a = one_place W y y' x x' hx hx' (sym (own_place W H i y x hi) ∙ e ∙ own_place W H i' y' x' hi') in
          (only i hi ∙ sym (only i' hi'), a.0, a.1);
    }

-- an accepted picture may be straightened so
pub own_workable : {W H : ℕ} {s : Setting} (pic : List ℤ) {result work : ℕ} → Fit W H s pic result work → length pic ≡ W * H → Workable (own W H) s (length pic) work
own_workable {W} {H} pic f long =
    record {
      columns = f.width;
      rows = f.height;
      slices = (omega arith, omega arith);
      lie = subst (Apart (own W H)) (sym long) (own_apart W H);
      work_places_lent = f.work_places_lent;
      setting = f.setting;
    }

pub own_within : {W H : ℕ} {s : Setting} (pic : List ℤ) {result work : ℕ} → Fit W H s pic result work → SlicesWithin (own W H) 32767 pic
own_within {W} {H} pic f i y x hi hy hx = rw (own_place W H i y x hi) (f.samples (y * W + x) (inside W H y x hy hx))

-- a list that holds a picture at every place is the picture's list
listed : {W H : ℕ} (s : List ℤ) (p : Picture) → 0 < W → length s ≡ W * H → Places W H (λ y x. get_or s (y * W + x) (pos 0) ≡ p y x) → s ≡ pictured W H p
unfolding picture
listed {W} {H} s p h long holds =
    ext_get_or (pos 0) s (pictured W H p) (long ∙ sym (length-pictured W H p))
    (λ i l. sym (picture_at W s i) ∙ at_index (λ y x. picture W s y x ≡ p y x) h holds i (omega (arith, long)) ∙ sym (pictured_at W H p i (omega (arith, long))))

own_slice : (W H : ℕ) (pic : List ℤ) → Places W H (λ y x. slice (own W H) pic 0 y x ≡ picture W pic y x)
unfolding picture
own_slice W H pic y x hy hx = ap (line pic) (own_place W H 0 y x (omega arith))

-- and what is left of it is document 01's
pub own_straightened : (W H : ℕ) (s : Setting) (pic pic' : List ℤ) → 0 < W → 0 < H → length pic' ≡ W * H → Straightened (own W H) s pic pic'
    → pic' ≡ straighten s.border (kernel_in s) W H (row_moves s) (column_moves s) pic
unfolding straighten
own_straightened W H s pic pic' wide high long done =
    listed pic' (straightened s.border (kernel_in s) W H (row_moves s) (column_moves s) (picture W pic)) wide long
    (λ y x hy hx.
    ap (line pic') (sym (own_place W H 0 y x (omega arith)))
    ∙ done.slices 0 y x (omega arith) hy hx
    ∙ straightened_local s.border (kernel_in s) W H (row_moves s) (column_moves s) wide high (slice (own W H) pic 0) (picture W pic) (own_slice W H pic) y x hy hx)
