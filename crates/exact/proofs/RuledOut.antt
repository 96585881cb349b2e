-- What demand 3 rules out. A result that keeps it lies within 3, 4 or 20 units of the straightened picture at every place, by kernel, so that
-- on a picture of some contrast none of document 01's worthless or wrong results below keeps it. Assumes nothing.
use mathlib.Core.Path.{◌≡◌, sym, ap, ◌∙◌}
use mathlib.Core.Bool.{Bool, true, false, ◌&&◌}
use mathlib.Core.List.{List, [], ◌∷◌, map}
use Prim.Native.Nat.{ℕ, zero, suc, ◌*◌, ◌≤◌, ◌<◌}
use native.Mathlib.Nat.{mul-le-mul_right}
use native.Mathlib.Omega.{arith, by_contra}
use lib.Dec.{T, leb, leb→le, lit<}
use lib.IntN.{ℤ, pos, negsuc, nat_abs, ◌-ℤ◌, ◌*ℤ◌}
use lib.ListN.{replicate}
use lib.Signed.{◌<ℤ◌}
use Rattle.arith.specs.Whole.{floor, remainder, round, min_ℤ, max_ℤ}
use Rattle.arith.specs.Sum.{Σ}
use Rattle.arith.specs.Move.{fraction, whole}
use Rattle.arith.proofs.Bridge.{bridge, all1, all3}
use Rattle.arith.proofs.Laws.{nat_abs-*ℤ, nat_abs-swap, nat_abs_past}
use Rattle.lists.specs.Line.{line, wrap}
use Rattle.lists.specs.Tab.{tab}
use Rattle.settings.specs.declared.Border.{Border}
use Rattle.settings.specs.declared.Border.TheVariants.{Wrapped, Background}
use Rattle.kernels.specs.declared.Kernel.{Kernel}
use Rattle.kernels.specs.declared.Kernel.TheVariants.{Keys, Spline}
use Rattle.kernels.specs.Kernel.{norm, D³, weigh}
use Rattle.spline.specs.Coefficients.{filter, run, u, down, back, v, scaled, coefficient}
use Rattle.moves.specs.Move.{first, mixed, source, moved}
use Rattle.moves.specs.Border.{framed, far, bordered, grey}
use Rattle.lists.specs.Picture.{Picture, picture, pictured}
use Rattle.passes.specs.Picture.{turned, shear, rows_moved, straighten}
use Rattle.passes.proofs.Stages.{rows_pass, columns_pass}
use Rattle.passes.proofs.Examples.{keys_three_by_two, keys_four_by_two, spline_two_by_two}
use Rattle.exact.specs.Limits.{limit, Demand3}
use Rattle.exact.proofs.Demand.{straighten-demand3}

-- ---- results that keep demand 3 are close to the straightened picture
-- two whole numbers within L/2 of one fraction E/Q are within L of each other
close : (v w E Q : ℤ) (L : ℕ) → pos 0 <ℤ Q → 2 * nat_abs (v *ℤ Q -ℤ E) ≤ L * nat_abs Q → 2 * nat_abs (w *ℤ Q -ℤ E) ≤ L * nat_abs Q
    → nat_abs (v -ℤ w) ≤ L
close v w E Q L positive hv hw =
    by_contra (nat_abs (v -ℤ w)) L
    (λ far. omega (arith, mul-le-mul_right (nat_abs Q) far, size Q positive, apart, nat_abs_past (v *ℤ Q) E (w *ℤ Q), nat_abs-swap E (w *ℤ Q)))
  where
    size : (Q : ℤ) → pos 0 <ℤ Q → 1 ≤ nat_abs Q
    size = all1 _ (simp bridge (omega arith))

    spread : (v w Q : ℤ) → (v -ℤ w) *ℤ Q ≡ v *ℤ Q -ℤ w *ℤ Q
    spread = all3 _ (simp bridge (omega arith))

    apart : nat_abs (v -ℤ w) * nat_abs Q ≡ nat_abs (v *ℤ Q -ℤ w *ℤ Q)
    apart = sym (nat_abs-*ℤ (v -ℤ w) Q) ∙ ap nat_abs (spread v w Q)

pub demand3-close : (β : Border) (κ : Kernel) (W H : ℕ) (rows columns : ℕ → ℤ) (s v : List ℤ)
    → 0 < W
    → 0 < H
    → nat_abs (grey β) ≤ 32767
    → ((i : ℕ) → i < W * H → nat_abs (line s i) ≤ 32767)
    → Demand3 β κ W H rows columns s v
    → (i : ℕ) → i < W * H → nat_abs (line v i -ℤ line (straighten β κ W H rows columns s) i) ≤ limit κ
demand3-close β κ W H rows columns s v hW hH plain range kept i l =
    let ours = straighten-demand3 β κ W H rows columns s hW hH plain range in
    close (line v i) (line (straighten β κ W H rows columns s) i) (line ours.E i) ours.Q (limit κ) ours.exact.exact.third.positive (kept.near ours.exact i l) (ours.near ours.exact i l)

-- ---- the samples of a list are in range, by a computed test
abbrev small : List ℤ → Bool
small [] = true
small (x ∷ s) = leb (nat_abs x) 32767 && small s

both : (a b : Bool) → T (a && b) → T a × T b
both true b t = (tt, t)
both false b t = absurd t

in_range : (s : List ℤ) → T (small s) → (i : ℕ) → nat_abs (line s i) ≤ 32767
in_range [] t i = omega arith
in_range (x ∷ s) t zero = leb→le (nat_abs x) 32767 (both (leb (nat_abs x) 32767) (small s) t).0
in_range (x ∷ s) t (suc i) = in_range s (both (leb (nat_abs x) 32767) (small s) t).1 i

-- ---- Keys, 3 by 2, rows 10 -20 30 and -40 50 -60, centre (2,1), A = 1,000, B = -3,000: straightened, -13 43 18 and -17 -1 -60
abbrev samples : List ℤ
samples = pos 10 ∷ negsuc 19 ∷ pos 30 ∷ negsuc 39 ∷ pos 50 ∷ negsuc 59 ∷ []

abbrev rows : ℕ → ℤ
rows = shear (pos 1000) 1

abbrev columns : ℕ → ℤ
columns = shear (negsuc 2999) 2

keys_close : (v : List ℤ) → Demand3 Wrapped Keys 3 2 rows columns samples v → (i : ℕ) → i < 6
    → nat_abs (line v i -ℤ line (negsuc 12 ∷ pos 43 ∷ pos 18 ∷ negsuc 16 ∷ negsuc 0 ∷ negsuc 59 ∷ []) i) ≤ 4
keys_close v kept i l = rw keys_three_by_two at (demand3-close Wrapped Keys 3 2 rows columns samples v (lit< tt) (lit< tt) (omega arith) (λ i l. in_range samples tt i) kept i l)

-- the picture handed back unturned
pub unturned_ruled_out : Demand3 Wrapped Keys 3 2 rows columns samples samples → ⊥
unturned_ruled_out kept = let far : 23 ≤ 4 = keys_close samples kept 0 (lit< tt) in omega arith

-- sheared in pass 1, copied in passes 2 and 3
pub copied_ruled_out : Demand3 Wrapped Keys 3 2 rows columns samples (rows_pass Wrapped Keys 3 2 rows samples) → ⊥
unfolding floor remainder round Σ fraction whole tab wrap weigh first mixed source moved bordered picture pictured rows_moved rows_pass
copied_ruled_out kept = let far : 23 ≤ 4 = keys_close (rows_pass Wrapped Keys 3 2 rows samples) kept 3 (lit< tt) in omega arith

-- a flat grey
pub flat_ruled_out : (g : ℤ) → Demand3 Wrapped Keys 3 2 rows columns samples (replicate 6 g) → ⊥
flat_ruled_out g kept = apart g (keys_close (replicate 6 g) kept 1 (lit< tt)) (keys_close (replicate 6 g) kept 2 (lit< tt))
  where
    apart : (g : ℤ) → nat_abs (g -ℤ pos 43) ≤ 4 → nat_abs (g -ℤ pos 18) ≤ 4 → ⊥
    apart = all1 _ (simp bridge (omega arith))

-- samples held to 0 to 255 greys between passes
abbrev hold : ℤ → ℤ
hold x = max_ℤ (pos 0) (min_ℤ x (pos 32640))

abbrev held_between : List ℤ
held_between = rows_pass Wrapped Keys 3 2 rows (map hold (columns_pass Wrapped Keys 3 2 columns (map hold (rows_pass Wrapped Keys 3 2 rows samples))))

pub held_ruled_out : Demand3 Wrapped Keys 3 2 rows columns samples held_between → ⊥
unfolding floor remainder round min_ℤ max_ℤ Σ fraction whole tab wrap weigh first mixed source moved bordered picture pictured rows_moved rows_pass columns_pass
held_ruled_out kept = let far : 60 ≤ 4 = keys_close held_between kept 5 (lit< tt) in omega arith

-- ---- Keys, 4 by 2 on background 7, rows 10 -20 30 40 and -40 50 -60 70, centre (0,0), A = 1,000, B = 3,000: straightened, 10 -1 5 7 and -30 -17 20 11
abbrev screen : List ℤ
screen = pos 10 ∷ negsuc 19 ∷ pos 30 ∷ pos 40 ∷ negsuc 39 ∷ pos 50 ∷ negsuc 59 ∷ pos 70 ∷ []

abbrev screen_rows : ℕ → ℤ
screen_rows = shear (pos 1000) 0

abbrev screen_columns : ℕ → ℤ
screen_columns = shear (pos 3000) 0

background_close : (v : List ℤ) → Demand3 (Background (pos 7)) Keys 4 2 screen_rows screen_columns screen v → (i : ℕ) → i < 8
    → nat_abs (line v i -ℤ line (pos 10 ∷ negsuc 0 ∷ pos 5 ∷ pos 7 ∷ negsuc 29 ∷ negsuc 16 ∷ pos 20 ∷ pos 11 ∷ []) i) ≤ 4
background_close v kept i l =
    rw keys_four_by_two at (demand3-close (Background (pos 7)) Keys 4 2 screen_rows screen_columns screen v (lit< tt) (lit< tt) (omega arith) (λ i l. in_range screen tt i) kept i l)

-- edges wrapped in every pass, where a background is set
abbrev wrapped_edges : List ℤ
wrapped_edges = straighten Wrapped Keys 4 2 screen_rows screen_columns screen

pub wrapped_ruled_out : Demand3 (Background (pos 7)) Keys 4 2 screen_rows screen_columns screen wrapped_edges → ⊥
unfolding floor remainder round Σ fraction whole tab wrap weigh first mixed source moved bordered picture pictured rows_moved straighten
wrapped_ruled_out kept = let far : 28 ≤ 4 = background_close wrapped_edges kept 1 (lit< tt) in omega arith

-- and in pass 2 alone
abbrev wrapped_columns : List ℤ
wrapped_columns =
    rows_pass (Background (pos 7)) Keys 4 2 screen_rows (columns_pass Wrapped Keys 4 2 screen_columns (rows_pass (Background (pos 7)) Keys 4 2 screen_rows screen))

pub wrapped_columns_ruled_out : Demand3 (Background (pos 7)) Keys 4 2 screen_rows screen_columns screen wrapped_columns → ⊥
unfolding floor remainder round Σ fraction whole tab wrap weigh first mixed source moved framed far bordered picture pictured rows_moved rows_pass columns_pass
wrapped_columns_ruled_out kept = let far : 30 ≤ 4 = background_close wrapped_columns kept 1 (lit< tt) in omega arith

-- ---- spline, 2 by 2, rows 100 0 and 0 -100, centre (0,0), A = 2,048, B = -1,024: straightened, 100 -8 and -46 -46.
-- One prefilter for all passes: passes 2 and 3 weigh the samples as they are
abbrev unfiltered : (ℕ → ℤ) → Picture → Picture
unfiltered move p y k = round (mixed Spline 2 (move y) (wrap 2 (p y)) k) (norm Spline * D³)

abbrev corners : List ℤ
corners = pos 100 ∷ pos 0 ∷ pos 0 ∷ negsuc 99 ∷ []

abbrev one_prefilter : List ℤ
one_prefilter = pictured 2 2 (unfiltered (shear (pos 2048) 0) (turned (unfiltered (shear (negsuc 1023) 0) (turned (picture 2 (rows_pass Wrapped Spline 2 2 (shear (pos 2048) 0) corners))))))

spline_close : (v : List ℤ) → Demand3 Wrapped Spline 2 2 (shear (pos 2048) 0) (shear (negsuc 1023) 0) corners v → (i : ℕ) → i < 4
    → nat_abs (line v i -ℤ line (pos 100 ∷ negsuc 7 ∷ negsuc 45 ∷ negsuc 45 ∷ []) i) ≤ 20
spline_close v kept i l =
    rw spline_two_by_two at (demand3-close Wrapped Spline 2 2 (shear (pos 2048) 0) (shear (negsuc 1023) 0) corners v (lit< tt) (lit< tt) (omega arith) (λ i l. in_range corners tt i) kept i l)

pub one_prefilter_ruled_out : Demand3 Wrapped Spline 2 2 (shear (pos 2048) 0) (shear (negsuc 1023) 0) corners one_prefilter → ⊥
unfolding floor remainder round Σ fraction whole tab wrap weigh filter run u down back v scaled coefficient first mixed source moved bordered picture pictured rows_moved rows_pass
one_prefilter_ruled_out kept = let far : 73 ≤ 20 = spline_close one_prefilter kept 0 (lit< tt) in omega arith
