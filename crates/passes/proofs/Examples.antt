-- Small pictures straightened, computed pass by pass. Their passes overshoot below 0 and above the input, and the spline's coefficients
-- differ from pass to pass; one stands on background, and one of its columns becomes all background. The last ones are why document 02's Q-12 leaves
-- kernels out. Assumes nothing.
use mathlib.Core.Path.{◌≡◌, refl, sym, ap, ◌∙◌, subst}
use mathlib.Core.List.{List, [], ◌∷◌, map}
use Prim.Native.Nat.{ℕ, ◌≤◌, ◌<◌}
use native.Mathlib.Omega.{arith}
use lib.Dec.{lit<}
use lib.IntN.{ℤ, pos, negsuc, ◌+ℤ◌}
use lib.Signed.{◌≤ℤ◌}
use Rattle.arith.specs.Whole.{floor, remainder, round, min_ℤ}
use Rattle.arith.specs.Sum.{Σ}
use Rattle.arith.specs.Move.{fraction, whole}
use Rattle.lists.specs.Tab.{tab}
use Rattle.lists.specs.Line.{wrap, line}
use Rattle.lists.specs.Ends.{picked}
use Rattle.settings.specs.declared.Border.{Border}
use Rattle.settings.specs.declared.Border.TheVariants.{Wrapped, Background}
use Rattle.kernels.specs.declared.Kernel.{Kernel}
use Rattle.kernels.specs.declared.Kernel.TheVariants.{Keys, Spline}
use Rattle.kernels.specs.Kernel.{weigh}
use Rattle.spline.specs.Coefficients.{filter, run, u, down, back, v, scaled, coefficient}
use Rattle.moves.specs.Move.{first, mixed, source, moved}
use Rattle.moves.specs.Border.{framed, far, bordered, gone, fraction_in}
use Rattle.moves.specs.Range.{InRange, Raised, RaisedWithin}
use Rattle.lists.specs.Picture.{picture, pictured}
use Rattle.passes.specs.Picture.{shear, rows_moved, straighten}
use Rattle.passes.specs.Count.{interpolated, count}
use Rattle.passes.proofs.Stages.{rows_pass, columns_pass, straighten_stages}

-- 2 by 2, centre (0,0), A = 2,048, B = -1,024
spline_two_by_two_one : rows_pass Wrapped Spline 2 2 (shear (pos 2048) 0) (pos 100 ∷ pos 0 ∷ pos 0 ∷ negsuc 99 ∷ []) ≡ (pos 100 ∷ pos 0 ∷ negsuc 49 ∷ negsuc 49 ∷ [])
unfolding floor remainder round Σ fraction whole tab wrap weigh filter run u down back v scaled coefficient first mixed source moved bordered picture pictured rows_moved rows_pass columns_pass
spline_two_by_two_one = refl

spline_two_by_two_two : columns_pass Wrapped Spline 2 2 (shear (negsuc 1023) 0) (pos 100 ∷ pos 0 ∷ negsuc 49 ∷ negsuc 49 ∷ []) ≡ (pos 100 ∷ negsuc 7 ∷ negsuc 49 ∷ negsuc 41 ∷ [])
unfolding floor remainder round Σ fraction whole tab wrap weigh filter run u down back v scaled coefficient first mixed source moved bordered picture pictured rows_moved rows_pass columns_pass
spline_two_by_two_two = refl

spline_two_by_two_three : rows_pass Wrapped Spline 2 2 (shear (pos 2048) 0) (pos 100 ∷ negsuc 7 ∷ negsuc 49 ∷ negsuc 41 ∷ []) ≡ (pos 100 ∷ negsuc 7 ∷ negsuc 45 ∷ negsuc 45 ∷ [])
unfolding floor remainder round Σ fraction whole tab wrap weigh filter run u down back v scaled coefficient first mixed source moved bordered picture pictured rows_moved rows_pass columns_pass
spline_two_by_two_three = refl

pub spline_two_by_two : straighten Wrapped Spline 2 2 (shear (pos 2048) 0) (shear (negsuc 1023) 0) (pos 100 ∷ pos 0 ∷ pos 0 ∷ negsuc 99 ∷ []) ≡ (pos 100 ∷ negsuc 7 ∷ negsuc 45 ∷ negsuc 45 ∷ [])
spline_two_by_two =
    straighten_stages Wrapped Spline (shear (pos 2048) 0) (shear (negsuc 1023) 0) (pos 100 ∷ pos 0 ∷ pos 0 ∷ negsuc 99 ∷ []) (lit< tt) (lit< tt)
    ∙ rw (spline_two_by_two_one, spline_two_by_two_two) spline_two_by_two_three

-- 2 by 3, centre (1,0), A = -3,000, B = 2,000, samples at both ends of the range
spline_two_by_three_one : rows_pass Wrapped Spline 2 3 (shear (negsuc 2999) 0) (pos 32767 ∷ negsuc 32766 ∷ pos 0 ∷ pos 5 ∷ negsuc 4 ∷ pos 9000 ∷ []) ≡ (pos 32767 ∷ negsuc 32766 ∷ pos 4 ∷ pos 1 ∷ pos 4972 ∷ pos 4023 ∷ [])
unfolding floor remainder round Σ fraction whole tab wrap weigh filter run u down back v scaled coefficient first mixed source moved bordered picture pictured rows_moved rows_pass columns_pass
spline_two_by_three_one = refl

spline_two_by_three_two : columns_pass Wrapped Spline 2 3 (shear (pos 2000) 1) (pos 32767 ∷ negsuc 32766 ∷ pos 4 ∷ pos 1 ∷ pos 4972 ∷ pos 4023 ∷ []) ≡ (pos 19717 ∷ negsuc 32766 ∷ negsuc 5149 ∷ pos 1 ∷ pos 23176 ∷ pos 4023 ∷ [])
unfolding floor remainder round Σ fraction whole tab wrap weigh filter run u down back v scaled coefficient first mixed source moved bordered picture pictured rows_moved rows_pass columns_pass
spline_two_by_three_two = refl

spline_two_by_three_three : rows_pass Wrapped Spline 2 3 (shear (negsuc 2999) 0) (pos 19717 ∷ negsuc 32766 ∷ negsuc 5149 ∷ pos 1 ∷ pos 23176 ∷ pos 4023 ∷ []) ≡ (pos 19717 ∷ negsuc 32766 ∷ negsuc 907 ∷ negsuc 4240 ∷ pos 12591 ∷ pos 14608 ∷ [])
unfolding floor remainder round Σ fraction whole tab wrap weigh filter run u down back v scaled coefficient first mixed source moved bordered picture pictured rows_moved rows_pass columns_pass
spline_two_by_three_three = refl

pub spline_two_by_three : straighten Wrapped Spline 2 3 (shear (negsuc 2999) 0) (shear (pos 2000) 1) (pos 32767 ∷ negsuc 32766 ∷ pos 0 ∷ pos 5 ∷ negsuc 4 ∷ pos 9000 ∷ []) ≡ (pos 19717 ∷ negsuc 32766 ∷ negsuc 907 ∷ negsuc 4240 ∷ pos 12591 ∷ pos 14608 ∷ [])
spline_two_by_three =
    straighten_stages Wrapped Spline (shear (negsuc 2999) 0) (shear (pos 2000) 1) (pos 32767 ∷ negsuc 32766 ∷ pos 0 ∷ pos 5 ∷ negsuc 4 ∷ pos 9000 ∷ []) (lit< tt) (lit< tt)
    ∙ rw (spline_two_by_three_one, spline_two_by_three_two) spline_two_by_three_three

-- 3 by 2, centre (2,1), A = 1,000, B = -3,000: row 0 is counted twice, columns 0 and 1 once
pub keys_three_by_two :
    straighten Wrapped Keys 3 2 (shear (pos 1000) 1) (shear (negsuc 2999) 2) (pos 10 ∷ negsuc 19 ∷ pos 30 ∷ negsuc 39 ∷ pos 50 ∷ negsuc 59 ∷ [])
    ≡ negsuc 12 ∷ pos 43 ∷ pos 18 ∷ negsuc 16 ∷ negsuc 0 ∷ negsuc 59 ∷ []
unfolding floor remainder round Σ fraction whole tab wrap weigh first mixed source moved bordered picture pictured rows_moved straighten
keys_three_by_two = refl

pub keys_three_by_two_count : count Wrapped 3 2 (shear (pos 1000) 1) (shear (negsuc 2999) 2) ≡ 4
unfolding floor remainder fraction gone fraction_in interpolated count
keys_three_by_two_count = refl

-- 4 by 2 on background 7, centre (0,0), A = 1,000, B = 3,000: column 3 moves by 9,000/4,096 samples, over its own 2 though not over a row's 4, and
-- becomes background, which is not counted
pub keys_four_by_two :
    straighten (Background (pos 7)) Keys 4 2 (shear (pos 1000) 0) (shear (pos 3000) 0)
    (pos 10 ∷ negsuc 19 ∷ pos 30 ∷ pos 40 ∷ negsuc 39 ∷ pos 50 ∷ negsuc 59 ∷ pos 70 ∷ [])
    ≡ pos 10 ∷ negsuc 0 ∷ pos 5 ∷ pos 7 ∷ negsuc 29 ∷ negsuc 16 ∷ pos 20 ∷ pos 11 ∷ []
unfolding floor remainder round Σ fraction whole tab wrap weigh first mixed source moved framed far bordered picture pictured rows_moved straighten
keys_four_by_two = refl

pub keys_four_by_two_counts :
    map (λ (e : Border). count e 4 2 (shear (pos 1000) 0) (shear (pos 3000) 0)) (Background (pos 7) ∷ Wrapped ∷ []) ≡ 4 ∷ 5 ∷ []
unfolding floor remainder fraction far gone fraction_in interpolated count
keys_four_by_two_counts = refl

-- ---- Q-12: pictures of 2 columns, by what each pass makes of them
staged : (κ : Kernel) (H : ℕ) (rows columns : ℕ → ℤ) (s one two three : List ℤ) → 0 < H → rows_pass Wrapped κ 2 H rows s ≡ one → columns_pass Wrapped κ 2 H columns one ≡ two
    → rows_pass Wrapped κ 2 H rows two ≡ three → straighten Wrapped κ 2 H rows columns s ≡ three
staged κ H rows columns s one two three some first second third = straighten_stages Wrapped κ rows columns s (lit< tt) some ∙ rw (first, second) third

-- pass 2 moves column 1 by half a sample, and passes 1 and 3 leave all as it is
abbrev still : ℕ → ℤ
still = shear (pos 0) 0

abbrev half : ℕ → ℤ
half = shear (negsuc 2047) 0

halfway : (κ : Kernel) (H : ℕ) (s t : List ℤ) → 0 < H → rows_pass Wrapped κ 2 H still s ≡ s → columns_pass Wrapped κ 2 H half s ≡ t → rows_pass Wrapped κ 2 H still t ≡ t
    → straighten Wrapped κ 2 H still half s ≡ t
halfway κ H s t = staged κ H still half s s t t

-- Keys and the spline overshoot: -1 and -25 from samples of 0 to 16 and of 0 to 100
abbrev peak : List ℤ
peak = pos 0 ∷ pos 0 ∷ pos 0 ∷ pos 0 ∷ pos 0 ∷ pos 16 ∷ pos 0 ∷ pos 0 ∷ []

keys_peak : straighten Wrapped Keys 2 4 still half peak ≡ pos 0 ∷ negsuc 0 ∷ pos 0 ∷ pos 9 ∷ pos 0 ∷ pos 9 ∷ pos 0 ∷ negsuc 0 ∷ []
unfolding floor remainder round Σ fraction whole tab wrap weigh first mixed source moved bordered picture pictured rows_moved rows_pass columns_pass
keys_peak = halfway Keys 4 peak (pos 0 ∷ negsuc 0 ∷ pos 0 ∷ pos 9 ∷ pos 0 ∷ pos 9 ∷ pos 0 ∷ negsuc 0 ∷ []) (lit< tt) refl refl refl

pub keys_overshoots : InRange Wrapped 8 peak (straighten Wrapped Keys 2 4 still half peak) → ⊥
unfolding picked min_ℤ
keys_overshoots within = (subst (λ (t : List ℤ). pos 0 ≤ℤ line t 1) keys_peak (within 1 (lit< tt)).0).le

abbrev edge : List ℤ
edge = pos 0 ∷ pos 0 ∷ pos 0 ∷ pos 0 ∷ pos 0 ∷ pos 100 ∷ []

spline_edge : straighten Wrapped Spline 2 3 still half edge ≡ pos 0 ∷ negsuc 24 ∷ pos 0 ∷ pos 62 ∷ pos 0 ∷ pos 62 ∷ []
unfolding floor remainder round Σ fraction whole tab wrap weigh filter run u down back v scaled coefficient first mixed source moved bordered picture pictured rows_moved rows_pass columns_pass
spline_edge = halfway Spline 3 edge (pos 0 ∷ negsuc 24 ∷ pos 0 ∷ pos 62 ∷ pos 0 ∷ pos 62 ∷ []) (lit< tt) refl refl refl

pub spline_overshoots : InRange Wrapped 6 edge (straighten Wrapped Spline 2 3 still half edge) → ⊥
unfolding picked min_ℤ
spline_overshoots within = (subst (λ (t : List ℤ). pos 0 ≤ℤ line t 1) spline_edge (within 1 (lit< tt)).0).le

-- and where 1 is added to every sample, the spline adds 2 to column 1
abbrev five : List ℤ
five = pos 0 ∷ pos 5 ∷ pos 0 ∷ pos 0 ∷ []

abbrev six : List ℤ
six = pos 1 ∷ pos 6 ∷ pos 1 ∷ pos 1 ∷ []

spline_five : straighten Wrapped Spline 2 2 still half five ≡ pos 0 ∷ pos 2 ∷ pos 0 ∷ pos 2 ∷ []
unfolding floor remainder round Σ fraction whole tab wrap weigh filter run u down back v scaled coefficient first mixed source moved bordered picture pictured rows_moved rows_pass columns_pass
spline_five = halfway Spline 2 five (pos 0 ∷ pos 2 ∷ pos 0 ∷ pos 2 ∷ []) (lit< tt) refl refl refl

spline_six : straighten Wrapped Spline 2 2 still half six ≡ pos 1 ∷ pos 4 ∷ pos 1 ∷ pos 4 ∷ []
unfolding floor remainder round Σ fraction whole tab wrap weigh filter run u down back v scaled coefficient first mixed source moved bordered picture pictured rows_moved rows_pass columns_pass
spline_six = halfway Spline 2 six (pos 1 ∷ pos 4 ∷ pos 1 ∷ pos 4 ∷ []) (lit< tt) refl refl refl

pub spline_adds_not : Raised (pos 1) 4 (straighten Wrapped Spline 2 2 still half five) (straighten Wrapped Spline 2 2 still half six) → ⊥
spline_adds_not added =
    let e : pos 4 ≡ pos 3 = ap (λ (t : List ℤ). line t 1) (sym spline_six) ∙ added 1 (lit< tt) ∙ ap (λ (t : List ℤ). line t 1 +ℤ pos 1) spline_five in
    let z : ◌≡◌ {A = ℕ} 4 3 = cc in
    omega arith

-- ---- nor does the spline add 1 to within 1 unit, as it does to a line: rows and columns move by half a sample, and row 1 rises by 3
abbrev tilt : ℕ → ℤ
tilt = shear (pos 2048) 0

abbrev seven : List ℤ
seven = pos 7 ∷ pos 12 ∷ pos 9 ∷ pos 4 ∷ []

abbrev eight : List ℤ
eight = pos 8 ∷ pos 13 ∷ pos 10 ∷ pos 5 ∷ []

spline_seven : straighten Wrapped Spline 2 2 tilt tilt seven ≡ pos 7 ∷ pos 9 ∷ pos 7 ∷ pos 7 ∷ []
unfolding floor remainder round Σ fraction whole tab wrap weigh filter run u down back v scaled coefficient first mixed source moved bordered picture pictured rows_moved rows_pass columns_pass
spline_seven = staged Spline 2 tilt tilt seven (pos 7 ∷ pos 12 ∷ pos 6 ∷ pos 6 ∷ []) (pos 7 ∷ pos 9 ∷ pos 6 ∷ pos 9 ∷ []) (pos 7 ∷ pos 9 ∷ pos 7 ∷ pos 7 ∷ []) (lit< tt) refl refl refl

spline_eight : straighten Wrapped Spline 2 2 tilt tilt eight ≡ pos 8 ∷ pos 11 ∷ pos 10 ∷ pos 10 ∷ []
unfolding floor remainder round Σ fraction whole tab wrap weigh filter run u down back v scaled coefficient first mixed source moved bordered picture pictured rows_moved rows_pass columns_pass
spline_eight = staged Spline 2 tilt tilt eight (pos 8 ∷ pos 13 ∷ pos 8 ∷ pos 8 ∷ []) (pos 8 ∷ pos 11 ∷ pos 8 ∷ pos 11 ∷ []) (pos 8 ∷ pos 11 ∷ pos 10 ∷ pos 10 ∷ []) (lit< tt) refl refl refl

pub spline_past_one : RaisedWithin 1 (pos 1) 4 (straighten Wrapped Spline 2 2 tilt tilt seven) (straighten Wrapped Spline 2 2 tilt tilt eight) → ⊥
spline_past_one added = let far : 2 ≤ 1 = rw (spline_seven, spline_eight) at (added 2 (lit< tt)) in omega arith
