-- Lines worked out by the checker: the range with the background among its samples, a number added to both, and why document 02's Q-12 leaves kernels
-- out. Keys and the spline overshoot; to a line moved under the spline a number is not added, since its coefficients are rounded. Assumes nothing.
use mathlib.Core.Path.{◌≡◌, refl, sym, ap, ◌∙◌, subst}
use mathlib.Core.List.{List, [], ◌∷◌, map}
use Prim.Native.Nat.{ℕ, zero, suc}
use native.Mathlib.Omega.{arith}
use lib.Dec.{lit<}
use lib.IntN.{ℤ, pos, negsuc, ◌+ℤ◌}
use lib.Signed.{◌≤ℤ◌}
use Rattle.arith.specs.Whole.{floor, remainder, round, min_ℤ, max_ℤ}
use Rattle.arith.specs.Sum.{Σ}
use Rattle.arith.specs.Move.{fraction, whole}
use Rattle.lists.specs.Tab.{tab}
use Rattle.lists.specs.Line.{wrap, line}
use Rattle.lists.specs.Ends.{picked}
use Rattle.settings.specs.declared.Border.{Border}
use Rattle.settings.specs.declared.Border.TheVariants.{Wrapped, Background}
use Rattle.kernels.specs.declared.Kernel.TheVariants.{Linear, Keys, Spline}
use Rattle.kernels.specs.Kernel.{weigh}
use Rattle.spline.specs.Coefficients.{filter, run, u, down, back, v, scaled, coefficient}
use Rattle.moves.specs.Move.{first, mixed, source, moved}
use Rattle.moves.specs.Border.{framed, far, bordered, move_in}
use Rattle.moves.specs.Range.{lowest, highest, InRange, raised, Raised, KeepsRange, Adds}

-- ---- the background
-- samples 3 and 10 wrapped, and on a background below, between and above them
abbrev pair : List ℤ
pair = pos 3 ∷ pos 10 ∷ []

ranges :
    map (λ (β : Border). lowest β 2 pair ∷ highest β 2 pair ∷ []) (Wrapped ∷ Background (negsuc 4) ∷ Background (pos 7) ∷ Background (pos 100) ∷ [])
    ≡ (pos 3 ∷ pos 10 ∷ []) ∷ (negsuc 4 ∷ pos 10 ∷ []) ∷ (pos 3 ∷ pos 10 ∷ []) ∷ (pos 3 ∷ pos 100 ∷ []) ∷ []
unfolding picked min_ℤ max_ℤ
ranges = refl

-- moved by half a sample on background 100, a line takes half of it: the range of the samples alone is left under linear too
abbrev two : List ℤ
two = pos 0 ∷ pos 10 ∷ []

two_moved : move_in (Background (pos 100)) Linear (pos 2048) two ≡ pos 50 ∷ pos 5 ∷ []
unfolding floor remainder round Σ fraction whole tab wrap weigh first mixed source moved framed far bordered move_in
two_moved = refl

pub samples_alone_left : InRange Wrapped 2 two (move_in (Background (pos 100)) Linear (pos 2048) two) → ⊥
unfolding picked min_ℤ max_ℤ
samples_alone_left within = (subst (λ (t : List ℤ). line t 0 ≤ℤ pos 10) two_moved (within 0 (lit< tt)).1).le

-- with 10 added to the samples and to the background, 10 is added to the moved line; with the background left at 100, 5 to its first sample
abbrev two_raised : List ℤ
two_raised = pos 10 ∷ pos 20 ∷ []

two_raised_moved :
    map (λ (β : Border). move_in β Linear (pos 2048) two_raised) (raised (pos 10) (Background (pos 100)) ∷ Background (pos 100) ∷ [])
    ≡ (pos 60 ∷ pos 15 ∷ []) ∷ (pos 55 ∷ pos 15 ∷ []) ∷ []
unfolding floor remainder round Σ fraction whole tab wrap weigh first mixed source moved framed far bordered move_in
two_raised_moved = refl

-- ---- overshoot: half-way between samples, Keys takes -1/16 of the second nearest on each side
abbrev peak : List ℤ
peak = pos 0 ∷ pos 0 ∷ pos 16 ∷ pos 0 ∷ []

keys_peak : move_in Wrapped Keys (negsuc 2047) peak ≡ negsuc 0 ∷ pos 9 ∷ pos 9 ∷ negsuc 0 ∷ []
unfolding floor remainder round Σ fraction whole tab wrap weigh first mixed source moved bordered move_in
keys_peak = refl

pub keys_overshoots : KeepsRange Keys → ⊥
unfolding picked min_ℤ
keys_overshoots keeps = (subst (λ (t : List ℤ). pos 0 ≤ℤ line t 0) keys_peak (keeps Wrapped (negsuc 2047) peak 0 (lit< tt)).0).le

abbrev edge : List ℤ
edge = pos 0 ∷ pos 0 ∷ pos 100 ∷ []

spline_edge : move_in Wrapped Spline (pos 2048) edge ≡ pos 62 ∷ negsuc 24 ∷ pos 62 ∷ []
unfolding floor remainder round Σ fraction whole tab wrap weigh filter run u down back v scaled coefficient first mixed source moved bordered move_in
spline_edge = refl

pub spline_overshoots : KeepsRange Spline → ⊥
unfolding picked min_ℤ
spline_overshoots keeps = (subst (λ (t : List ℤ). pos 0 ≤ℤ line t 1) spline_edge (keeps Wrapped (pos 2048) edge 1 (lit< tt)).0).le

-- ---- a number added under the spline: half-way between 5 and 0 lies 5/2, and half-way between 6 and 1 lies 7/2; the coefficients' rounding takes the
-- one to 2 and the other to 4
abbrev five : List ℤ
five = pos 5 ∷ pos 0 ∷ []

abbrev six : List ℤ
six = pos 6 ∷ pos 1 ∷ []

spline_five : move_in Wrapped Spline (pos 2048) five ≡ pos 2 ∷ pos 2 ∷ []
unfolding floor remainder round Σ fraction whole tab wrap weigh filter run u down back v scaled coefficient first mixed source moved bordered move_in
spline_five = refl

spline_six : move_in Wrapped Spline (pos 2048) six ≡ pos 4 ∷ pos 4 ∷ []
unfolding floor remainder round Σ fraction whole tab wrap weigh filter run u down back v scaled coefficient first mixed source moved bordered move_in
spline_six = refl

one_added : Raised (pos 1) 2 five six
one_added zero l = refl
one_added (suc zero) l = refl
one_added (suc (suc k)) l = absurd (omega arith)

pub spline_adds_not : Adds Spline → ⊥
spline_adds_not adds =
    let e : pos 4 ≡ pos 3 =
    ap (λ (t : List ℤ). line t 0) (sym spline_six)
    ∙ adds (pos 1) Wrapped (pos 2048) five six refl one_added 0 (lit< tt)
    ∙ ap (λ (t : List ℤ). line t 0 +ℤ pos 1) spline_five in
    let z : ◌≡◌ {A = ℕ} 4 3 = cc in
    omega arith
