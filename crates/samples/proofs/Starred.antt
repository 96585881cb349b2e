-- One computed test over all rows of a list, and the statement of each row that follows from it. Assumes nothing.
use mathlib.Core.Path.{◌≡◌, refl, ap, ap₂}
use mathlib.Core.Bool.{Bool, true, false, ◌&&◌}
use mathlib.Core.List.{List, [], ◌∷◌}
use Prim.Native.Nat.{ℕ, zero, suc, ◌<◌}
use native.Mathlib.Nat.{not-suc-le-zero, le_of_suc-le-suc}
use lib.Dec.{T, eqb, eqb→eq}
use lib.IntN.{ℤ, pos, negsuc}
use lib.ListN.{length, get_or}
use Rattle.arith.specs.Whole.{floor, remainder, round}
use Rattle.arith.specs.Sum.{Σ}
use Rattle.arith.specs.Move.{fraction, whole}
use Rattle.lists.specs.Tab.{tab}
use Rattle.lists.specs.Line.{wrap}
use Rattle.settings.specs.declared.Border.TheVariants.{Wrapped}
use Rattle.kernels.specs.declared.Kernel.TheVariants.{Linear}
use Rattle.kernels.specs.Kernel.{weigh}
use Rattle.spline.specs.Coefficients.{filter, run, u, down, back, v, scaled, coefficient}
use Rattle.moves.specs.Move.{first, mixed, source, moved, move}
use Rattle.moves.specs.Border.{framed, far, bordered, move_in, gone, fraction_in}
use Rattle.lists.specs.Picture.{picture, pictured}
use Rattle.passes.specs.Picture.{shear, rows_moved, straighten}
use Rattle.passes.specs.Count.{interpolated, count}
use Rattle.samples.specs.Starred as S
use Rattle.samples.specs.Starred.{Row, Carried, starred}
use Rattle.samples.specs.Further.{further}
use Rattle.samples.specs.Edges.{edges}

-- ---- tests of equality
abbrev same : ℤ → ℤ → Bool
same (pos m) (pos n) = eqb m n
same (pos m) (negsuc n) = false
same (negsuc m) (pos n) = false
same (negsuc m) (negsuc n) = eqb m n

abbrev sames : List ℤ → List ℤ → Bool
sames [] [] = true
sames [] (y ∷ t) = false
sames (x ∷ s) [] = false
sames (x ∷ s) (y ∷ t) = same x y && sames s t

both : (a b : Bool) → T (a && b) → T a × T b
both true b t = (tt, t)
both false b t = absurd t

same_is : (x y : ℤ) → T (same x y) → x ≡ y
same_is (pos m) (pos n) t = ap pos (eqb→eq m n t)
same_is (pos m) (negsuc n) t = absurd t
same_is (negsuc m) (pos n) t = absurd t
same_is (negsuc m) (negsuc n) t = ap negsuc (eqb→eq m n t)

sames_are : (s t : List ℤ) → T (sames s t) → s ≡ t
sames_are [] [] e = refl
sames_are [] (y ∷ t) e = absurd e
sames_are (x ∷ s) [] e = absurd e
sames_are (x ∷ s) (y ∷ t) e = let (a, b) = both (same x y) (sames s t) e in ap₂ ◌∷◌ (same_is x y a) (sames_are s t b)

-- ---- the test of a row, and of all
abbrev test : Row → Bool
test (S.line κ d s t) = sames (move κ d s) t
test (S.picture κ W H cx cy A B s t n) =
    sames (straighten Wrapped κ W H (shear A cy) (shear B cx) s) t && eqb (count Wrapped W H (shear A cy) (shear B cx)) n
test (S.bordered_line β κ d s t) = sames (move_in β κ d s) t
test (S.bordered_picture β κ W H cx cy A B s t n) =
    sames (straighten β κ W H (shear A cy) (shear B cx) s) t && eqb (count β W H (shear A cy) (shear B cx)) n

test_carries : (r : Row) → T (test r) → Carried r
test_carries (S.line κ d s t) e = sames_are (move κ d s) t e
test_carries (S.picture κ W H cx cy A B s t n) e =
    let (a, b) = both (sames (straighten Wrapped κ W H (shear A cy) (shear B cx) s) t) (eqb (count Wrapped W H (shear A cy) (shear B cx)) n) e in
    (sames_are (straighten Wrapped κ W H (shear A cy) (shear B cx) s) t a, eqb→eq (count Wrapped W H (shear A cy) (shear B cx)) n b)
test_carries (S.bordered_line β κ d s t) e = sames_are (move_in β κ d s) t e
test_carries (S.bordered_picture β κ W H cx cy A B s t n) e =
    let (a, b) = both (sames (straighten β κ W H (shear A cy) (shear B cx) s) t) (eqb (count β W H (shear A cy) (shear B cx)) n) e in
    (sames_are (straighten β κ W H (shear A cy) (shear B cx) s) t a, eqb→eq (count β W H (shear A cy) (shear B cx)) n b)

abbrev all : List Row → Bool
all [] = true
all (r ∷ rs) = test r && all rs

each : (rs : List Row) → T (all rs) → (k : ℕ) → k < length rs → (z : Row) → Carried (get_or rs k z)
each [] t k l z = absurd (not-suc-le-zero l)
each (r ∷ rs) t zero l z = test_carries r (both (test r) (all rs) t).0
each (r ∷ rs) t (suc k) l z = each rs (both (test r) (all rs) t).1 k (le_of_suc-le-suc l) z

-- the one computation over the starred rows, and the one over ours
all_pass : T (all starred)
unfolding floor remainder round Σ fraction whole tab wrap weigh filter run u down back v scaled coefficient first mixed source moved move framed far bordered move_in gone fraction_in picture pictured rows_moved straighten interpolated count
all_pass = tt

further-pass : T (all further)
unfolding floor remainder round Σ fraction whole tab wrap weigh filter run u down back v scaled coefficient first mixed source moved move framed far bordered move_in gone fraction_in picture pictured rows_moved straighten interpolated count
further-pass = tt

edges-pass : T (all edges)
unfolding floor remainder round Σ fraction whole tab wrap weigh filter run u down back v scaled coefficient first mixed source moved move framed far bordered move_in gone fraction_in picture pictured rows_moved straighten interpolated count
edges-pass = tt

-- the rules carry each starred row's input to its output
pub starred_carried : (k : ℕ) → k < length starred → Carried (get_or starred k (S.line Linear (pos 0) [] []))
starred_carried k l = each starred all_pass k l (S.line Linear (pos 0) [] [])

pub further_carried : (k : ℕ) → k < length further → Carried (get_or further k (S.line Linear (pos 0) [] []))
further_carried k l = each further further-pass k l (S.line Linear (pos 0) [] [])

pub edges_carried : (k : ℕ) → k < length edges → Carried (get_or edges k (S.line Linear (pos 0) [] []))
edges_carried k l = each edges edges-pass k l (S.line Linear (pos 0) [] [])
