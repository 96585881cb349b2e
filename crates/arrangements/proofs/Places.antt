-- A moved picture is the picture read through `source` (`moved-through`), and that is a bijection of the places 0 to W·H - 1, so that every sample has exactly
-- one place in it (`moved_bijection`). A move does not look at what stands in a picture (`moved-map`), so it moves the places' own numbers alike.
-- Assumes nothing.
use Prim.Native.Nat.{ℕ, zero, suc, ◌*◌, ◌-◌, ◌/◌, ◌%◌, ◌≤◌, ◌<◌}
use mathlib.Core.Path.{◌≡◌, refl, sym, ap, ap₂, ◌∙◌, subst}
use mathlib.Core.Bool.{Bool, true, false, cond}
use mathlib.Core.List.{List}
use native.Mathlib.Nat.{div-add-mod', div-lt_iff_lt-mul, mod-lt}
use native.Mathlib.Omega.{arith}
use lib.Arith.{digits_div, digits_mod}
use lib.Dec.{ltb}
use lib.IntN.{ℤ}
use Rattle.lists.specs.Tab.{tab}
use Rattle.lists.specs.Line.{line}
use Rattle.lists.specs.Picture.{picture, pictured}
use Rattle.lists.proofs.Picture.{inside}
use Rattle.arrangements.specs.Places.{through, Bijection}
use Rattle.arrangements.specs.Moves.{Screen, screen, stored, clockwise, mirrored, turns, moved, numbered, source}
use Rattle.arrangements.specs.Table.{inverse_of}
use Rattle.arrangements.proofs.Screens.{Same, same_trans}
use Rattle.arrangements.proofs.Views.{moved_same, moved_sides, moved_size, moved_from}
use Rattle.arrangements.proofs.Table.{inverse, moved_undone}

-- ---- a move does not look at what stands in the picture
module _ {A B : Type 0} (f : A → B) where
  -- f of what stands in each place
  abbrev pub mapped : Screen A → Screen B
  mapped p = record { width = p.width; height = p.height; at = λ y x. f (p.at y x) }

  turns-map : (n : ℕ) (p : Screen A) → turns n (mapped p) ≡ mapped (turns n p)
  unfolding turns
  turns-map zero p = refl
  turns-map (suc n) p = ap clockwise (turns-map n p)

  either : (t : Bool) (p q : Screen A) → cond t (mapped p) (mapped q) ≡ mapped (cond t p q)
  either true p q = refl
  either false p q = refl

  pub moved-map : (m : ℕ) (p : Screen A) → moved m (mapped p) ≡ mapped (moved m p)
  unfolding moved
  moved-map m p =
      ap₂ (λ (a b : Screen B). cond (ltb m 4) a b) (turns-map m p) (turns-map (m - 4) (mirrored p)) ∙ either (ltb m 4) (turns m p) (turns (m - 4) (mirrored p))

-- ---- a moved picture, read through places
module _ (W H m : ℕ) (s : List ℤ) where
  -- the picture is what stands in the places that its places name
  moved-screen : moved m (screen W H s) ≡ mapped (line s) (moved m (numbered W H))
  unfolding picture
  moved-screen = moved-map (line s) m (numbered W H)

  -- its size is that of the places
  pub source_width : (moved m (numbered W H)).width ≡ (moved m (screen W H s)).width
  source_width = ap (λ (p : Screen ℤ). p.width) (sym moved-screen)

  pub source_height : (moved m (numbered W H)).height ≡ (moved m (screen W H s)).height
  source_height = ap (λ (p : Screen ℤ). p.height) (sym moved-screen)

  pub moved-through : m < 8 → stored (moved m (screen W H s)) ≡ through (source W H m) (W * H) s
  unfolding pictured through
  moved-through l =
      ap stored moved-screen
      ∙ ap (tab (λ k. line s (source W H m k))) (moved_size (numbered W H) m l)

-- ---- every sample has exactly one place
module _ (W H m : ℕ) (l : m < 8) (wide : 1 ≤ W) (tall : 1 ≤ H) where
  abbrev p : Screen ℕ
  p = numbered W H

  abbrev w : ℕ
  w = (moved m p).width

  abbrev h : ℕ
  h = (moved m p).height

  sides : (1 ≤ w) × (1 ≤ h)
  sides = moved_sides p m l (λ n. 1 ≤ n) wide tall

  size : w * h ≡ W * H
  size = moved_size p m l

  -- row and column of a place
  row_below : (k : ℕ) → k < W * H → k / w < h
  row_below k lk = (div-lt_iff_lt-mul sides.0).1 (omega (arith, size))

  pub source_below : (k : ℕ) → k < W * H → source W H m k < W * H
  source_below k lk = moved_from p m l (λ n. n < W * H) (λ y x ly lx. inside W H y x ly lx) (k / w) (k % w) (row_below k lk) (mod-lt k sides.0)

  -- ---- and back again
  abbrev i : ℕ
  i = inverse_of m

  known : i < 8
  known = (inverse m l).known

  -- a place of the moved picture, and the place that it comes from
  again : Screen ℕ
  again = moved i (mapped (source W H m) (numbered w h))

  again_same : Same again p
  unfolding again
  again_same =
      same_trans again (moved i (moved m p)) p (moved_same i (mapped (source W H m) (numbered w h)) (moved m p) known numbers) (moved_undone m l p).0
    where
      numbers : Same (mapped (source W H m) (numbered w h)) (moved m p)
      numbers = record { width = refl; height = refl; at = λ y x ly lx. ap₂ (moved m p).at (digits_div y lx) (digits_mod y lx) }

  pub source_redone : (k : ℕ) → k < W * H → source W H m (source w h i k) ≡ k
  unfolding again
  source_redone k lk =
      ap (λ (s : Screen ℕ). s.at (k / s.width) (k % s.width)) (sym (moved-map (source W H m) i (numbered w h)))
      ∙ again_same.at (k / again.width) (k % again.width) ((div-lt_iff_lt-mul some).1 (rw (again_same.width, again_same.height) (omega arith))) (mod-lt k some)
      ∙ rw again_same.width (div-add-mod' k W)
    where
      some : 0 < again.width
      some = rw again_same.width wide

  -- the size that it began with
  pub back_sides : ((moved i (numbered w h)).width ≡ W) × ((moved i (numbered w h)).height ≡ H)
  unfolding again
  back_sides =
      let e = sym (moved-map (source W H m) i (numbered w h)) in
      (ap (λ (s : Screen ℕ). s.width) e ∙ again_same.width, ap (λ (s : Screen ℕ). s.height) e ∙ again_same.height)

pub moved_bijection : (W H m : ℕ) → m < 8 → 1 ≤ W → 1 ≤ H
    → let p = moved m (numbered W H) in Bijection (W * H) (source W H m) (source p.width p.height (inverse_of m))
moved_bijection W H m l wide tall =
    let p = moved m (numbered W H) in
    let i = inverse_of m in
    let li = (inverse m l).known in
    let some = sides W H m l wide tall in
    let same = size W H m l wide tall in
    let b = back_sides W H m l wide tall in
    let many : (k : ℕ) → k < W * H → k < p.width * p.height = λ k lk. subst (λ (n : ℕ). k < n) (sym same) lk in
    record {
      there = source_below W H m l wide tall;
      back = λ k lk. subst (λ (n : ℕ). source p.width p.height i k < n) same (source_below p.width p.height i li some.0 some.1 k (many k lk));
      undone = λ k lk.
          ap (source p.width p.height i)
          (sym (ap₂ (λ (a b : ℕ). source a b (inverse_of i) k) b.0 b.1 ∙ ap (λ (c : ℕ). source W H c k) (inverse m l).again))
          ∙ source_redone p.width p.height i li some.0 some.1 k (many k lk);
      redone = source_redone W H m l wide tall;
    }
