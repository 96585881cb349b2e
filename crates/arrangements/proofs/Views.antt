-- Every move is one of eight views: the picture's columns and rows, each counted from either end, and the two exchanged or not (`moved-viewed`); two views
-- in a row are one (`viewed_twice`). Where each sample goes is `moved_to`. First, small pictures under each of the moves, computed. Assumes nothing.
use Prim.Native.Nat.{ℕ, zero, suc, ◌*◌, ◌-◌, ◌<◌}
use mathlib.Core.Path.{◌≡◌, refl, ap, ap₂, ◌∙◌}
use mathlib.Core.Bool.{Bool, true, false, cond}
use mathlib.Core.List.{List, [], ◌∷◌, map}
use native.Mathlib.Omega.{arith}
use lib.IntN.{ℤ, pos}
use Rattle.lists.specs.Tab.{tab}
use Rattle.lists.specs.Picture.{picture, pictured}
use Rattle.arrangements.specs.Moves.{Screen, screen, stored, turns, moved}
use Rattle.arrangements.specs.Views.{facing, swaps, from_right, from_below, viewed}
use Rattle.arrangements.proofs.Facing.{differ, facing_below, facing_twice}
use Rattle.arrangements.proofs.Screens.{Same, same_sym, same_trans}

-- ---- document 01's sample picture and a picture of 2 by 3 under each of the eight moves, computed
-- rows 123, 456, 789, and rows 12, 34, 56
nine : ℕ → List ℤ
nine m = stored (moved m (screen 3 3 (map pos (1 ∷ 2 ∷ 3 ∷ 4 ∷ 5 ∷ 6 ∷ 7 ∷ 8 ∷ 9 ∷ []))))

six : ℕ → List ℤ
six m = stored (moved m (screen 2 3 (map pos (1 ∷ 2 ∷ 3 ∷ 4 ∷ 5 ∷ 6 ∷ []))))

nine_moved :
    (nine 0 ≡ map pos (1 ∷ 2 ∷ 3 ∷ 4 ∷ 5 ∷ 6 ∷ 7 ∷ 8 ∷ 9 ∷ []))
    × (nine 1 ≡ map pos (7 ∷ 4 ∷ 1 ∷ 8 ∷ 5 ∷ 2 ∷ 9 ∷ 6 ∷ 3 ∷ []))
    × (nine 2 ≡ map pos (9 ∷ 8 ∷ 7 ∷ 6 ∷ 5 ∷ 4 ∷ 3 ∷ 2 ∷ 1 ∷ []))
    × (nine 3 ≡ map pos (3 ∷ 6 ∷ 9 ∷ 2 ∷ 5 ∷ 8 ∷ 1 ∷ 4 ∷ 7 ∷ []))
    × (nine 4 ≡ map pos (3 ∷ 2 ∷ 1 ∷ 6 ∷ 5 ∷ 4 ∷ 9 ∷ 8 ∷ 7 ∷ []))
    × (nine 5 ≡ map pos (9 ∷ 6 ∷ 3 ∷ 8 ∷ 5 ∷ 2 ∷ 7 ∷ 4 ∷ 1 ∷ []))
    × (nine 6 ≡ map pos (7 ∷ 8 ∷ 9 ∷ 4 ∷ 5 ∷ 6 ∷ 1 ∷ 2 ∷ 3 ∷ []))
    × (nine 7 ≡ map pos (1 ∷ 4 ∷ 7 ∷ 2 ∷ 5 ∷ 8 ∷ 3 ∷ 6 ∷ 9 ∷ []))
unfolding nine picture pictured tab moved turns
nine_moved = (refl, refl, refl, refl, refl, refl, refl, refl)

six_moved :
    (six 0 ≡ map pos (1 ∷ 2 ∷ 3 ∷ 4 ∷ 5 ∷ 6 ∷ []))
    × (six 1 ≡ map pos (5 ∷ 3 ∷ 1 ∷ 6 ∷ 4 ∷ 2 ∷ []))
    × (six 2 ≡ map pos (6 ∷ 5 ∷ 4 ∷ 3 ∷ 2 ∷ 1 ∷ []))
    × (six 3 ≡ map pos (2 ∷ 4 ∷ 6 ∷ 1 ∷ 3 ∷ 5 ∷ []))
    × (six 4 ≡ map pos (2 ∷ 1 ∷ 4 ∷ 3 ∷ 6 ∷ 5 ∷ []))
    × (six 5 ≡ map pos (6 ∷ 4 ∷ 2 ∷ 5 ∷ 3 ∷ 1 ∷ []))
    × (six 6 ≡ map pos (5 ∷ 6 ∷ 3 ∷ 4 ∷ 1 ∷ 2 ∷ []))
    × (six 7 ≡ map pos (1 ∷ 3 ∷ 5 ∷ 2 ∷ 4 ∷ 6 ∷ []))
unfolding six picture pictured tab moved turns
six_moved = (refl, refl, refl, refl, refl, refl, refl, refl)

-- ---- eight moves, eight views
-- what holds of each of the eight moves
pub eight : (P : ℕ → Type 0) → P 0 → P 1 → P 2 → P 3 → P 4 → P 5 → P 6 → P 7 → (m : ℕ) → m < 8 → P m
eight P a b c d e f g h zero l = a
eight P a b c d e f g h (suc zero) l = b
eight P a b c d e f g h (suc (suc zero)) l = c
eight P a b c d e f g h (suc (suc (suc zero))) l = d
eight P a b c d e f g h (suc (suc (suc (suc zero)))) l = e
eight P a b c d e f g h (suc (suc (suc (suc (suc zero))))) l = f
eight P a b c d e f g h (suc (suc (suc (suc (suc (suc zero)))))) l = g
eight P a b c d e f g h (suc (suc (suc (suc (suc (suc (suc zero))))))) l = h
eight P a b c d e f g h (suc (suc (suc (suc (suc (suc (suc (suc m)))))))) l = absurd (omega arith)

-- counted from the end and again is counted from the beginning
back : (n k : ℕ) → k < n → n - 1 - (n - 1 - k) ≡ k
back n k l = facing_twice true true n k l

module _ {A : Type 0} where
  -- the view of a move
  abbrev pub view : ℕ → Screen A → Screen A
  view m p = viewed (swaps m) (from_right m) (from_below m) p

  -- ---- every move is a view
  pub moved-viewed : (p : Screen A) (m : ℕ) → m < 8 → Same (moved m p) (view m p)
  unfolding moved turns swaps from_right from_below
  moved-viewed p =
      eight (λ m. Same (moved m p) (view m p))
      (record { width = refl; height = refl; at = λ y x ly lx. refl })
      (record { width = refl; height = refl; at = λ y x ly lx. refl })
      (record { width = refl; height = refl; at = λ y x ly lx. refl })
      (record { width = refl; height = refl; at = λ y x ly lx. ap (λ (i : ℕ). p.at i (p.width - 1 - y)) (back p.height x lx) })
      (record { width = refl; height = refl; at = λ y x ly lx. refl })
      (record { width = refl; height = refl; at = λ y x ly lx. refl })
      (record { width = refl; height = refl; at = λ y x ly lx. ap (p.at (p.height - 1 - y)) (back p.width x lx) })
      (record { width = refl; height = refl; at = λ y x ly lx. ap₂ p.at (back p.height x lx) (back p.width y ly) })

  -- ---- two views in a row
  pub viewed_twice : (s s' r r' b b' : Bool) (p : Screen A)
      → Same (viewed s' r' b' (viewed s r b p)) (viewed (differ s s') (differ r (cond s b' r')) (differ b (cond s r' b')) p)
  viewed_twice false false r r' b b' p =
      record { width = refl; height = refl; at = λ y x ly lx. ap₂ p.at (facing_twice b b' p.height y ly) (facing_twice r r' p.width x lx) }
  viewed_twice false true r r' b b' p =
      record { width = refl; height = refl; at = λ y x ly lx. ap₂ p.at (facing_twice b b' p.height x lx) (facing_twice r r' p.width y ly) }
  viewed_twice true false r r' b b' p =
      record { width = refl; height = refl; at = λ y x ly lx. ap₂ p.at (facing_twice b r' p.height x lx) (facing_twice r b' p.width y ly) }
  viewed_twice true true r r' b b' p =
      record { width = refl; height = refl; at = λ y x ly lx. ap₂ p.at (facing_twice b r' p.height y ly) (facing_twice r b' p.width x lx) }

  -- what is shown in row y, column x of a view is shown in the picture
  pub viewed_from : (s r b : Bool) (p : Screen A) (P : A → Type 0) → ((y x : ℕ) → y < p.height → x < p.width → P (p.at y x))
      → (y x : ℕ) → y < (viewed s r b p).height → x < (viewed s r b p).width → P ((viewed s r b p).at y x)
  viewed_from true r b p P f y x ly lx = f (facing b p.height x) (facing r p.width y) (facing_below b p.height x lx) (facing_below r p.width y ly)
  viewed_from false r b p P f y x ly lx = f (facing b p.height y) (facing r p.width x) (facing_below b p.height y ly) (facing_below r p.width x lx)

  -- pictures that show the same, seen alike
  pub viewed_same : (s r b : Bool) (p q : Screen A) → Same p q → Same (viewed s r b p) (viewed s r b q)
  viewed_same true r b p q e =
      record {
        width = e.height;
        height = e.width;
        at = λ y x ly lx.
            e.at (facing b p.height x) (facing r p.width y) (facing_below b p.height x lx) (facing_below r p.width y ly)
            ∙ ap₂ (λ (h w : ℕ). q.at (facing b h x) (facing r w y)) e.height e.width;
      }
  viewed_same false r b p q e =
      record {
        width = e.width;
        height = e.height;
        at = λ y x ly lx.
            e.at (facing b p.height y) (facing r p.width x) (facing_below b p.height y ly) (facing_below r p.width x lx)
            ∙ ap₂ (λ (h w : ℕ). q.at (facing b h y) (facing r w x)) e.height e.width;
      }

  pub moved_same : (m : ℕ) (p q : Screen A) → m < 8 → Same p q → Same (moved m p) (moved m q)
  moved_same m p q l e =
      same_trans (moved m p) (view m p) (moved m q) (moved-viewed p m l)
      (same_trans (view m p) (view m q) (moved m q) (viewed_same (swaps m) (from_right m) (from_below m) p q e) (same_sym (moved m q) (view m q) (moved-viewed q m l)))

  -- ---- the size: each side is one of the picture's, and the number of places is kept
  viewed_sides : (s r b : Bool) (p : Screen A) (P : ℕ → Type 0) → P p.width → P p.height → P (viewed s r b p).width × P (viewed s r b p).height
  viewed_sides true r b p P w h = (h, w)
  viewed_sides false r b p P w h = (w, h)

  pub moved_sides : (p : Screen A) (m : ℕ) → m < 8 → (P : ℕ → Type 0) → P p.width → P p.height → P (moved m p).width × P (moved m p).height
  moved_sides p m l P w h =
      let s = moved-viewed p m l in
      rw (s.width, s.height) (viewed_sides (swaps m) (from_right m) (from_below m) p P w h)

  viewed_size : (s r b : Bool) (p : Screen A) → (viewed s r b p).width * (viewed s r b p).height ≡ p.width * p.height
  viewed_size true r b p = omega arith
  viewed_size false r b p = refl

  pub moved_size : (p : Screen A) (m : ℕ) → m < 8 → (moved m p).width * (moved m p).height ≡ p.width * p.height
  moved_size p m l =
      let s = moved-viewed p m l in
      ap₂ (λ (w h : ℕ). w * h) s.width s.height ∙ viewed_size (swaps m) (from_right m) (from_below m) p

  -- what is shown in a moved picture is shown in the picture
  pub moved_from : (p : Screen A) (m : ℕ) → m < 8 → (P : A → Type 0) → ((y x : ℕ) → y < p.height → x < p.width → P (p.at y x))
      → (y x : ℕ) → y < (moved m p).height → x < (moved m p).width → P ((moved m p).at y x)
  moved_from p m l P f y x ly lx =
      let s = moved-viewed p m l in
      rw (s.at y x ly lx) (viewed_from (swaps m) (from_right m) (from_below m) p P f y x (rw (← s.height) ly) (rw (← s.width) lx))

  -- the sample of row y, column x goes to this row and column of the moved picture
  pub moved_to : (p : Screen A) (y x : ℕ) → y < p.height → x < p.width
      → ((moved 0 p).at y x ≡ p.at y x)
      × ((moved 1 p).at x (p.height - 1 - y) ≡ p.at y x)
      × ((moved 2 p).at (p.height - 1 - y) (p.width - 1 - x) ≡ p.at y x)
      × ((moved 3 p).at (p.width - 1 - x) y ≡ p.at y x)
      × ((moved 4 p).at y (p.width - 1 - x) ≡ p.at y x)
      × ((moved 5 p).at (p.width - 1 - x) (p.height - 1 - y) ≡ p.at y x)
      × ((moved 6 p).at (p.height - 1 - y) x ≡ p.at y x)
      × ((moved 7 p).at x y ≡ p.at y x)
  unfolding moved turns
  moved_to p y x ly lx =
      let row = back p.height y ly in
      let column = back p.width x lx in (
        refl,
        ap (λ (i : ℕ). p.at i x) row,
        ap₂ p.at row column,
        ap₂ p.at row column,
        ap (p.at y) column,
        ap₂ p.at row column,
        ap₂ p.at row column,
        ap₂ p.at row column,
      )
