-- Pictures that show the same, and pictures stored row by row. Assumes nothing.
use Prim.Native.Nat.{ℕ, ◌+◌, ◌*◌, ◌≤◌, ◌<◌}
use mathlib.Core.Path.{◌≡◌, refl, sym, ap₂, ◌∙◌}
use mathlib.Core.List.{List, ◌++◌}
use lib.IntN.{ℤ, pos}
use lib.ListN.{length, take, get_or-append}
use Rattle.lists.specs.Picture.{picture, pictured, Places}
use Rattle.lists.proofs.Tab.{tab_ext, tab-take}
use Rattle.lists.proofs.Picture.{inside, length-pictured, picture-pictured, picture_at, pictured_same}
use Rattle.arrangements.specs.Moves.{Screen, screen, stored}

-- the same size, and the same inside
pub record Same {A : Type 0} (p q : Screen A) : Type 0 where
  pub width : p.width ≡ q.width
  pub height : p.height ≡ q.height
  pub at : Places p.width p.height (λ y x. p.at y x ≡ q.at y x)

module _ {A : Type 0} where
  pub same_sym : (p q : Screen A) → Same p q → Same q p
  same_sym p q s = record { width = sym s.width; height = sym s.height; at = λ y x m l. sym (s.at y x (rw s.height m) (rw s.width l)) }

  pub same_trans : (p q r : Screen A) → Same p q → Same q r → Same p r
  same_trans p q r s t =
      record {
        width = s.width ∙ t.width;
        height = s.height ∙ t.height;
        at = λ y x m l. s.at y x m l ∙ t.at y x (rw (← s.height) m) (rw (← s.width) l);
      }

-- ---- stored row by row
pub stored-length : (p : Screen ℤ) → length (stored p) ≡ p.width * p.height
stored-length p = length-pictured p.width p.height p.at

-- what shows the same is stored alike
pub stored_same : (p q : Screen ℤ) → 0 < p.width → Same p q → stored p ≡ stored q
stored_same p q some s =
    pictured_same {W = p.width} {H = p.height} p.at q.at some s.at ∙ ap₂ (λ (w h : ℕ). pictured w h q.at) s.width s.height

-- a picture that is stored, with other places behind it, is the picture
pub screen-stored : (p : Screen ℤ) (rest : List ℤ) → Same (screen p.width p.height (stored p ++ rest)) p
unfolding picture
screen-stored p rest =
    record {
      width = refl;
      height = refl;
      at = λ y x m l.
          get_or-append (stored p) rest (pos 0) (y * p.width + x) (rw (stored-length p) (inside p.width p.height y x m l))
          ∙ picture-pictured p.width p.height p.at y x m l;
    }

-- a list that is read as a picture and stored again
pub stored-screen : (W H : ℕ) (s : List ℤ) → W * H ≤ length s → stored (screen W H s) ≡ take (W * H) s
unfolding pictured
stored-screen W H s h = tab_ext _ _ (W * H) (λ k l. picture_at W s k) ∙ tab-take s (pos 0) (W * H) h
