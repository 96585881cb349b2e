-- Slices treated where they lie, one after the other: the part of the list that begins with a slice is lent to what treats it, and comes back to its
-- place. Assumes nothing.
use Prim.Native.Nat.{ℕ, ◌+◌, ◌*◌, ◌-◌, ◌≤◌, ◌<◌}
use mathlib.Core.Path.{◌≡◌, refl, sym, ap, ◌∙◌, subst}
use mathlib.Core.List.{List}
use mathlib.Core.Logic.{⊎_elim}
use native.Mathlib.Nat.{eq-or-lt_of_le}
use native.Mathlib.Decide.{dec_le}
use native.Mathlib.Omega.{arith}
use borrow.Rule.Slice.PartMut.{put_mid, same_len_mid}
use lib.IntN.{ℤ, pos}
use lib.ListN.{length, take, drop, length-take, length-drop, get_or-eq_default}
use lib.Seq.{get_or-take, get_or-drop}
use Rattle.lists.specs.Line.{line}
use Rattle.lists.proofs.Part.{part_before, part_in}
use Rattle.lists.specs.Picture.{Picture, Places}
use Rattle.planes.specs.declared.Slices.{Slices}
use Rattle.planes.specs.Slices.{place_in, slice, Apart}
use Rattle.planes.specs.Sweep.{Treated}
use Rattle.planes.proofs.Places.{Local}

-- the first n slices
abbrev pub first_slices : ℕ → Slices → Slices
first_slices n s = record { columns = s.columns; rows = s.rows; slices = n; along = s.along; across = s.across; step = s.step }

-- slice i is what f makes of it, and no other place is touched
pub record TreatedAt (f : Picture → Picture) (s : Slices) (i : ℕ) (list list' : List ℤ) : Type 0 where
  pub here : Places s.columns s.rows (λ y x. slice s list' i y x ≡ f (slice s list i) y x)
  pub others : (p : ℕ) → Places s.columns s.rows (λ y x. p ≡ place_in s i y x → ⊥) → line list' p ≡ line list p

-- a list of one slice begins with it
pub only : (j : ℕ) → j < 1 → j ≡ 0
only j l = omega arith

pub from_first : (step q : ℕ) → 0 * step + q ≡ q
from_first step q = omega arith

pub first-place : (step j : ℕ) → j < 1 → (q : ℕ) → j * step + q ≡ q
first-place step j l q = ap (λ (n : ℕ). n * step + q) (only j l) ∙ from_first step q

-- ---- the part of the list from the first place of slice i on
module _ (s : Slices) (i : ℕ) (list : List ℤ) (lie : Apart s (length list)) (wide : 1 ≤ s.columns) (high : 1 ≤ s.rows) (hi : i < s.slices) where
  abbrev at : ℕ
  at = i * s.step

  abbrev lent : List ℤ
  lent = take (length list - at) (drop at list)

  pub begins : at ≤ length list
  begins = omega (arith, lie.inside i 0 0 hi high wide)

  pub lent_long : length lent ≡ length list - at
  lent_long = simp (length-take, length-drop) (omega (arith, begins))

  lent_at : (q : ℕ) → q < length list - at → line lent q ≡ line list (at + q)
  lent_at q l = get_or-take (length list - at) (drop at list) q (pos 0) l ∙ get_or-drop at list q (pos 0)

  near : (y x : ℕ) → y < s.rows → x < s.columns → y * s.across + x * s.along < length list - at
  near y x hy hx = omega (arith, lie.inside i y x hi hy hx)

  -- it begins with the slice, which is the only one there
  pub lent_place : Places s.columns s.rows (λ y x. line lent (y * s.across + x * s.along) ≡ slice s list i y x)
  lent_place y x hy hx = lent_at (y * s.across + x * s.along) (near y x hy hx)

  pub lent_slice : Places s.columns s.rows (λ y x. slice (first_slices 1 s) lent 0 y x ≡ slice s list i y x)
  lent_slice y x hy hx = ap (line lent) (from_first s.step (y * s.across + x * s.along)) ∙ lent_place y x hy hx

  pub lent_apart : Apart (first_slices 1 s) (length lent)
  lent_apart =
      record {
        inside = λ j y x hj hy hx. rw (lent_long, only j hj) (subst (λ (q : ℕ). q < length list - at) (sym (from_first s.step (y * s.across + x * s.along))) (near y x hy hx));
        apart = λ j j' y y' x x' hj hj' hy hy' hx hx' e.
            let a = lie.apart i i y y' x x' hi hi hy hy' hx hx' (same j j' (only j hj) (only j' hj') (y * s.across + x * s.along) (y' * s.across + x' * s.along) e) in
            (only j hj ∙ sym (only j' hj'), a.1, a.2);
      }
    where
      same : (j j' : ℕ) → j ≡ 0 → j' ≡ 0 → (q q' : ℕ) → j * s.step + q ≡ j' * s.step + q' → at + q ≡ at + q'
      same j j' ej ej' q q' e = ap (λ (n : ℕ). at + n) (sym (from_first s.step q) ∙ rw (ej, ej') at e ∙ from_first s.step q')

  -- ---- and comes back to its place
  module _ (f : Picture → Picture) (part : List ℤ) (long : length part ≡ length lent) (alone : Local s.columns s.rows f)
      (done : Treated (λ j. f) (first_slices 1 s) lent part) where
    abbrev back : List ℤ
    back = put_mid at (length list - at) list part

    back_part : (q : ℕ) → q < length list - at → line back (at + q) ≡ line part q
    back_part q l = part_in at (length list - at) list part (pos 0) (omega (arith, begins)) (long ∙ lent_long) q l

    pub treated_back : TreatedAt f s i list back
    treated_back =
        record {
          here = λ y x hy hx.
              back_part (y * s.across + x * s.along) (near y x hy hx)
              ∙ ap (line part) (sym (from_first s.step (y * s.across + x * s.along)))
              ∙ done.slices 0 y x (omega arith) hy hx
              ∙ alone (slice (first_slices 1 s) lent 0) (slice s list i) lent_slice y x hy hx;
          others = λ p none. elsewhere p none (dec_le at p);
        }
      where
        -- a place of the part that is no place of the slice
        again : (p q : ℕ) → at + q ≡ p → Places s.columns s.rows (λ y x. p ≡ place_in s i y x → ⊥) → Dec (length list - at ≤ q) → line back p ≡ line list p
        again p q e none (yes past) =
            get_or-eq_default back (pos 0) (omega (arith, same_len_mid at (length list - at) list part long)) ∙ sym (get_or-eq_default list (pos 0) (omega arith))
        again p q e none (no h) =
            ap (line back) (sym e)
            ∙ back_part q (omega arith)
            ∙ done.others q (λ j y x hj hy hx o. none y x hy hx (sym e ∙ ap (λ (n : ℕ). at + n) (o ∙ first-place s.step j hj (y * s.across + x * s.along))))
            ∙ lent_at q (omega arith)
            ∙ ap (line list) e

        elsewhere : (p : ℕ) → Places s.columns s.rows (λ y x. p ≡ place_in s i y x → ⊥) → Dec (at ≤ p) → line back p ≡ line list p
        elsewhere p none (yes h) = again p (p - at) (omega arith) none (dec_le (length list - at) (p - at))
        elsewhere p none (no h) = part_before at (length list - at) list part (pos 0) (omega (arith, begins)) (long ∙ lent_long) p (omega arith)

-- ---- one slice after the other
pub treated_none : (f : ℕ → Picture → Picture) (s : Slices) (list : List ℤ) → Treated f (first_slices 0 s) list list
treated_none f s list = record { slices = λ i y x hi hy hx. absurd (omega arith); others = λ p none. refl }

module _ (f : ℕ → Picture → Picture) (s : Slices) (n size : ℕ) (list now : List ℤ) (lie : Apart s size) (hn : n < s.slices)
    (done : Treated f (first_slices n s) list now) where
  -- a slice to come is as it was
  pub to_come : Places s.columns s.rows (λ y x. slice s now n y x ≡ slice s list n y x)
  to_come y x hy hx =
      done.others (place_in s n y x) (λ i y' x' hi hy' hx' e. apart i hi (lie.apart n i y y' x x' hn (omega arith) hy hy' hx hx' e).0)
    where
      apart : (i : ℕ) → i < n → n ≡ i → ⊥
      apart i l e = omega arith

  pub treated_more : (next : List ℤ) → Local s.columns s.rows (f n) → TreatedAt (f n) s n now next → Treated f (first_slices (n + 1) s) list next
  treated_more next alone more =
      record {
        slices = λ i y x hi hy hx. ⊎_elim (λ (e : i ≡ n). last i y x e hy hx) (λ (l : i < n). before i y x l hy hx) (eq-or-lt_of_le (below i hi));
        others = λ p none. more.others p (λ y x hy hx. none n y x (omega arith) hy hx) ∙ done.others p (λ i y x hi hy hx. none i y x (omega arith) hy hx);
      }
    where
      below : (i : ℕ) → i < n + 1 → i ≤ n
      below i l = omega arith

      last : (i y x : ℕ) → i ≡ n → y < s.rows → x < s.columns → slice s next i y x ≡ f i (slice s list i) y x
      last i y x e hy hx = rw e (more.here y x hy hx ∙ alone (slice s now n) (slice s list n) to_come y x hy hx)

      apart : (i : ℕ) → i < n → i ≡ n → ⊥
      apart i l e = omega arith

      before : (i y x : ℕ) → i < n → y < s.rows → x < s.columns → slice s next i y x ≡ f i (slice s list i) y x
      before i y x l hy hx =
          more.others (place_in s i y x) (λ y' x' hy' hx' e. apart i l (lie.apart i n y y' x x' (omega arith) hn hy hy' hx hx' e).0)
          ∙ done.slices i y x l hy hx
