-- A part of a list put back, place by place: inside the part its own places stand, and before and after it the list's. A part filled with one
-- value. Assumes nothing.
use Prim.Native.Nat.{ℕ, ◌+◌, ◌≤◌, ◌<◌}
use mathlib.Core.Path.{◌≡◌, sym, ap, ◌∙◌}
use mathlib.Core.List.{List, ◌++◌}
use native.Mathlib.Omega.{arith}
use borrow.Rule.Slice.PartMut.{put_mid}
use lib.ListN.{length, take, drop, get_or, replicate, length-replicate, get_or-replicate, get_or-append}
use lib.Seq.{length-take-le, get_or-take, get_or-drop, get_or-append-add}

module _ {A : Type 0} (a k : ℕ) (xs ys : List A) (z : A) (room : a + k ≤ length xs) (long : length ys ≡ k) where
  front : length (take a xs) ≡ a
  front = length-take-le a xs (omega arith)

  -- place a + j and on is past the front
  past : (j : ℕ) → get_or (put_mid a k xs ys) (a + j) z ≡ get_or (ys ++ drop k (drop a xs)) j z
  past j = ap (λ (i : ℕ). get_or (put_mid a k xs ys) (i + j) z) (sym front) ∙ get_or-append-add (take a xs) (ys ++ drop k (drop a xs)) j z

  pub part_before : (p : ℕ) → p < a → get_or (put_mid a k xs ys) p z ≡ get_or xs p z
  part_before p h = get_or-append (take a xs) (ys ++ drop k (drop a xs)) z p (omega (arith, front)) ∙ get_or-take a xs p z h

  pub part_in : (j : ℕ) → j < k → get_or (put_mid a k xs ys) (a + j) z ≡ get_or ys j z
  part_in j h = past j ∙ get_or-append ys (drop k (drop a xs)) z j (omega arith)

  pub part_after : (j : ℕ) → get_or (put_mid a k xs ys) (a + k + j) z ≡ get_or xs (a + k + j) z
  part_after j =
      ap (λ (i : ℕ). get_or (put_mid a k xs ys) i z) (on a k j)
      ∙ past (k + j)
      ∙ ap (λ (i : ℕ). get_or (ys ++ drop k (drop a xs)) (i + j) z) (sym long)
      ∙ get_or-append-add ys (drop k (drop a xs)) j z
      ∙ get_or-drop k (drop a xs) j z
      ∙ get_or-drop a xs (k + j) z
      ∙ ap (λ (i : ℕ). get_or xs i z) (sym (on a k j))
    where
      on : (a k j : ℕ) → a + k + j ≡ a + (k + j)
      on a k j = omega arith

-- places that were filled with one value
pub filled_at : {A : Type 0} (k : ℕ) (v : A) (xs : List A) (z : A) (j : ℕ) → j < k → get_or (replicate k v ++ xs) j z ≡ v
filled_at k v xs z j h = get_or-append (replicate k v) xs z j (omega (arith, length-replicate k v)) ∙ get_or-replicate k j v z h
