-- Two loops that fill a list from the front, as special cases of `Tab`'s: place i from place i of a source, and one value. Assumes nothing.
use Prim.Native.Nat.{ℕ, ◌+◌, ◌≤◌, ◌<◌}
use mathlib.Core.Path.{◌≡◌, refl, sym, ap, ◌∙◌}
use mathlib.Core.List.{List, ◌++◌, map, append-nil}
use native.Mathlib.Omega.{arith}
use lib.ListN.{length, set, take, drop, get_or, replicate, length-append, length-take, length-drop, length-map}
use lib.Seq.{drop-length}
use Rattle.lists.specs.Tab.{tab}
use Rattle.lists.proofs.Tab.{tab_more, tab-take, tab_const, tab-map}

module _ {A B : Type 0} (f : A → B) where
  -- the first n places from src, the later ones as they were
  unfoldable pub filled : ℕ → List A → List B → List B
  filled n src out = map f (take n src) ++ drop n out

  pub filled_none : (src : List A) (d : List B) → d ≡ filled 0 src d
  unfolding filled
  filled_none src d = refl

  pub filled_tab : (n : ℕ) (src : List A) (d : List B) (z : A) → n ≤ length src → filled n src d ≡ tab (λ k. f (get_or src k z)) n ++ drop n d
  unfolding filled
  filled_tab n src d z h = ap (λ (l : List B). l ++ drop n d) (ap (map f) (sym (tab-take src z n h)) ∙ tab-map f (λ k. get_or src k z) n)

  pub filled_more : (i : ℕ) (src : List A) (d : List B) (z : A) → i < length src → i < length d
      → set (filled i src d) i (f (get_or src i z)) ≡ filled (i + 1) src d
  filled_more i src d z h k =
      ap (λ (l : List B). set l i (f (get_or src i z))) (filled_tab i src d z (omega arith))
      ∙ tab_more (λ k. f (get_or src k z)) i d k
      ∙ sym (filled_tab (i + 1) src d z (omega arith))

  pub filled_length : (n : ℕ) (src : List A) (d : List B) → n ≤ length src → n ≤ length d → length (filled n src d) ≡ length d
  unfolding filled
  filled_length n src d h k = simp (length-append, length-map, length-take, length-drop) (omega arith)

-- ---- one value
pub rep_more : {A : Type 0} (n : ℕ) (v : A) (d : List A) → n < length d
    → set (replicate n v ++ drop n d) n v ≡ replicate (n + 1) v ++ drop (n + 1) d
rep_more {A} n v d l =
    ap (λ (t : List A). set (t ++ drop n d) n v) (sym (tab_const v n))
    ∙ tab_more (λ k. v) n d l
    ∙ ap (λ (t : List A). t ++ drop (n + 1) d) (tab_const v (n + 1))

pub rep_all : {A : Type 0} (v : A) (d : List A) → replicate (length d) v ++ drop (length d) d ≡ replicate (length d) v
rep_all v d = rw (drop-length d) (append-nil _)
