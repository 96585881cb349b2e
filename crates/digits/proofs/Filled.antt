-- A buffer filled from its own places, one after the other. Assumes nothing.
use Prim.Native.Nat.{ℕ, suc, ◌≤◌, ◌<◌}
use mathlib.Core.Path.{◌≡◌, ◌∙◌}
use mathlib.Core.List.{List, map, append-nil}
use lib.ListN.{length, take, drop, get_or, length-map, drop_of_length-le}
use lib.Seq.{drop-cons, get_or_at, take_all, length-take-le}
use Rattle.lists.proofs.Fill.{filled}

module _ {A B : Type 0} (f : A → B) where
  -- what stands at the place that is filled next is what stood there
  pub filled_next : (i : ℕ) (src : List A) (d : List B) (z : B) → i ≤ length src → i < length d → get_or (filled f i src d) i z ≡ get_or d i z
  unfolding filled
  filled_next i src d z h k =
      rw (drop-cons d i z k) (get_or_at (map f (take i src)) (get_or d i z) (drop (suc i) d) z i (length-map (take i src) f ∙ length-take-le i src h))

  -- all places filled
  pub filled_all : (n : ℕ) (src : List A) (d : List B) → length src ≤ n → length d ≤ n → filled f n src d ≡ map f src
  unfolding filled
  filled_all n src d h k = rw (take_all n src h, drop_of_length-le d k) (append-nil _)
