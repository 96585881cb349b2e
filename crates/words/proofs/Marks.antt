-- Bytes marked in a word by bit 7: whether any is, and which is the first. Assumes nothing.
use Prim.Native.Nat.{ℕ, zero, suc, ◌+◌, ◌*◌, ◌/◌, ◌%◌, ◌^◌}
use mathlib.Core.Bool.{Bool, true, false, ◌&&◌, cond}
use mathlib.Core.List.{List, [], ◌∷◌}
use mathlib.Core.Path.{◌≡◌, refl, ap, ap₂, ◌∙◌}
use native.Mathlib.Nat.{suc-add, zero-add, mul-one}
use native.Mathlib.Omega.{arith}
use borrow.Author.Tests.{eqb-true, eqb-false, eq-eqb, ne_eqb}
use lib.Bits.{shifted_half, shifted_even}
use lib.Count.{count_trailing_zeros}
use lib.Dec.{eqb}
use lib.ListN.{length}

-- the mark of a byte: 128 where it fails the test p
abbrev pub mark : (ℕ → Bool) → ℕ → ℕ
mark p b = cond (p b) 0 128

-- the marks of some bytes, in a word
unfoldable pub marks : (ℕ → Bool) → List ℕ → ℕ
marks p [] = 0
marks p (b ∷ bs) = marks p bs * 256 + mark p b

-- there is no mark exactly where each byte passes
pub unmarked : (p : ℕ → Bool) (b : ℕ) (bs : List ℕ) → eqb (marks p (b ∷ bs)) 0 ≡ (p b && eqb (marks p bs) 0)
unfolding marks
unmarked p b bs = by (p b) (eqb (marks p bs) 0) refl
  where
    by : (s t : Bool) → eqb (marks p bs) 0 ≡ t → eqb (marks p bs * 256 + cond s 0 128) 0 ≡ (s && t)
    by true true e = let e' = eqb-true (marks p bs) 0 e in eq-eqb (marks p bs * 256 + 0) 0 (omega arith)
    by true false e = let e' = eqb-false (marks p bs) 0 e in ne_eqb (marks p bs * 256 + 0) 0 (λ (k : marks p bs * 256 + 0 ≡ 0). e' (omega arith))
    by false t e = ne_eqb (marks p bs * 256 + 128) 0 (λ (k : marks p bs * 256 + 128 ≡ 0). omega arith)

-- the zero bits below the lowest mark, which count the bytes before it
zeros_below : (i k m : ℕ) → count_trailing_zeros (i + k) (m * 2 ^ i) ≡ i + count_trailing_zeros k m
unfolding count_trailing_zeros
zeros_below zero k m = rw (zero-add k, mul-one m, zero-add (count_trailing_zeros k m)) refl
zeros_below (suc i) k m = rw (suc-add i k, shifted_even m i, shifted_half m i, zeros_below i k m, suc-add) refl

zeros_odd : (k m : ℕ) → count_trailing_zeros (suc k) (m * 2 + 1) ≡ 0
unfolding count_trailing_zeros
zeros_odd k m = let e : (m * 2 + 1) % 2 ≡ 1 = omega arith in rw e refl

pub first_mark : (p : ℕ → Bool) (b : ℕ) (bs : List ℕ)
    → count_trailing_zeros (8 * suc (length bs)) (marks p (b ∷ bs)) / 8 ≡ cond (p b) (suc (count_trailing_zeros (8 * length bs) (marks p bs) / 8)) 0
unfolding marks
first_mark p b bs = by (p b)
  where
    m : ℕ
    m = marks p bs

    k : ℕ
    k = 8 * length bs

    by : (t : Bool) → count_trailing_zeros (8 * suc (length bs)) (m * 256 + cond t 0 128) / 8 ≡ cond t (suc (count_trailing_zeros k m / 8)) 0
    by true =
        let e : count_trailing_zeros (8 * suc (length bs)) (m * 256 + 0) ≡ 8 + count_trailing_zeros k m =
        ap₂ count_trailing_zeros (omega arith) (omega arith) ∙ zeros_below 8 k m in
        omega arith
    by false =
        let e : count_trailing_zeros (8 * suc (length bs)) (m * 256 + 128) ≡ 7 =
        ap₂ count_trailing_zeros (omega arith) (omega arith) ∙ zeros_below 7 (suc k) (m * 2 + 1) ∙ ap (λ (z : ℕ). 7 + z) (zeros_odd k m) in
        omega arith
