-- The places of a number, filled from the last to the first, and spelt. Assumes nothing.
use Prim.Native.Nat.{ℕ, zero, suc, ◌/◌, ◌%◌, ◌<◌}
use mathlib.Core.List.{List, ◌∷◌, ◌++◌, map, append_assoc, append-nil, map-append}
use mathlib.Core.Path.{◌≡◌, refl, ◌∙◌}
use native.Mathlib.Omega.{arith}
use lib.ListN.{length, take, drop, set, length-append, length-map}
use lib.Seq.{set_split, drop_at, length-take-le, drop-length}
use Rattle.digits.specs.Digit.{digit_of, places_of, hex_digits, spelt}

pub length-places : (n v : ℕ) → length (places_of n v) ≡ n
unfolding places_of
length-places zero v = refl
length-places (suc n) v = length-append (places_of n (v / 16)) _ ∙ omega (arith, length-places n (v / 16))

pub length_digits : (n v : ℕ) → length (hex_digits n v) ≡ n
unfolding hex_digits
length_digits n v = length-map (places_of n v) digit_of ∙ length-places n v

-- the places spelt are the digits
pub spelt-places : (n v : ℕ) → map spelt (places_of n v) ≡ hex_digits n v
unfolding places_of hex_digits spelt
spelt-places zero v = refl
spelt-places (suc n) v =
    let e : v % 16 % 16 ≡ v % 16 = omega arith in
    rw (map-append, map-append, spelt-places n (v / 16), e) refl

-- one place more, before those that stand
pub places_none : (out : List ℕ) (v : ℕ) → places_of (length out) v ++ drop (length out) out ≡ places_of (length out) v
places_none out v = rw (drop-length out) (append-nil _)

pub places_more : (out : List ℕ) (n v : ℕ) → n < length out
    → places_of n (v / 16) ++ drop n (set out n (v % 16)) ≡ places_of (suc n) v ++ drop (suc n) out
unfolding places_of
places_more out n v h =
    rw (set_split out n (v % 16) h, drop_at (take n out) (v % 16 ∷ drop (suc n) out) n (length-take-le n out (omega arith)), append_assoc) refl

pub places-all : (out : List ℕ) (n v : ℕ) (all : List ℕ) → n ≡ 0 → places_of n v ++ drop n out ≡ all → out ≡ all
unfolding places_of
places-all out n v all e h = rw e at h
