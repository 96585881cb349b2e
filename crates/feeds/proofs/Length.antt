-- The length of the line that a text begins with, by its parts, and as a search for its line feed finds it. Assumes nothing.
use Prim.Native.Nat.{ℕ, zero, suc, ◌+◌, ◌≤◌, ◌<◌}
use mathlib.Core.List.{List, [], ◌∷◌}
use mathlib.Core.Logic.{◌≢◌}
use mathlib.Core.Path.{◌≡◌, refl, sym, ap}
use native.Mathlib.Nat.{zero-add}
use native.Mathlib.Omega.{arith}
use lib.ListN.{length, take, drop, drop_of_length-le}
use lib.Seq.{drop-drop}
use Rattle.std.proofs.lemmas.Bool.Decides.{nat_tests}
use Rattle.feeds.specs.Feed.{in_line, line_length}

pub length_within : (s : List ℕ) → line_length s ≤ length s
unfolding line_length
length_within [] = omega arith
length_within (b ∷ bs) = grind (arith, nat_tests, length_within bs)

-- the length where the first byte is a line feed, and where it is none
pub feed_first : (b : ℕ) (bs : List ℕ) → b ≡ 10 → line_length (b ∷ bs) ≡ 0
unfolding line_length in_line
feed_first b bs e = grind (arith, nat_tests)

pub feed_later : (b : ℕ) (bs : List ℕ) → b ≢ 10 → line_length (b ∷ bs) ≡ line_length bs + 1
unfolding line_length in_line
feed_later b bs e = grind (arith, nat_tests)

-- the length by parts: a line that ends in the first n bytes, or beyond them
pub length_found : (n : ℕ) (s : List ℕ) → line_length (take n s) < n → line_length (take n s) ≡ line_length s
unfolding line_length
length_found zero s h = absurd (omega arith)
length_found (suc n) [] h = refl
length_found (suc n) (b ∷ bs) h = grind (arith, nat_tests, length_found n bs)

pub length-beyond : (n : ℕ) (s : List ℕ) → n ≤ line_length (take n s) → line_length s ≡ n + line_length (drop n s)
unfolding line_length
length-beyond zero s h = sym (zero-add (line_length s))
length-beyond (suc n) [] h = absurd (omega arith)
length-beyond (suc n) (b ∷ bs) h = grind (arith, nat_tests, length-beyond n bs)

-- a search by words that has passed i bytes: a line feed among the eight bytes of a word, none among them, and the end
pub word_found : (s : List ℕ) (i n : ℕ) → n ≡ line_length (take 8 (drop i s)) → n < 8 → line_length s ≡ i + line_length (drop i s) → i + n ≡ line_length s
word_found s i n e h inv = let f = length_found 8 (drop i s) (omega arith) in omega arith

pub word_more : (s : List ℕ) (i n : ℕ) → n ≡ line_length (take 8 (drop i s)) → 8 ≤ n → line_length s ≡ i + line_length (drop i s)
    → line_length s ≡ i + 8 + line_length (drop (i + 8) s)
word_more s i n e h inv =
    let f = length-beyond 8 (drop i s) (omega arith) in
    let g = ap line_length (drop-drop 8 i s) in
    omega arith

pub search_end : (s : List ℕ) (i : ℕ) → length s ≤ i → i ≤ length s → line_length s ≡ i + line_length (drop i s) → length s ≡ line_length s
unfolding line_length
search_end s i h k inv =
    let f : line_length (drop i s) ≡ 0 = rw (drop_of_length-le s h) refl in
    omega arith
