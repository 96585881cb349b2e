-- Loading bytes into a word and taking them out again are inverse; and a word's bytes by place. Assumes nothing.
use Prim.Native.Nat.{ℕ, zero, suc, ◌+◌, ◌*◌, ◌/◌, ◌%◌, ◌^◌, ◌≤◌, ◌<◌, suc-le-suc}
use mathlib.Core.List.{List, [], ◌∷◌}
use mathlib.Core.Path.{◌≡◌, refl, sym, ap, ◌∙◌}
use native.Mathlib.Nat.{not-suc-le-zero, le_of_suc-le-suc, zero-lt-suc, pow-succ', pow-suc, div-one, div-div-eq-div-mul}
use native.Mathlib.Omega.{arith}
use lib.Arith.{digits_div, digits_mod}
use lib.ListN.{length, drop, get_or, drop_of_length-le}
use Rattle.std.specs.Int.{w64, from_le_bytes}
use Rattle.words.specs.Word.{bytes_of, word_of}

-- ---- inverse to each other
-- the bytes of a word are those that it was made from
pub bytes_of_word : (s : List ℕ) → ((i : ℕ) → i < length s → get_or s i 0 < 256) → bytes_of (length s) (word_of s) ≡ s
unfolding word_of bytes_of
bytes_of_word [] h = refl
bytes_of_word (b ∷ bs) h =
    let k = h 0 (zero-lt-suc (length bs)) in
    rw (digits_mod (word_of bs) k, digits_div (word_of bs) k) (ap (λ (l : List ℕ). b ∷ l) (bytes_of_word bs (λ i l. h (suc i) (suc-le-suc l))))

-- a word of n bytes is the one that is made from them
pub fewer_bytes : (n w : ℕ) → w < 256 ^ suc n → w / 256 < 256 ^ n
fewer_bytes n w h = let e : w < 256 ^ n * 256 = rw (pow-suc 256 n) at h in omega arith

pub word_of_bytes : (n w : ℕ) → w < 256 ^ n → word_of (bytes_of n w) ≡ w
unfolding word_of bytes_of
word_of_bytes zero w h = omega arith
word_of_bytes (suc n) w h =
    let e : word_of (bytes_of n (w / 256)) ≡ w / 256 = word_of_bytes n (w / 256) (fewer_bytes n w h) in
    omega arith

-- so eight bytes are those of one 64-bit word alone
pub loaded_word : (w : ℕ) (s : List ℕ) → w < 2 ^ 64 → bytes_of 8 w ≡ s → w ≡ word_of s
loaded_word w s h e = sym (word_of_bytes 8 w h) ∙ ap word_of e

-- ---- by place
pub bytes_length : (n w : ℕ) → length (bytes_of n w) ≡ n
unfolding bytes_of
bytes_length zero w = refl
bytes_length (suc n) w = ap suc (bytes_length n (w / 256))

above : (w i : ℕ) → w / 256 / 256 ^ i % 256 ≡ w / 256 ^ suc i % 256
above w i = ap (λ (x : ℕ). x % 256) (div-div-eq-div-mul w 256 (256 ^ i) ∙ ap (λ (x : ℕ). w / x) (sym (pow-succ' 256 i)))

-- the byte at a place
pub byte_at : (n w i : ℕ) → i < n → get_or (bytes_of n w) i 0 ≡ w / 256 ^ i % 256
unfolding bytes_of
byte_at zero w i h = absurd (not-suc-le-zero h)
byte_at (suc n) w zero h = ap (λ (x : ℕ). x % 256) (sym (div-one w))
byte_at (suc n) w (suc i) h = byte_at n (w / 256) i (le_of_suc-le-suc h) ∙ above w i

-- ---- eight bytes read as a number, the first the lowest
word_from : (s : List ℕ) (i : ℕ) → word_of (drop i s) ≡ word_of (drop (suc i) s) * 256 + get_or s i 0
unfolding word_of
word_from [] zero = refl
word_from [] (suc i) = refl
word_from (b ∷ bs) zero = refl
word_from (b ∷ bs) (suc i) = word_from bs i

word_none : (s : List ℕ) → length s ≤ 8 → word_of (drop 8 s) ≡ 0
unfolding word_of
word_none s h = rw (drop_of_length-le s h) refl

pub bytes_read : (s : List ℕ) (w : ℕ) → length s ≡ 8 → ((i : ℕ) → i < length s → get_or s i 0 < 256) → w ≡ from_le_bytes w64 s → bytes_of 8 w ≡ s
bytes_read s w l h e =
    let z = word_none s (omega arith) in
    let f : w ≡ word_of s =
    omega (arith, word_from s 0, word_from s 1, word_from s 2, word_from s 3, word_from s 4, word_from s 5, word_from s 6, word_from s 7) in
    ap (bytes_of 8) f ∙ (rw l at (bytes_of_word s h))
