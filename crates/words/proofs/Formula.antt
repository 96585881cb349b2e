-- What &, |, ^ and + make of a word and of numbers that hold one byte in all eight lanes: it is right at every word if no sum leaves its
-- lane and it is right at each of the 256 bytes, which is computed. Assumes nothing.
use Prim.Native.Nat.{ℕ, zero, suc, ◌+◌, ◌*◌, ◌/◌, ◌%◌, ◌^◌, ◌<◌}
use mathlib.Core.Bool.{Bool, true}
use mathlib.Core.Path.{◌≡◌, refl, ap, ap₂, ◌∙◌}
use native.Mathlib.Omega.{arith}
use lib.Bits.{bit_and, bit_or, bit_xor}
use lib.Dec.{T, eqb, eqb→eq, ltb, ltb→lt}
use Rattle.lists.specs.Tab.{tab}
use Rattle.lists.proofs.Table.{both, both_left, both_right, every, at}
use Rattle.words.specs.Word.{bytes_of}
use Rattle.words.proofs.Held.{fewer_bytes}
use Rattle.words.proofs.Lanes.{Op, and, or, xor, apply, Lane, lanes, word_lane, lanes_lane, bits_lane, sum_lane}
use Rattle.words.proofs.Marks.{mark, marks}

-- made of a word, and of bytes that stand in every lane
pub data Formula : Type 0 where
  word : Formula
  byte : ℕ → Formula
  bits : Op → Formula → Formula → Formula
  sum : Formula → Formula → Formula

-- what it makes of a word, where a byte k stands for the number `of k`
abbrev pub value : (ℕ → ℕ) → Formula → ℕ → ℕ
value of word w = w
value of (byte k) w = of k
value of (bits o f g) w = apply o (value of f w) (value of g w)
value of (sum f g) w = value of f w + value of g w

-- ---- one byte
abbrev pub at_byte : Formula → ℕ → ℕ
at_byte f b = value (λ k. k) f b

-- no sum leaves the lane, at the byte b
abbrev pub stays : Formula → ℕ → Bool
stays word b = true
stays (byte k) b = ltb k 256
stays (bits o f g) b = both (stays f b) (stays g b)
stays (sum f g) b = both (ltb (at_byte f b + at_byte g b) 256) (both (stays f b) (stays g b))

-- f marks each of the 256 bytes by the test p, and nothing above them
abbrev empty_above : Formula → Bool
empty_above f = eqb (value (lanes 0) f 0) 0

abbrev marks_byte : (ℕ → Bool) → Formula → ℕ → ℕ → Bool
marks_byte p f b x = both (stays f b) (eqb (at_byte f b) (mark p b))

abbrev marks_all : (ℕ → Bool) → Formula → Bool
marks_all p f = every (marks_byte p f) 0 (tab (λ k. k) 256)

abbrev pub marks_bytes : (ℕ → Bool) → Formula → Bool
marks_bytes p f = both (empty_above f) (marks_all p f)

byte_marked : (p : ℕ → Bool) (f : Formula) → T (marks_bytes p f) → (b : ℕ) → b < 256 → T (stays f b) × (at_byte f b ≡ mark p b)
unfolding tab
byte_marked p f t b h =
    let u = at (marks_byte p f) (tab (λ k. k) 256) (both_right (empty_above f) (marks_all p f) t) b h in
    let right = eqb (at_byte f b) (mark p b) in
    (both_left (stays f b) right u, eqb→eq (at_byte f b) (mark p b) (both_right (stays f b) right u))

-- ---- n lanes: the lowest, and those above it
lane : (f : Formula) (n w : ℕ) → T (stays f (w % 256)) → Lane (value (lanes (suc n)) f w) (value (lanes n) f (w / 256)) (at_byte f (w % 256))
lane word n w t = word_lane w
lane (byte k) n w t = lanes_lane n k (ltb→lt k 256 t)
lane (bits o f g) n w t =
    let s = stays f (w % 256) in
    let u = stays g (w % 256) in
    bits_lane o (lane f n w (both_left s u t)) (lane g n w (both_right s u t))
lane (sum f g) n w t =
    let s = stays f (w % 256) in
    let u = stays g (w % 256) in
    let x = at_byte f (w % 256) + at_byte g (w % 256) in
    let v = both_right (ltb x 256) (both s u) t in
    sum_lane (lane f n w (both_left s u v)) (lane g n w (both_right s u v)) (ltb→lt x 256 (both_left (ltb x 256) (both s u) t))

lanes_marked : (p : ℕ → Bool) (f : Formula) → T (marks_bytes p f) → (n w : ℕ) → w < 256 ^ n → value (lanes n) f w ≡ marks p (bytes_of n w)
unfolding marks bytes_of
lanes_marked p f t zero w h = let e : w ≡ 0 = omega arith in ap (λ (x : ℕ). value (lanes 0) f x) e ∙ eqb→eq (value (lanes 0) f 0) 0 (both_left (empty_above f) (marks_all p f) t)
lanes_marked p f t (suc n) w h =
    let (s, e) = byte_marked p f t (w % 256) (omega arith) in
    (lane f n w s).joined ∙ ap₂ (λ (x y : ℕ). x * 256 + y) (lanes_marked p f t n (w / 256) (fewer_bytes n w h)) e

-- ---- what a program computes from a word, with the formula of it
pub record Made (w x : ℕ) : Type 0 where
  pub formula : Formula
  pub is : x ≡ value (lanes 8) formula w

abbrev pub made_word : {w : ℕ} → Made w w
made_word = record { formula = word; is = refl }

-- a number that holds one byte in all eight lanes
abbrev pub made_byte : {w : ℕ} (k : ℕ) → T (eqb k (lanes 8 (k % 256))) → Made w k
made_byte k t = record { formula = byte (k % 256); is = eqb→eq k (lanes 8 (k % 256)) t }

abbrev pub made_and : {w x y : ℕ} → Made w x → Made w y → Made w (bit_and x y)
made_and p q = record { formula = bits and p.formula q.formula; is = ap₂ bit_and p.is q.is }

abbrev pub made_or : {w x y : ℕ} → Made w x → Made w y → Made w (bit_or x y)
made_or p q = record { formula = bits or p.formula q.formula; is = ap₂ bit_or p.is q.is }

abbrev pub made_xor : {w x y : ℕ} → Made w x → Made w y → Made w (bit_xor x y)
made_xor p q = record { formula = bits xor p.formula q.formula; is = ap₂ bit_xor p.is q.is }

abbrev pub made_sum : {w x y : ℕ} → Made w x → Made w y → Made w (x + y)
made_sum p q = record { formula = sum p.formula q.formula; is = ap₂ (λ (a b : ℕ). a + b) p.is q.is }

pub made_marks : (p : ℕ → Bool) {w x : ℕ} (m : Made w x) → T (marks_bytes p m.formula) → w < 2 ^ 64 → x ≡ marks p (bytes_of 8 w)
made_marks p {w} m t h = m.is ∙ lanes_marked p m.formula t 8 w h
