-- A word as lanes of one byte each: an operation without carries works on the lowest byte and on the rest apart. Assumes nothing.
use Prim.Native.Nat.{ℕ, zero, suc, ◌+◌, ◌*◌, ◌/◌, ◌%◌, ◌^◌, ◌<◌}
use mathlib.Core.Path.{◌≡◌, refl, ap₂, ◌∙◌}
use native.Mathlib.Omega.{arith}
use lib.Bits.{bit_and, bit_or, bit_xor, and_block, or_block, xor_block, and_lt, or_lt, xor_lt}

-- x is the byte b below the word h
pub record Lane (x h b : ℕ) : Type 0 where
  pub joined : x ≡ h * 256 + b
  pub byte : b < 256

-- the byte k in each of n lanes
unfoldable pub lanes : ℕ → ℕ → ℕ
lanes zero k = 0
lanes (suc n) k = lanes n k * 256 + k

pub word_lane : (w : ℕ) → Lane w (w / 256) (w % 256)
word_lane w = record { joined = omega arith; byte = omega arith }

pub lanes_lane : (n k : ℕ) → k < 256 → Lane (lanes (suc n) k) (lanes n k) k
unfolding lanes
lanes_lane n k h = record { joined = refl; byte = h }

-- an operation bit by bit
pub data Op : Type 0 where
  and or xor : Op

abbrev pub apply : Op → ℕ → ℕ → ℕ
apply and x y = bit_and x y
apply or x y = bit_or x y
apply xor x y = bit_xor x y

module _ (op : ℕ → ℕ → ℕ)
    (block : (k a b r s : ℕ) → r < 2 ^ k → s < 2 ^ k → op (a * 2 ^ k + r) (b * 2 ^ k + s) ≡ op a b * 2 ^ k + op r s)
    (below : (k a b : ℕ) → a < 2 ^ k → b < 2 ^ k → op a b < 2 ^ k) where
  apart : {x y h j a b : ℕ} → Lane x h a → Lane y j b → Lane (op x y) (op h j) (op a b)
  apart {x} {y} {h} {j} {a} {b} p q =
      record { joined = ap₂ op p.joined q.joined ∙ block 8 h j a b p.byte q.byte; byte = below 8 a b p.byte q.byte }

pub bits_lane : (o : Op) {x y h j a b : ℕ} → Lane x h a → Lane y j b → Lane (apply o x y) (apply o h j) (apply o a b)
bits_lane and p q = apart bit_and and_block and_lt p q
bits_lane or p q = apart bit_or or_block or_lt p q
bits_lane xor p q = apart bit_xor xor_block xor_lt p q

-- a sum that does not leave its lane
pub sum_lane : {x y h j a b : ℕ} → Lane x h a → Lane y j b → a + b < 256 → Lane (x + y) (h + j) (a + b)
sum_lane {x} {y} {h} {j} {a} {b} p q l = let e = p.joined in let f = q.joined in record { joined = omega arith; byte = l }
